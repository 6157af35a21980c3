-- What is proved of a statement on its way through the book, beside any others: what each of its entries leaves, that entries of
-- others leave it alone, and that its files stand.
use Rattle.std.specs.Prelude.{◌≡◌, ℕ, ◌+◌, ◌<◌, ◌≤◌, Bool, false, true, Some, None, List, [], ◌∷◌, ◌++◌, length, map, take}
use Rattle.std.specs.List.{AllByRecursion}
use Rattle.std.specs.FinMap as tree
use Rattle.hv_base.specs.declared.ids.TableId.{TableId}
use Rattle.hv_base.specs.declared.ids.WriteId.{WriteId}
use Rattle.hv_base.specs.declared.ids.Touch.{Touch}
use Rattle.hv_shelf.specs.declared.place.Place.{Place}
use Rattle.hv_shelf.specs.Disk.{Store}
use Rattle.hv_ast.specs.declared.statement.Stmt.{Stmt}
use Rattle.hv_history.specs.hv_built.specs.Running.{Runs}
use Rattle.hv_history.specs.hv_meaning.specs.hv_typing.specs.hv_logic.specs.declared.catalog.TableInfo.{TableInfo}
use Rattle.hv_history.specs.hv_meaning.specs.hv_typing.specs.hv_logic.specs.declared.effect.Effect.{Effect}
use Rattle.hv_history.specs.hv_meaning.specs.hv_typing.specs.hv_logic.specs.declared.meaning.Meaning.TheVariants.{Change}
use Rattle.hv_history.specs.hv_meaning.specs.hv_typing.specs.Columns.{columns_of}
use Rattle.hv_history.specs.hv_meaning.specs.Meaning.{info_of, meaning_in}
use Rattle.hv_history.specs.hv_meaning.specs.Needs.{Needs, KeepMeaning}
use Rattle.hv_history.specs.hv_meaning.specs.hv_route.specs.Routes.{files_of}
use Rattle.hv_history.specs.declared.entry.Entry.{Entry}
use Rattle.hv_history.specs.declared.entry.Entry.TheVariants as entry
use Rattle.hv_history.specs.declared.entry.Cause.{Cause}
use Rattle.hv_history.specs.declared.state.Table.{Table}
use Rattle.hv_history.specs.Shown.{filled, listed_for}
use Rattle.hv_history.specs.State.{state_of, nothing_yet, numbered, seen_table}
use Rattle.hv_history.specs.Legal.{Fits, AllFit, profile}
use Rattle.hv_history.specs.Answers.{committed_text, ok_line, cause_text}
use Rattle.hv_dirs.specs.Names.{write_end}
use Rattle.hv_stands.specs.Sound.{IsSound}
use Rattle.hv_stands.specs.Reading.{tables_named, seen_read, HasSaidRows}
use Rattle.hv_stands.specs.Laws.{CanBeFile}
use Rattle.hv_stands.specs.Running.{Asking, next_number, opening, starting, meant, snapshot_at, AreNotOf, IsWaiting, IsUnderWay, HasAnswered, IsOfId, HasPut, KeepsGiven}

abbrev pub AllFitting : List Entry → Type 0
AllFitting book = AllFit profile nothing_yet book

-- ---- its entries, one by one

abbrev pub Opens : Type 0
Opens =
    (book : List Entry) (asking : Asking) (said : Stmt) → Runs asking.text said
    → IsWaiting (book ++ opening book asking ∷ []) asking (next_number book) said

abbrev pub Starts : Type 0
Starts =
    (book : List Entry) (asking : Asking) (txn : ℕ) (said : Stmt) → IsWaiting book asking txn said
    → IsUnderWay (book ++ starting txn ∷ []) asking txn (length book) said []

-- both at once
abbrev pub Begins : Type 0
Begins =
    (book : List Entry) (asking : Asking) (said : Stmt) → Runs asking.text said
    → IsUnderWay (book ++ opening book asking ∷ starting (next_number book) ∷ []) asking (next_number book) (length book + 1) said []

abbrev pub IdsAreGiven : Type 0
IdsAreGiven =
    (book : List Entry) (asking : Asking) (txn place : ℕ) (said : Stmt) (given : List (ℕ × ℕ)) (table : TableId) (write : WriteId)
    → IsUnderWay book asking txn place said given
    → IsUnderWay (book ++ entry.Given (record { 0 = txn }) table write ∷ []) asking txn place said (given ++ (table.0, write.0) ∷ [])

abbrev pub CommitsAnswer : Type 0
CommitsAnswer =
    (book : List Entry) (asking : Asking) (txn place : ℕ) (said : Stmt) (given : List (ℕ × ℕ)) (wrote : List Touch)
    → IsUnderWay book asking txn place said given
    → HasAnswered (book ++ entry.Commit (record { 0 = txn }) wrote ∷ []) txn (committed_text (meant (take place book) said) wrote) false

abbrev pub CreatesAnswer : Type 0
CreatesAnswer =
    (book : List Entry) (asking : Asking) (txn place : ℕ) (said : Stmt) (given : List (ℕ × ℕ)) (table : TableId)
    → IsUnderWay book asking txn place said given
    → HasAnswered (book ++ entry.Create (record { 0 = txn }) table ∷ []) txn ok_line false

abbrev pub DropsAnswer : Type 0
DropsAnswer =
    (book : List Entry) (asking : Asking) (txn place : ℕ) (said : Stmt) (given : List (ℕ × ℕ)) (table : TableId)
    → IsUnderWay book asking txn place said given
    → HasAnswered (book ++ entry.Drop (record { 0 = txn }) table ∷ []) txn ok_line false

abbrev pub AbortsAnswer : Type 0
AbortsAnswer =
    (book : List Entry) (asking : Asking) (txn place : ℕ) (said : Stmt) (given : List (ℕ × ℕ)) (why : Cause)
    → IsUnderWay book asking txn place said given
    → HasAnswered (book ++ entry.Abort (record { 0 = txn }) why ∷ []) txn (cause_text (Some (snapshot_at book place)) why) true

-- one that hasn't started is aborted
abbrev pub WaitingAbortsAnswer : Type 0
WaitingAbortsAnswer =
    (book : List Entry) (asking : Asking) (txn : ℕ) (said : Stmt) (why : Cause) → IsWaiting book asking txn said
    → HasAnswered (book ++ entry.Abort (record { 0 = txn }) why ∷ []) txn (cause_text None why) true

-- ---- what follows leaves it alone

abbrev pub OthersLeaveIt : Type 0
OthersLeaveIt =
    (book more : List Entry) (asking : Asking) (txn place : ℕ) (said : Stmt) (given : List (ℕ × ℕ)) → AreNotOf txn more
    → IsUnderWay book asking txn place said given → IsUnderWay (book ++ more) asking txn place said given

abbrev pub AnswersStay : Type 0
AnswersStay =
    (book more : List Entry) (txn : ℕ) (reply : List ℕ) (refused : Bool) → HasAnswered book txn reply refused → HasAnswered (book ++ more) txn reply refused

-- ---- what a fitting book is

abbrev pub FittingIsSound : Type 0
FittingIsSound = (book : List Entry) → AllFitting book → IsSound (state_of book)

-- each front of it fits, and so does an entry more that fits
abbrev pub FrontsFit : Type 0
FrontsFit = (book : List Entry) (place : ℕ) → AllFitting book → AllFitting (take place book)

abbrev pub OneMoreFits : Type 0
OneMoreFits = (book : List Entry) (event : Entry) → AllFitting book → Fits profile (state_of book) event → AllFitting (book ++ event ∷ [])

-- an entry that fits has room in the journal
abbrev pub FittingHasRoom : Type 0
FittingHasRoom = (book : List Entry) (event : Entry) → AllFitting book → Fits profile (state_of book) event → length book < profile.entries

-- ---- what it sees and changes

-- where the rows that stand are said by their partitions' texts: what it means comes of the tables that it names, as they stood at its
-- snapshot, with the rows of the partitions that it needs, and of what a SHOW lists
abbrev pub SeeingIsEnough : Type 0
SeeingIsEnough =
    (book : List Entry) (said : Stmt) (needs : Needs) → AllFitting book → AllByRecursion HasSaidRows (state_of book).tables
    → KeepMeaning said (map info_of (map seen_table (tables_named said (state_of book).tables))) needs
    → filled (listed_for (state_of book) said) (meaning_in said (seen_read needs said (state_of book).tables)) ≡ meant book said

-- the table that it changes was there at its snapshot
abbrev pub ChangedTableStood : Type 0
ChangedTableStood =
    (book : List Entry) (said : Stmt) (info : TableInfo) (effect : Effect) → AllFitting book → meant book said ≡ Some (Change info effect)
    → (table : Table) × (numbered (state_of book).tables info.table.0 ≡ Some table) × (table.info ≡ info)

-- and is there with the same description whatever follows
abbrev pub TablesStay : Type 0
TablesStay =
    (book : List Entry) (place number : ℕ) (table : Table) → AllFitting book → numbered (state_of (take place book)).tables number ≡ Some table
    → (now : Table) × (numbered (state_of book).tables number ≡ Some now) × (now.info ≡ table.info)

abbrev pub EffectsCanBeWritten : Type 0
EffectsCanBeWritten =
    (book : List Entry) (said : Stmt) (info : TableInfo) (effect : Effect) (write : ℕ)
    → AllFitting book → meant book said ≡ Some (Change info effect) → 1 ≤ write → length (columns_of info.shape) ≤ 65535
    → AllByRecursion CanBeFile (files_of info.shape write 0 effect)

-- ---- its files

-- its files stay while those of write ids that were given stay
abbrev pub PutFilesStay : Type 0
PutFilesStay =
    (book : List Entry) (asking : Asking) (txn place : ℕ) (said : Stmt) (info : TableInfo) (effect : Effect) (write : ℕ) (before now : Store)
    → AllFitting book → IsUnderWay book asking txn place said ((info.table.0, write) ∷ [])
    → KeepsGiven (state_of book).tables before now → HasPut before.tree info write effect → HasPut now.tree info write effect

-- files in own directories of the next write id of a table are of none that was given
abbrev pub NewIdsAreOthers : Type 0
NewIdsAreOthers =
    (book : List Entry) (number : ℕ) (table : Table) (before now : Store)
    → AllFitting book → length book + 1 < write_end → numbered (state_of book).tables number ≡ Some table
    → ((other : Place) → (IsOfId number (length table.owners + 1) other → ⊥) → tree.get now.tree other ≡ tree.get before.tree other)
    → KeepsGiven (state_of book).tables before now

-- and what keeps the files of a later book's write ids keeps those of an earlier one's
abbrev pub EarlierIdsAreKept : Type 0
EarlierIdsAreKept =
    (book more : List Entry) (before now : Store) → AllFitting (book ++ more)
    → KeepsGiven (state_of (book ++ more)).tables before now → KeepsGiven (state_of book).tables before now
