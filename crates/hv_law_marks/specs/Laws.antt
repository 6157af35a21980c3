-- What is proved of marks: each item that a trail gains keeps them true of the files, and with them a transaction knows its files.
use Rattle.std.specs.Prelude.{◌≡◌, ℕ, ◌+◌, ◌<◌, Bool, false, Option, Some, None, List, [], ◌∷◌, ◌++◌, length, map, take}
use Rattle.std.specs.List.{AllByRecursion}
use Rattle.std.specs.FinMap as tree
use Rattle.hv_base.specs.declared.ids.Limits.{Limits}
use Rattle.hv_shelf.specs.declared.place.Place.{Place}
use Rattle.hv_shelf.specs.Disk.{Tree}
use Rattle.hv_ast.specs.declared.statement.Stmt.{Stmt}
use Rattle.hv_logic.specs.declared.catalog.TableInfo.{TableInfo}
use Rattle.hv_logic.specs.declared.effect.Effect.{Effect}
use Rattle.hv_logic.specs.declared.meaning.Meaning.TheVariants.{Change}
use Rattle.hv_route.specs.Back.{AreHeld}
use Rattle.hv_route.specs.Routes.{files_of}
use Rattle.hv_history.specs.declared.entry.Entry.{Entry}
use Rattle.hv_history.specs.declared.state.Transaction.{Transaction}
use Rattle.hv_history.specs.State.{State, state_of, nothing_yet, numbered}
use Rattle.hv_history.specs.Legal.{Fits, AllFit}
use Rattle.hv_dirs.specs.Names.{write_end}
use Rattle.hv_stands.specs.Laws.{HasFile}
use Rattle.hv_stands.specs.Running.{Asking, meant, IsUnderWay, IsOfId, HasPut}
use Rattle.hv_law_filed.specs.hv_law_made.specs.Standing.{Standing}
use Rattle.hv_trail.specs.declared.trail.Reader.{Reader}
use Rattle.hv_trail.specs.declared.trail.Mark.TheVariants.{Wrote, Broke}
use Rattle.hv_trail.specs.declared.trail.TrailItem.{TrailItem}
use Rattle.hv_trail.specs.declared.trail.TrailItem.TheVariants.{Noted, Marked}
use Rattle.hv_trail.specs.Trail.{book_of, state_at, is_reader, broken}
use Rattle.hv_trail.specs.Lasting.{Has, IsGiven}
use Rattle.hv_trail.specs.Own.{AllSpare}
use Rattle.hv_law_marks.specs.Marked.{by_txn, IsChanging, IsOwnPlace, MarksStand, IsWhollyPut, IsFileOf}

-- the book of the trail fits, and its write ids have names
pub record IsFitting (limits : Limits) (trail : List TrailItem) : Type 0 where
  pub fit : AllFit limits nothing_yet (book_of trail)
  pub few : length (book_of trail) < write_end

-- ---- what others add leaves it; that marks last is hv_trail's

-- the item isn't of a call that failed for this reader
abbrev pub IsNoFaultOf : Reader → TrailItem → Type 0
IsNoFaultOf reader (Marked (Broke by put count)) = is_reader reader by ≡ false
IsNoFaultOf reader item = Unit {0}

-- one for which no call failed stays so while no further one fails for it
abbrev pub UnbrokenStays : Type 0
UnbrokenStays =
    (trail more : List TrailItem) (reader : Reader) → AllByRecursion (IsNoFaultOf reader) more
    → broken reader trail ≡ None → broken reader (trail ++ more) ≡ None

-- and all that a transaction put stays so, where its own entries don't follow
abbrev pub PutStays : Type 0
PutStays =
    (trail more : List TrailItem) (txn : ℕ) (info : TableInfo) (effect : Effect) (write : ℕ)
    → AllSpare txn more → AllByRecursion (IsNoFaultOf (by_txn txn)) more
    → IsWhollyPut trail txn info effect write → IsWhollyPut (trail ++ more) txn info effect write

-- ---- what keeps them true of the files

-- a trail without marks, with no transaction that is open: that of a house just opened
abbrev pub AllHaveEnded : State → Type 0
AllHaveEnded state = (txn : ℕ) (transaction : Transaction) → numbered state.transactions txn ≡ Some transaction → transaction.ending ≡ None → ⊥

abbrev pub OpenedMarksStand : Type 0
OpenedMarksStand = (book : List Entry) (files : Tree) → AllHaveEnded (state_of book) → MarksStand (map Noted book) files

-- an entry that fits, whoever's it is
abbrev pub NotedMarksStand : Type 0
NotedMarksStand =
    (limits : Limits) (trail : List TrailItem) (event : Entry) (files : Tree)
    → AllFit limits nothing_yet (book_of trail) → length (book_of trail) + 1 < write_end → Fits limits (state_at trail) event
    → Standing (state_at trail) files → MarksStand trail files → MarksStand (trail ++ Noted event ∷ []) files

-- a file of the change of an open transaction, which is put
abbrev pub PutMarksStand : Type 0
PutMarksStand =
    (limits : Limits) (trail : List TrailItem) (files : Tree) (txn : ℕ) (info : TableInfo) (effect : Effect) (write : ℕ) (place : Place) (bytes : List ℕ)
    → IsFitting limits trail → IsChanging (state_at trail) txn info effect write → IsFileOf info effect write place bytes
    → MarksStand trail files → MarksStand (trail ++ Marked (Wrote (by_txn txn) place) ∷ []) (tree.insert files place bytes)

-- a put in an own directory that failed, whatever it left there: elsewhere the files are as they were
abbrev pub BrokenMarksStand : Type 0
BrokenMarksStand =
    (limits : Limits) (trail : List TrailItem) (before now : Tree) (txn : ℕ) (place : Place) (put : Bool) (count : ℕ)
    → IsFitting limits trail → IsOwnPlace (state_at trail).tables txn place
    → ((other : Place) → (other ≡ place → ⊥) → tree.get now other ≡ tree.get before other)
    → MarksStand trail before → MarksStand (trail ++ Marked (Broke (Some (by_txn txn)) put count) ∷ []) now

-- a call that failed and left the files as they are
abbrev pub UnreadMarksStand : Type 0
UnreadMarksStand =
    (trail : List TrailItem) (files : Tree) (by : Option Reader) (put : Bool) (count : ℕ)
    → MarksStand trail files → MarksStand (trail ++ Marked (Broke by put count) ∷ []) files

-- ---- what they are for

-- a statement that is under way, means a change and has its write id
abbrev pub ChangesAreOpen : Type 0
ChangesAreOpen =
    (book : List Entry) (asking : Asking) (txn place : ℕ) (said : Stmt) (info : TableInfo) (effect : Effect) (write : ℕ)
    → IsUnderWay book asking txn place said ((info.table.0, write) ∷ []) → meant (take place book) said ≡ Some (Change info effect)
    → IsChanging (state_of book) txn info effect write

-- places in own directories of a write id are those of the transaction that it was given to
abbrev pub GivenPlacesAreOwn : Type 0
GivenPlacesAreOwn =
    (limits : Limits) (trail : List TrailItem) (txn table write : ℕ) (place : Place)
    → AllFit limits nothing_yet (book_of trail) → Has trail txn (IsGiven table write) → IsOfId table write place
    → IsOwnPlace (state_at trail).tables txn place

-- Of what was wholly put just the files stand in its own directories, and they can be read again, as its rows are held.
abbrev pub MarksGiveFiles : Type 0
MarksGiveFiles =
    (limits : Limits) (trail : List TrailItem) (files : Tree) (txn : ℕ) (info : TableInfo) (effect : Effect) (write : ℕ)
    → IsFitting limits trail → MarksStand trail files → IsWhollyPut trail txn info effect write
    → AllByRecursion HasFile (files_of info.shape write 0 effect) → AreHeld effect.inserts
    → HasPut files info write effect
