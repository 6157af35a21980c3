-- How a started statement ends, beside others that are open: what is noted for it, which files it puts, and what it replies.
-- Source: Hive Transactions (first committer wins); the replies are this project's profile.
use Rattle.std.specs.Prelude.{◌≡◌, ◌⊎◌, ℕ, ◌+◌, ◌<◌, ◌≤◌, Bool, IsTrue, IsSome, Option, Some, Ok, List, [], ◌∷◌, ◌++◌, length, take}
use Rattle.std.specs.List.{AllByRecursion}
use Rattle.hv_base.specs.declared.ids.JobId.{JobId}
use Rattle.hv_base.specs.declared.ids.TableId.{TableId}
use Rattle.hv_base.specs.declared.ids.WriteId.{WriteId}
use Rattle.hv_base.specs.declared.ids.Touch.{Touch}
use Rattle.hv_shelf.specs.declared.place.Place.{Place}
use Rattle.hv_shelf.specs.Disk.{Store}
use Rattle.hv_ast.specs.declared.statement.Stmt.{Stmt}
use Rattle.hv_logic.specs.declared.catalog.TableInfo.{TableInfo}
use Rattle.hv_logic.specs.declared.effect.Effect.{Effect}
use Rattle.hv_logic.specs.declared.meaning.Meaning.{Meaning}
use Rattle.hv_logic.specs.declared.meaning.Meaning.TheVariants.{Change, Unmake, Ask, Twice}
use Rattle.hv_route.specs.Back.{AreHeld}
use Rattle.hv_route.specs.Routes.{files_of}
use Rattle.hv_route.specs.Touching.{touches_of, touched}
use Rattle.hv_table_rows.specs.Putting.{CanPut}
use Rattle.hv_history.specs.declared.entry.Entry.{Entry}
use Rattle.hv_history.specs.declared.entry.Entry.TheVariants as entry
use Rattle.hv_history.specs.declared.entry.Cause.{Cause}
use Rattle.hv_history.specs.declared.entry.Cause.TheVariants as cause
use Rattle.hv_history.specs.declared.entry.JobKind.{JobKind}
use Rattle.hv_history.specs.declared.state.Table.{Table}
use Rattle.hv_history.specs.State.{state_of, numbered, given_in}
use Rattle.hv_history.specs.Legal.{TouchesAreMeant, IsMake, IsLegalFrom, AllFit, Rise, is_touched, profile}
use Rattle.hv_history.specs.Answers.{committed_text, ok_line}
use Rattle.hv_stands.specs.Laws.{HasFile, changes_in}
use Rattle.hv_stands.specs.Running.{Asking, AreOf, meant, IsUnderWay, HasAnswered}
use Rattle.hv_table_reader.specs.hv_acts.specs.Answers.{OpensNone}
use Rattle.hv_table_reader.specs.hv_acts.specs.Meant.{places_of_files, IsNoEnd}
use Rattle.hv_table_reader.specs.hv_acts.specs.hv_telling.specs.hv_house.specs.declared.fault.HouseFault.{HouseFault}
use Rattle.hv_table_reader.specs.hv_acts.specs.hv_telling.specs.hv_house.specs.declared.house.House.{House}
use Rattle.hv_table_reader.specs.hv_acts.specs.hv_telling.specs.hv_house.specs.House.{entries_of, IsSmall, Leaves}
use Rattle.hv_table_reader.specs.hv_acts.specs.hv_telling.specs.Telling.{IsToldHouse}
use Rattle.hv_steps.specs.declared.ready.Ready.{Ready}
use Rattle.hv_steps.specs.declared.ready.Reply.{Reply}
use Rattle.hv_steps.specs.declared.ready.End.{End}
use Rattle.hv_steps.specs.declared.ready.End.TheVariants as end
use Rattle.hv_steps.specs.declared.reply.Done.TheVariants as done
use Rattle.hv_steps.specs.declared.reply.Prepared.{Prepared}
use Rattle.hv_steps.specs.declared.reply.Prepared.TheVariants as prepared

-- ---- the entry by which a transaction ends

abbrev pub IsEndOf : ℕ → Entry → Type 0
IsEndOf txn (entry.Commit other wrote) = other.0 ≡ txn
IsEndOf txn (entry.Create other table) = other.0 ≡ txn
IsEndOf txn (entry.Drop other table) = other.0 ≡ txn
IsEndOf txn (entry.Abort other why) = other.0 ≡ txn
IsEndOf txn event = ⊥

-- the entry at this place of the book, from 0, is that by which it ended
pub record HasEndedAt (book : List Entry) (txn : ℕ) (ended : Option ℕ) : Type 0 where
  pub front : List Entry
  pub event : Entry
  pub rest : List Entry
  pub book_is : book ≡ front ++ event ∷ rest
  pub ends : IsEndOf txn event
  pub place : ended ≡ Some (length front)

-- it has ended: this is its answer, whether that is a refusal, and the place of the entry that ended it
pub record HasReplied (book : List Entry) (txn : ℕ) (reply : List ℕ) (refused : Bool) (ended : Option ℕ) : Type 0 where
  pub answered : HasAnswered book txn reply refused
  pub ended_at : HasEndedAt book txn ended

-- ---- entries of one statement

-- a count that an entry keeps of a failed call is one by which the store's count rose meanwhile
abbrev pub KeepsCount : ℕ → ℕ → Entry → Type 0
KeepsCount low high (entry.Abort txn (cause.ReadFault count)) = (low < count) × (count ≤ high)
KeepsCount low high (entry.Abort txn (cause.WriteFault count)) = (low < count) × (count ≤ high)
KeepsCount low high event = Unit {0}

-- no entry says that a file is damaged
abbrev pub IsUndamaged : Entry → Type 0
IsUndamaged (entry.Abort txn (cause.Damaged place)) = ⊥
IsUndamaged event = Unit {0}

-- the book went on by entries of this transaction alone
pub record AddsOf (txn low high : ℕ) (before now : List Entry) : Type 0 where
  pub added : List Entry
  pub book : now ≡ before ++ added
  pub of_it : AreOf txn added
  pub counts : AllByRecursion (KeepsCount low high) added

abbrev pub giving : ℕ → TableId → WriteId → Entry
giving txn table write = entry.Given (record { 0 = txn }) table write

abbrev pub aborting : ℕ → Cause → Entry
aborting txn why = entry.Abort (record { 0 = txn }) why

-- the job that this transaction asks for
abbrev pub job_asked : ℕ → JobId → TableId → List ℕ → JobKind → Entry
job_asked txn job table partition kind = entry.Asked job table partition kind txn

-- the abort of that one which this transaction asks for
abbrev pub asking_for : ℕ → ℕ → Entry
asking_for txn other = entry.Abort (record { 0 = other }) (cause.Request (record { 0 = txn }))

abbrev pub creating : ℕ → TableId → Entry
creating txn table = entry.Create (record { 0 = txn }) table

abbrev pub dropping : ℕ → TableId → Entry
dropping txn table = entry.Drop (record { 0 = txn }) table

abbrev pub committing : ℕ → List Touch → Entry
committing txn wrote = entry.Commit (record { 0 = txn }) wrote

-- ---- what a meaning rests on where it is to be ended

-- a change of these rows: its table is there, it is within its limits, and the rows fit their files
pub record CanChange (book : List Entry) (info : TableInfo) (effect : Effect) : Type 0 where
  pub table : Table
  pub here : numbered (state_of book).tables info.table.0 ≡ Some table
  pub same : table.info ≡ info
  pub within : touched info effect ≡ Ok (touches_of info effect)
  pub fit : (write : ℕ) → 1 ≤ write → AllByRecursion CanPut (files_of info.shape write 0 effect)

-- the partition's text of a MERGE that comes to Twice is short enough for the entry of its abort, and that of a compaction for its Asked
abbrev pub CanEnd : List Entry → Meaning → Type 0
CanEnd book (Change info effect) = CanChange book info effect
CanEnd book (Twice partition row) = length partition ≤ 240
CanEnd book (Ask table partition kind) = length partition ≤ 240
CanEnd book _ = Unit {0}

-- the touches of a commit rise, and are of the table in which its transaction has a write id
pub record IsWellTouched (given : List (ℕ × ℕ)) (wrote : List Touch) : Type 0 where
  pub rise : Rise wrote
  pub own : AllByRecursion (λ touch. (0 < touch.inserted + touch.deleted) × IsSome (given_in touch.table.0 given)) wrote
  pub used : AllByRecursion (λ id. IsTrue (is_touched wrote id)) given

-- these are the touches of a change, and the places are those of all its files under the write id that was given
pub record IsOfChange (book : List Entry) (given : List (ℕ × ℕ)) (wrote : List Touch)
    (places : List Place) : Type 0 where
  pub info : TableInfo
  pub effect : Effect
  pub can : CanChange book info effect
  pub write : ℕ
  pub touches : wrote ≡ touches_of info effect
  pub id : given ≡ (info.table.0, write) ∷ []
  pub places_are : places ≡ places_of_files info.table.0 write (files_of info.shape write 0 effect)

-- its commit can be noted where it meets no conflict, and all files of what it touches were put
pub record CommitCanEnd (book : List Entry) (txn : ℕ) (given : List (ℕ × ℕ)) (wrote : List Touch)
    (places : List Place) : Type 0 where
  pub small : IsSmall (committing txn wrote)
  pub touched : IsWellTouched given wrote
  pub change : (wrote ≡ []) ⊎ IsOfChange book given wrote places

-- the end of a statement that touches nothing
abbrev pub idle_end : End
idle_end = end.Commit [] [] []

abbrev pub EndCanBeNoted : List Entry → ℕ → List (ℕ × ℕ) → End → Type 0
EndCanBeNoted book txn given (end.Commit wrote name put) = CommitCanEnd book txn given wrote put
EndCanBeNoted book txn given end.Create = Unit {0}
EndCanBeNoted book txn given (end.Drop table) = Unit {0}

-- ---- a statement of which all is done but its end

-- it means this change and has its write id; its files can be read again, and these are their places
pub record IsChangeReady (meaning : Option Meaning) (given : List (ℕ × ℕ)) (name : List ℕ)
    (put : List Place) : Type 0 where
  pub info : TableInfo
  pub effect : Effect
  pub write : ℕ
  pub is_change : meaning ≡ Some (Change info effect)
  pub named : name ≡ info.shape.name
  pub id : given ≡ (info.table.0, write) ∷ []
  pub held : AreHeld effect.inserts
  pub encoded : AllByRecursion HasFile (files_of info.shape write 0 effect)
  pub places : put ≡ places_of_files info.table.0 write (files_of info.shape write 0 effect)

-- the touches are those that it means, the reply is theirs, and where it has a write id it is ready with that change; without one it touches nothing
pub record CommitIsReady (meaning : Option Meaning) (given : List (ℕ × ℕ)) (wrote : List Touch) (name : List ℕ)
    (put : List Place) (text : List ℕ) : Type 0 where
  pub meant : TouchesAreMeant wrote meaning
  pub reply : text ≡ committed_text meaning wrote
  pub files_are : ((given ≡ []) × (wrote ≡ [])) ⊎ IsChangeReady meaning given name put

pub record CreateIsReady (meaning : Option Meaning) (given : List (ℕ × ℕ)) (text : List ℕ) : Type 0 where
  pub makes : IsMake meaning
  pub reply : text ≡ ok_line
  pub none : given ≡ []

pub record DropIsReady (meaning : Option Meaning) (given : List (ℕ × ℕ)) (table : TableId)
    (text : List ℕ) : Type 0 where
  pub drops : meaning ≡ Some (Unmake table)
  pub reply : text ≡ ok_line
  pub none : given ≡ []

abbrev pub EndIsTrue : Option Meaning → List (ℕ × ℕ) → End → List ℕ → Type 0
EndIsTrue meaning given (end.Commit wrote name put) text = CommitIsReady meaning given wrote name put text
EndIsTrue meaning given end.Create text = CreateIsReady meaning given text
EndIsTrue meaning given (end.Drop table) text = DropIsReady meaning given table text

-- ---- what preparing it adds to the book

-- an abort by which it ends before its commit
abbrev pub EndsUncommitted : Cause → Type 0
EndsUncommitted (cause.Conflict by table partition) = ⊥
EndsUncommitted (cause.Request by) = ⊥
EndsUncommitted why = Unit {0}

-- it asks for the abort of another transaction
pub record IsAskBy (txn : ℕ) (event : Entry) : Type 0 where
  pub other : ℕ
  pub event_is : event ≡ asking_for txn other
  pub apart : other ≡ txn → ⊥

abbrev pub AddsId : ℕ → List Entry → Type 0
AddsId txn added = (table : TableId) × (write : WriteId) × (added ≡ giving txn table write ∷ [])

abbrev pub AddsJob : ℕ → List Entry → Type 0
AddsJob txn added =
    (job : JobId) × (table : TableId) × (partition : List ℕ) × (kind : JobKind)
    × (added ≡ job_asked txn job table partition kind ∷ [])

-- a write id, or the job that it asks for, or none of these
abbrev pub AddsNoneOrOne : ℕ → List Entry → Type 0
AddsNoneOrOne txn added = (added ≡ []) ⊎ (AddsId txn added ⊎ AddsJob txn added)

abbrev pub AddsAbort : ℕ → List Entry → Type 0
AddsAbort txn added =
    (first : List Entry) × (why : Cause) × AddsNoneOrOne txn first × EndsUncommitted why
    × (added ≡ first ++ aborting txn why ∷ [])

-- a write id is asked for by a change of rows, in its table
abbrev pub IsOfRows : TableId → Meaning → Type 0
IsOfRows table (Change info effect) = (table ≡ info.table) × (0 < changes_in effect)
IsOfRows table meaning = ⊥

abbrev pub IsAskedBy : Meaning → Entry → Type 0
IsAskedBy meaning (entry.Given txn table write) = IsOfRows table meaning
IsAskedBy meaning event = Unit {0}

-- what was added asks for no write id but that of such a change
pub record AddsAsked (meaning : Meaning) (before now : List Entry) : Type 0 where
  pub added : List Entry
  pub book : now ≡ before ++ added
  pub asked : AllByRecursion (IsAskedBy meaning) added

-- it was aborted for this cause, or since memory lacked for that
pub record IsAborted (txn : ℕ) (why : Cause) (before now : List Entry) : Type 0 where
  pub of : Cause
  pub is : (of ≡ why) ⊎ (of ≡ cause.Memory)
  pub book : now ≡ before ++ aborting txn of ∷ []

abbrev pub PreparesBy : ℕ → Prepared → List Entry → Type 0
PreparesBy txn (prepared.Ready ready) added = AddsNoneOrOne txn added
PreparesBy txn (prepared.Ended found) added = AddsAbort txn added

pub record Prepares (txn low high : ℕ) (before now : List Entry) (found : Prepared) : Type 0 where
  pub added : List Entry
  pub book : now ≡ before ++ added
  pub shape : PreparesBy txn found added
  pub of_it : AreOf txn added
  pub counts : AllByRecursion (KeepsCount low high) added
  pub undamaged : AllByRecursion IsUndamaged added

-- it is one entry, which ends its transaction
abbrev pub IsOneEnd : ℕ → List Entry → Type 0
IsOneEnd txn added = (last : Entry) × (IsNoEnd txn last → ⊥) × (added ≡ last ∷ [])

-- ending it adds just one entry, which is its own and ends it, and doesn't say that a file is damaged
pub record Concludes (txn low high : ℕ) (before now : List Entry) : Type 0 where
  pub added : List Entry
  pub book : now ≡ before ++ added
  pub of_it : AreOf txn added
  pub counts : AllByRecursion (KeepsCount low high) added
  pub undamaged : AllByRecursion IsUndamaged added
  pub ends : IsOneEnd txn added

-- what stands of it then, whatever is told: it is under way, and its end can be noted
pub record IsReadyToEnd (book : List Entry) (asking : Asking) (txn place : ℕ) (said : Stmt)
    (ready : Ready) : Type 0 where
  pub given : List (ℕ × ℕ)
  pub under_way : IsUnderWay book asking txn place said given
  pub can : EndCanBeNoted book txn given ready.end

abbrev pub IsPreparedIn : List Entry → Asking → ℕ → ℕ → Stmt → Prepared → Type 0
IsPreparedIn book asking txn place said (prepared.Ready ready) = IsReadyToEnd book asking txn place said ready
IsPreparedIn book asking txn place said (prepared.Ended found) = Unit {0}

-- and as it means: it will end so, or it has ended, by nobody else
pub record IsTrulyReady (book : List Entry) (asking : Asking) (txn place : ℕ) (said : Stmt)
    (ready : Ready) : Type 0 where
  pub to_end : IsReadyToEnd book asking txn place said ready
  pub truly : EndIsTrue (meant (take place book) said) to_end.given ready.end ready.text

abbrev pub IsTrulyPrepared : List Entry → Asking → ℕ → ℕ → Stmt → Prepared → Type 0
IsTrulyPrepared book asking txn place said (prepared.Ready ready) = IsTrulyReady book asking txn place said ready
IsTrulyPrepared book asking txn place said (prepared.Ended (done.Replied reply)) = HasReplied book txn reply.text
    reply.refused reply.ended
IsTrulyPrepared book asking txn place said (prepared.Ended (done.Gone reply)) = ⊥

-- ---- where it ended

-- the reply names the place of the book's last entry
abbrev pub NamesLast : List Entry → Reply → Type 0
NamesLast now reply = (place : ℕ) × (reply.ended ≡ Some place) × (length now ≡ place + 1)

abbrev pub EndedNamesLast : List Entry → Prepared → Type 0
EndedNamesLast now (prepared.Ready ready) = Unit {0}
EndedNamesLast now (prepared.Ended (done.Replied reply)) = NamesLast now reply
EndedNamesLast now (prepared.Ended (done.Gone reply)) = ⊥

-- ---- the run stopped in a statement

-- Its entries so far fit behind the book, where the house is told they are legal, and none ends it. The journal reads to the book, or where
-- the store failed, to the book or to the book and one entry more of it, which fits behind the book and is no Opened.
pub record HasStopped {D : Type 0} (told : D → Option Store) (txn : ℕ) (why : HouseFault)
    (before now : House D) : Type 0 where
  pub added : List Entry
  pub book : entries_of now ≡ entries_of before ++ added
  pub of_it : AreOf txn added
  pub fits : AllFit profile (state_of (entries_of before)) added
  pub legal : IsToldHouse told before → IsLegalFrom profile (state_of (entries_of before)) added
  pub unended : AllByRecursion (IsNoEnd txn) added
  pub further : List Entry
  pub further_of_it : AreOf txn further
  pub unopened : AllByRecursion OpensNone further
  pub few : length further ≤ 1
  pub fit : AllFit profile (state_of (entries_of now)) further
  pub leaves : Leaves why further (told now.shelf) (entries_of now)
