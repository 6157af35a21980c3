-- What the steps of preparing a statement come to: a write id is taken, files are put, and what becomes of one where an act was refused.
-- Source: Hive Transactions; the replies are this project's profile.
use Rattle.std.specs.Prelude.{◌≡◌, ℕ, ◌<◌, ◌≤◌, true, Option, Some, None, IsSomeAnd, List, [], ◌∷◌, length, take, Result, Ok, Err}
use Rattle.std.specs.List.{AllByRecursion}
use Rattle.hv_base.specs.declared.ids.TableId.{TableId}
use Rattle.hv_base.specs.declared.ids.TxnId.{TxnId}
use Rattle.hv_shelf.specs.declared.place.Place.{Place}
use Rattle.hv_shelf.specs.Disk.{Store}
use Rattle.hv_ast.specs.declared.statement.Stmt.{Stmt}
use Rattle.hv_ast.specs.declared.table.CompactionKind.{CompactionKind}
use Rattle.hv_dirs.specs.Names.{write_end}
use Rattle.hv_logic.specs.declared.catalog.TableInfo.{TableInfo}
use Rattle.hv_logic.specs.declared.effect.Effect.{Effect}
use Rattle.hv_logic.specs.declared.meaning.Meaning.TheVariants.{Change, Ask}
use Rattle.hv_route.specs.Back.{AreHeld}
use Rattle.hv_route.specs.Routes.{files_of}
use Rattle.hv_route.specs.declared.files.OutFile.{OutFile}
use Rattle.hv_history.specs.declared.entry.Entry.{Entry}
use Rattle.hv_history.specs.declared.entry.Cause.{Cause}
use Rattle.hv_history.specs.declared.entry.Cause.TheVariants as cause
use Rattle.hv_history.specs.declared.state.Table.{Table}
use Rattle.hv_history.specs.JobsTrue.{ask_of}
use Rattle.hv_history.specs.State.{numbered}
use Rattle.hv_stands.specs.Files.{place_of_file}
use Rattle.hv_stands.specs.Laws.{HasFile}
use Rattle.hv_stands.specs.Running.{Asking, meant}
use Rattle.hv_trail.specs.Trail.{state_at}
use Rattle.hv_trail.specs.Lasting.{Has, IsGiven}
use Rattle.hv_table_reader.specs.hv_acts.specs.hv_telling.specs.hv_house.specs.declared.fault.HouseFault.{HouseFault}
use Rattle.hv_table_reader.specs.hv_acts.specs.hv_telling.specs.hv_house.specs.declared.fault.HouseFault.TheVariants as fault
use Rattle.hv_table_reader.specs.hv_acts.specs.hv_telling.specs.Telling.{IsToldHouse}
use Rattle.hv_table_reader.specs.hv_acts.specs.declared.told.ToldHouse.{ToldHouse}
use Rattle.hv_table_reader.specs.hv_acts.specs.declared.fault.ActFault.{ActFault}
use Rattle.hv_table_reader.specs.hv_acts.specs.declared.fault.ActFault.TheVariants as act
use Rattle.hv_table_reader.specs.hv_acts.specs.declared.giving.Given.{Given}
use Rattle.hv_table_reader.specs.hv_acts.specs.declared.giving.Given.TheVariants as given
use Rattle.hv_table_reader.specs.hv_acts.specs.declared.compacting.AskFor.{AskFor}
use Rattle.hv_table_reader.specs.hv_acts.specs.declared.compacting.AskedFor.{AskedFor}
use Rattle.hv_table_reader.specs.hv_acts.specs.declared.compacting.AskedFor.TheVariants as found
use Rattle.hv_table_reader.specs.hv_acts.specs.declared.aborted.Aborted.{Aborted}
use Rattle.hv_table_reader.specs.hv_acts.specs.Told.{trail_in, book_in}
use Rattle.hv_table_reader.specs.hv_acts.specs.Answers.{HasItsMark}
use Rattle.hv_table_reader.specs.hv_acts.specs.Compacting.{asked_entry}
use Rattle.hv_table_reader.specs.hv_acts.specs.Passing.{HasStood}
use Rattle.hv_table_reader.specs.hv_acts.specs.Meant.{HasMeant, IsFileMeant, places_of_files}
use Rattle.hv_steps.specs.Ending.{aborting, giving, CanChange, HasEndedAt}
use Rattle.hv_steps.specs.declared.ready.End.{End}
use Rattle.hv_steps.specs.declared.ready.Reply.{Reply}
use Rattle.hv_steps.specs.declared.ready.Way.{Way}
use Rattle.hv_steps.specs.declared.reply.Done.{Done}
use Rattle.hv_steps.specs.declared.reply.Done.TheVariants as done
use Rattle.hv_steps.specs.declared.reply.Prepared.{Prepared}
use Rattle.hv_steps.specs.declared.reply.Prepared.TheVariants as prepared
use Rattle.hv_steps.specs.Going.{faults_in, WasOnWay}
use Rattle.hv_steps.specs.Leaving.{IsLeftFor}
use Rattle.hv_steps.specs.Phases.{IsAbortFor, AbortsFor, IsChangeReady, IsReadyAs, EndsEarlyFor, IsWriteFault, NoCause}

-- ---- what is answered

abbrev pub ended : Result Done HouseFault → Result Prepared HouseFault
ended (Ok found) = Ok (prepared.Ended found)
ended (Err why) = Err why

-- where a file was put its place is the answer
abbrev pub with_place : Place → Result (Unit {0}) ActFault → Result Place ActFault
with_place place (Ok done) = Ok place
with_place place (Err why) = Err why

abbrev pub aborted_reply : Aborted → Reply
aborted_reply aborted = record { text = aborted.text; refused = true; ended = Some aborted.at }

abbrev pub ended_by : Aborted → Prepared
ended_by aborted = prepared.Ended (done.Replied (aborted_reply aborted))

-- ---- it ends, or is ready, without more

-- it was aborted for one of these causes, or for want of memory; or others have ended it
abbrev pub EndsFor : {D : Type 0} → ℕ → ToldHouse D → (Cause → Type 0) → Prepared → List Entry → Type 0
EndsFor txn now Causes (prepared.Ready ready) added = ⊥
EndsFor txn now Causes (prepared.Ended found) added = AbortsFor txn now [] Causes found added

-- how one is to end, and its reply then
pub record EndSaid : Type 0 where
  pub last : End
  pub text : List ℕ

abbrev pub end_said : End → List ℕ → EndSaid
end_said last text = record { last = last; text = text }

-- it is ready to end so, and nothing was done to the house; or memory lacked
abbrev pub MakesReady : {D : Type 0} → ℕ → ToldHouse D → ToldHouse D → EndSaid → Prepared → List Entry → Type 0
MakesReady txn before now wanted (prepared.Ready ready) added = (added ≡ []) × IsReadyAs ready wanted.last wanted.text
    × (now ≡ before)
MakesReady txn before now wanted (prepared.Ended found) added = AbortsFor txn now [] NoCause found added

-- ---- a change of rows

-- it is under way without a write id, and its change can be ended; in a told house it means that change
pub record ComesToChange {D : Type 0} (told : D → Option Store) (now : ToldHouse D) (way : Way) (info : TableInfo)
    (effect : Effect) : Type 0 where
  pub asking : Asking
  pub said : Stmt
  pub was : WasOnWay (trail_in now) asking way said
  pub can : CanChange (book_in now) info effect
  pub truly : IsToldHouse told now.house → meant (take way.place (book_in now)) said ≡ Some (Change info effect)

-- ---- an act was refused

-- a call on files that failed
abbrev pub IsFaultOf : ActFault → Cause → Type 0
IsFaultOf (act.Ended at) why = ⊥
IsFaultOf (act.Full entries) why = ⊥
IsFaultOf (act.Held by) why = ⊥
IsFaultOf (act.Broken put count) why = ⊥
IsFaultOf act.Unfit why = ⊥
IsFaultOf (act.House fault.Store) why = ⊥
IsFaultOf (act.House fault.NoMemory) why = ⊥
IsFaultOf (act.House (fault.Failed count)) why = why ≡ cause.WriteFault count

abbrev pub failed_count : ActFault → Option ℕ
failed_count (act.Ended at) = None
failed_count (act.Full entries) = None
failed_count (act.Held by) = None
failed_count (act.Broken put count) = None
failed_count act.Unfit = None
failed_count (act.House fault.Store) = None
failed_count (act.House fault.NoMemory) = None
failed_count (act.House (fault.Failed count)) = Some count

-- a call on files has failed: it has its mark, and keeps a count by which the store's rose above `low`
pub record HasFailed {D : Type 0} (faults : D → ℕ) (low : ℕ) (txn : TxnId) (now : ToldHouse D)
    (count : ℕ) : Type 0 where
  pub marked : HasItsMark (trail_in now) txn (cause.WriteFault count)
  pub above : low < count
  pub upto : count ≤ faults_in faults now

abbrev pub FileFailed : {D : Type 0} → (D → ℕ) → ℕ → TxnId → ToldHouse D → ActFault → Type 0
FileFailed faults low txn now (act.House (fault.Failed count)) = HasFailed faults low txn now count
FileFailed faults low txn now why = Unit {0}

-- others have ended it; or the run stops; or the house is open
pub record IsRefusal {D : Type 0} (told : D → Option Store) (faults : D → ℕ)
    (meanwhile : ToldHouse D → ToldHouse D → Type 0) (low : ℕ) (txn : TxnId)
    (now : ToldHouse D) (why : ActFault) : Type 0 where
  pub left : IsLeftFor told meanwhile txn.0 now why
  pub file : FileFailed faults low txn now why

-- ---- its write id

-- the entry that was noted: the write id, or the abort
abbrev pub given_entries : ℕ → TableId → Result Given ActFault → List Entry
given_entries txn table (Ok (given.Id write)) = giving txn table write ∷ []
given_entries txn table (Ok (given.Aborted aborted)) = aborting txn aborted.cause ∷ []
given_entries txn table (Err why) = []

-- it was given this write id, which can be of a directory, in the table of its change; and in a told house it means that change with just that id
pub record HasItsId {D : Type 0} (told : D → Option Store) (now : ToldHouse D) (txn : TxnId) (info : TableInfo)
    (effect : Effect) (write : ℕ) : Type 0 where
  pub first : 1 ≤ write
  pub last : write < write_end
  pub here : IsSomeAnd (numbered (state_at (trail_in now)).tables info.table.0) (λ (table : Table). table.info ≡ info)
  pub given : Has (trail_in now) txn.0 (IsGiven info.table.0 write)
  pub means : IsToldHouse told now.house → HasMeant (trail_in now) txn ((info.table.0, write) ∷ []) (Change info effect)

-- it has its write id; or it was aborted since there is no room
abbrev pub IsGivenSo : {D : Type 0} → (D → Option Store) → ToldHouse D → TxnId → TableInfo → Effect → Given → Type 0
IsGivenSo told now txn info effect (given.Id write) = HasItsId told now txn info effect write.0
IsGivenSo told now txn info effect (given.Aborted aborted) =
    IsAbortFor txn.0 now (EndsEarlyFor (Change info effect)) (aborting txn.0 aborted.cause) (aborted_reply aborted)
    × HasEndedAt (book_in now) txn.0 (Some aborted.at)

-- ---- its job

-- what it asks for
abbrev pub asks_as : Way → TableId → List ℕ → CompactionKind → AskFor
asks_as way table partition kind = record {
  by = way.txn;
  place = way.place;
  table = table;
  partition = partition;
  kind = kind;
}

-- the entry that was noted: the job, or the abort; or none
abbrev pub job_entries : AskFor → Result AskedFor ActFault → List Entry
job_entries asked (Ok (found.Job job)) = asked_entry asked job ∷ []
job_entries asked (Ok found.Busy) = []
job_entries asked (Ok (found.Aborted aborted)) = aborting asked.by.0 aborted.cause ∷ []
job_entries asked (Err why) = []

-- it is under way without a write id, and the partition's text is short; in a told house it means that compaction
pub record ComesToJob {D : Type 0} (told : D → Option Store) (now : ToldHouse D) (way : Way) (table : TableId)
    (partition : List ℕ) (kind : CompactionKind) : Type 0 where
  pub asking : Asking
  pub said : Stmt
  pub was : WasOnWay (trail_in now) asking way said
  pub short : length partition ≤ 240
  pub truly : IsToldHouse told now.house
      → meant (take way.place (book_in now)) said ≡ Some (Ask table partition kind)

-- a job of the partition was busy behind its Start, its own or another one; and in a told house it means that compaction, as at its Start
pub record HasJob {D : Type 0} (told : D → Option Store) (now : ToldHouse D) (way : Way) (table : TableId)
    (partition : List ℕ) (kind : CompactionKind) : Type 0 where
  pub stood : HasStood (trail_in now) way.place (ask_of table partition kind)
  pub means : IsToldHouse told now.house
      → (has : HasMeant (trail_in now) way.txn [] (Ask table partition kind)) × (has.was.place ≡ way.place)

-- it has its job; or it was aborted since there is no room
abbrev pub IsStoodSo : {D : Type 0} → (D → Option Store) → ToldHouse D → Way → AskFor → AskedFor → Type 0
IsStoodSo told now way asked (found.Job job) = HasJob told now way asked.table asked.partition asked.kind
IsStoodSo told now way asked found.Busy = HasJob told now way asked.table asked.partition asked.kind
IsStoodSo told now way asked (found.Aborted aborted) =
    IsAbortFor way.txn.0 now (EndsEarlyFor (Ask asked.table asked.partition asked.kind))
    (aborting way.txn.0 aborted.cause) (aborted_reply aborted)
    × HasEndedAt (book_in now) way.txn.0 (Some aborted.at)

-- ---- its files

-- the file is one that may be put at this place under a write id of the transaction, and in a told house one that it means
pub record IsFileDue {D : Type 0} (told : D → Option Store) (now : ToldHouse D) (txn : TxnId) (place : Place)
    (file : OutFile) : Type 0 where
  pub table : ℕ
  pub write : ℕ
  pub given : Has (trail_in now) txn.0 (IsGiven table write)
  pub place_is : place ≡ place_of_file table write file
  pub means : IsToldHouse told now.house → IsFileMeant (trail_in now) txn place file

-- so of each of these, at its place
pub record AreFilesDue {D : Type 0} (told : D → Option Store) (now : ToldHouse D) (txn : TxnId) (table write : ℕ)
    (files : List OutFile) : Type 0 where
  pub given : Has (trail_in now) txn.0 (IsGiven table write)
  pub mean : IsToldHouse told now.house → AllByRecursion
      (λ file. IsFileMeant (trail_in now) txn (place_of_file table write file) file) files

-- the first so many of these files were put, at these places
pub record ArePutUpTo (table write : ℕ) (files : List OutFile) (places : List Place) : Type 0 where
  pub places_are : places ≡ places_of_files table write files
  pub encoded : AllByRecursion HasFile files

-- all files of a change were put under a write id
pub record IsChangePut (info : TableInfo) (effect : Effect) (write : ℕ) (put : List Place) : Type 0 where
  pub places : put ≡ places_of_files info.table.0 write (files_of info.shape write 0 effect)
  pub held : AreHeld effect.inserts
  pub encoded : AllByRecursion HasFile (files_of info.shape write 0 effect)

-- a change of a table's rows, under a write id
pub record ChangeUnder : Type 0 where
  pub info : TableInfo
  pub effect : Effect
  pub write : ℕ

abbrev pub change_under : TableInfo → Effect → ℕ → ChangeUnder
change_under info effect write = record { info = info; effect = effect; write = write }

-- it is ready with its change; or it ended for a fault of its files
abbrev pub Writes : {D : Type 0} → ℕ → ToldHouse D → ChangeUnder → Prepared → List Entry → Type 0
Writes txn now change (prepared.Ready ready) added = (added ≡ [])
    × ((put : List Place) × IsChangeReady change.info change.effect change.write put ready)
Writes txn now change (prepared.Ended found) added = AbortsFor txn now [] IsWriteFault found added
