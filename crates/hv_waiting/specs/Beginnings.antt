-- How a statement begins that waits for its locks: it is opened, and starts in its turn; whatever others do meanwhile.
-- Source: Hive Transactions (locks are waited for); that the book is the queue is this project's profile.
use Rattle.std.specs.Prelude.{◌≡◌, ◌⊎◌, ℕ, Some, List, [], ◌∷◌, length, Result, Ok, Err, IfOk, IfErr}
use Rattle.hv_base.specs.declared.ids.TxnId.{TxnId}
use Rattle.hv_ast.specs.declared.statement.Stmt.{Stmt}
use Rattle.hv_built.specs.Running.{Runs}
use Rattle.hv_history.specs.declared.entry.Entry.{Entry}
use Rattle.hv_history.specs.declared.entry.Cause.{Cause}
use Rattle.hv_history.specs.declared.entry.Cause.TheVariants as cause
use Rattle.hv_history.specs.State.{state_of}
use Rattle.hv_history.specs.Legal.{Of, HasRoom, profile}
use Rattle.hv_stands.specs.Running.{Asking, starting}
use Rattle.hv_trail.specs.declared.trail.TrailItem.{TrailItem}
use Rattle.hv_trail.specs.Trail.{book_of, state_at}
use Rattle.hv_actor.specs.Acting.{Setting, Moment}
use Rattle.hv_session.specs.hv_beginning.specs.hv_steps.specs.hv_table_reader.specs.hv_acts.specs.hv_telling.specs.hv_house.specs.declared.fault.HouseFault.{HouseFault}
use Rattle.hv_session.specs.hv_beginning.specs.hv_steps.specs.hv_table_reader.specs.hv_acts.specs.declared.told.ToldHouse.{ToldHouse}
use Rattle.hv_session.specs.hv_beginning.specs.hv_steps.specs.hv_table_reader.specs.hv_acts.specs.declared.starting.Started.{Started}
use Rattle.hv_session.specs.hv_beginning.specs.hv_steps.specs.hv_table_reader.specs.hv_acts.specs.declared.fault.ActFault.{ActFault}
use Rattle.hv_session.specs.hv_beginning.specs.hv_steps.specs.hv_table_reader.specs.hv_acts.specs.Told.{trail_in, book_in}
use Rattle.hv_session.specs.hv_beginning.specs.hv_steps.specs.hv_table_reader.specs.hv_acts.specs.Starting.{IsShort}
use Rattle.hv_session.specs.hv_beginning.specs.hv_steps.specs.declared.ready.Reply.{Reply}
use Rattle.hv_session.specs.hv_beginning.specs.hv_steps.specs.declared.ready.Way.{Way}
use Rattle.hv_session.specs.hv_beginning.specs.hv_steps.specs.declared.reply.Done.{Done}
use Rattle.hv_session.specs.hv_beginning.specs.hv_steps.specs.declared.reply.Opened.{Opened}
use Rattle.hv_session.specs.hv_beginning.specs.hv_steps.specs.declared.reply.Opened.TheVariants as opened
use Rattle.hv_session.specs.hv_beginning.specs.hv_steps.specs.Ending.{aborting, HasReplied}
use Rattle.hv_session.specs.hv_beginning.specs.hv_steps.specs.Going.{faults_in, AddsOwn, GainsSome, WasOnWay, HasWaited, WasSoBetween}
use Rattle.hv_session.specs.hv_beginning.specs.hv_steps.specs.Phases.{OpensAt, StartsAt, EndsBehind, HaltsBeginning}
use Rattle.hv_session.specs.hv_beginning.specs.Beginnings.{unopened, started_as}
use Rattle.hv_waiting.specs.Queue.{IsFree}

-- ---- its Start

-- behind this trail its Start was noted, and nobody stood in its way
pub record StartsInTurn (way : Way) (trail : List TrailItem) : Type 0 where
  pub starts : StartsAt way trail
  pub free : IsFree trail way.txn

-- behind this trail it was to start, nobody stood in its way, and there was no room
pub record IsShortAt (txn : ℕ) (reply : Reply) (trail : List TrailItem) : Type 0 where
  pub short : Of (state_at trail) txn (IsShort (state_at trail))
  pub free : IsFree trail (record { 0 = txn })
  pub place : reply.ended ≡ Some (length (book_of trail))

-- it was opened, and started in a hold of its own
pub record StartedInTurn {D : Type 0} (before now : ToldHouse D) (asking : Asking) (said : Stmt) (way : Way)
    (added : List Entry) : Type 0 where
  pub event : Entry
  pub was_opened : WasSoBetween before now (OpensAt asking way.txn.0 event)
  pub added_is : added ≡ event ∷ starting way.txn.0 ∷ []
  pub started : WasSoBetween before now (StartsInTurn way)
  pub under_way : WasOnWay (trail_in now) asking way said

-- there was no room for its Start; or memory lacked, or others had started it
pub record StopsUnstarted {D : Type 0} (before now : ToldHouse D) (txn : ℕ) (last : Entry)
    (reply : Reply) : Type 0 where
  pub why : Cause
  pub entry_is : last ≡ aborting txn why
  pub stopped : ((why ≡ cause.Full) × WasSoBetween before now (IsShortAt txn reply)) ⊎ (why ≡ cause.Memory)
  pub answered : HasReplied (book_in now) txn reply.text reply.refused reply.ended

-- it was opened and has ended: before its Start
pub record EndedUnstarted {D : Type 0} (before now : ToldHouse D) (asking : Asking) (said : Stmt) (found : Done)
    (added : List Entry) : Type 0 where
  pub runs : Runs asking.text said
  pub txn : ℕ
  pub event : Entry
  pub was_opened : WasSoBetween before now (OpensAt asking txn event)
  pub ends : EndsBehind txn now (event ∷ []) (StopsUnstarted before now txn) found added

abbrev pub BeginsInTurn : {D : Type 0} → ToldHouse D → ToldHouse D → Asking → Stmt → Opened → List Entry → Type 0
BeginsInTurn before now asking said (opened.Started way) added = StartedInTurn before now asking said way added
BeginsInTurn before now asking said (opened.Full entries) added =
    (added ≡ []) × (entries ≡ length (book_in now)) × (HasRoom profile (state_of (book_in now)) 2 → ⊥)
BeginsInTurn before now asking said opened.NoMemory added = added ≡ []
BeginsInTurn before now asking said (opened.Ended found) added = EndedUnstarted before now asking said found added

-- all that is promised of a statement that begins so
pub record GoesInTurn {D : Type 0} (setting : Setting D (ToldHouse D)) (asking : Asking) (said : Stmt)
    (before now : Moment (ToldHouse D))
    (result : Result Opened HouseFault) : Type 0 where
  pub done : IfOk result (λ found. GainsSome setting.faults setting.between (faults_in setting.faults before.house)
      before now
      (BeginsInTurn before.house now.house asking said found))
  pub halted : IfErr result (HaltsBeginning setting asking before now)

-- ---- its acts

-- it was opened, and waited for its Start
pub record OpenedToWait {D : Type 0} (faults : D → ℕ) (between : List TrailItem → Type 0) (asking : Asking) (txn : ℕ)
    (said : Stmt)
    (before now : Moment (ToldHouse D)) : Type 0 where
  pub event : Entry
  pub adds : AddsOwn faults between txn before now (event ∷ [])
  pub was_opened : WasSoBetween before.house now.house (OpensAt asking txn event)
  pub waited : HasWaited (trail_in now.house) asking txn said

abbrev pub OpensToWait : {D : Type 0} → Setting D (ToldHouse D) → Asking → Stmt → Moment (ToldHouse D)
    → Moment (ToldHouse D) → Result TxnId ActFault → Type 0
OpensToWait setting asking said before now (Ok txn) =
    OpenedToWait setting.faults setting.between asking txn.0 said before now
OpensToWait setting asking said before now (Err why) = GoesInTurn setting asking said before now (unopened why)

-- where it was refused it was opened still
abbrev pub StartsSoFar : {D : Type 0} → Setting D (ToldHouse D) → Asking → TxnId → Stmt → Moment (ToldHouse D)
    → Moment (ToldHouse D) → Result Started ActFault → Type 0
StartsSoFar setting asking txn said before now (Ok found) =
    GainsSome setting.faults setting.between (faults_in setting.faults before.house) before now
    (BeginsInTurn before.house now.house asking said (started_as txn found))
StartsSoFar setting asking txn said before now (Err why) =
    OpenedToWait setting.faults setting.between asking txn.0 said before now
