-- How a statement is opened, act by act, behind whatever was seen first: what each act leaves of it.
-- Source: Hive Transactions; that it is opened to be told what stands in its way is this project's profile.
use Rattle.std.specs.Prelude.{◌≡◌, ℕ, true, Some, List, [], ◌∷◌, Result, Ok, Err, IfOk, IfErr}
use Rattle.hv_base.specs.declared.ids.TxnId.{TxnId}
use Rattle.hv_ast.specs.declared.statement.Stmt.{Stmt}
use Rattle.hv_history.specs.declared.entry.Entry.{Entry}
use Rattle.hv_stands.specs.Running.{Asking}
use Rattle.hv_trail.specs.declared.trail.TrailItem.{TrailItem}
use Rattle.hv_steps.specs.hv_table_reader.specs.hv_acts.specs.hv_telling.specs.hv_house.specs.declared.fault.HouseFault.{HouseFault}
use Rattle.hv_steps.specs.hv_table_reader.specs.hv_acts.specs.hv_telling.specs.hv_house.specs.declared.fault.HouseFault.TheVariants as fault
use Rattle.hv_steps.specs.hv_table_reader.specs.hv_acts.specs.declared.told.ToldHouse.{ToldHouse}
use Rattle.hv_steps.specs.hv_table_reader.specs.hv_acts.specs.declared.opening.Begun.{Begun}
use Rattle.hv_steps.specs.hv_table_reader.specs.hv_acts.specs.declared.starting.Started.{Started}
use Rattle.hv_steps.specs.hv_table_reader.specs.hv_acts.specs.declared.starting.Started.TheVariants as started
use Rattle.hv_steps.specs.hv_table_reader.specs.hv_acts.specs.declared.aborted.Aborted.{Aborted}
use Rattle.hv_steps.specs.hv_table_reader.specs.hv_acts.specs.declared.fault.BeginFault.{BeginFault}
use Rattle.hv_steps.specs.hv_table_reader.specs.hv_acts.specs.declared.fault.BeginFault.TheVariants as hindered_by
use Rattle.hv_steps.specs.hv_table_reader.specs.hv_acts.specs.declared.fault.ActFault.{ActFault}
use Rattle.hv_steps.specs.hv_table_reader.specs.hv_acts.specs.declared.fault.ActFault.TheVariants as act
use Rattle.hv_steps.specs.hv_table_reader.specs.hv_acts.specs.Told.{trail_in}
use Rattle.hv_steps.specs.declared.ready.Reply.{Reply}
use Rattle.hv_steps.specs.declared.ready.Way.{Way}
use Rattle.hv_steps.specs.declared.reply.Done.TheVariants as done
use Rattle.hv_steps.specs.declared.reply.Opened.{Opened}
use Rattle.hv_steps.specs.declared.reply.Opened.TheVariants as opened
use Rattle.hv_steps.specs.Going.{IsOpenHouse, faults_in, AddsOwn, GainsSome, HasWaited}
use Rattle.hv_steps.specs.Phases.{WasSoBetween, OpensAt, IsHinderedAt, IsHinderedBefore, Begins, AddsNone, HaltsBeginning}
use Rattle.hv_actor.specs.Acting.{Setting, Moment}

-- all that is promised of a statement that is opened
pub record GoesBeginning {D : Type 0} (setting : Setting D (ToldHouse D)) (asking : Asking) (said : Stmt)
    (before now : Moment (ToldHouse D))
    (result : Result Opened HouseFault) : Type 0 where
  pub done : IfOk result (λ found. GainsSome setting.faults setting.between (faults_in setting.faults before.house)
      before now
      (Begins before.house now.house asking said found))
  pub halted : IfErr result (HaltsBeginning setting asking before now)

-- where the house's call failed, memory lacked before anything was noted, or the run stops
abbrev pub lacking : HouseFault → Result Opened HouseFault
lacking fault.NoMemory = Ok opened.NoMemory
lacking fault.Store = Err fault.Store
lacking (fault.Failed count) = Err (fault.Failed count)

-- ---- opened and started at once

-- it could not begin at some trail between, and nothing was added
pub record WasHindered {D : Type 0} (faults : D → ℕ) (between : List TrailItem → Type 0) (said : Stmt)
    (before now : Moment (ToldHouse D)) : Type 0 where
  pub adds : AddsNone faults between before now
  pub hindered : WasSoBetween before.house now.house (IsHinderedAt said)
  pub running : IsOpenHouse now.house

abbrev pub way_of : Begun → Way
way_of start = record { txn = start.txn; place = start.place }

abbrev pub BeginsAtOnce : {D : Type 0} → Setting D (ToldHouse D) → Asking → Stmt → Moment (ToldHouse D)
    → Moment (ToldHouse D) → Result Begun BeginFault → Type 0
BeginsAtOnce setting asking said before now (Ok start) =
    GainsSome setting.faults setting.between (faults_in setting.faults before.house) before now
    (Begins before.house now.house asking said (opened.Started (way_of start)))
BeginsAtOnce setting asking said before now (Err (hindered_by.Held by)) = WasHindered setting.faults setting.between
    said before now
BeginsAtOnce setting asking said before now (Err (hindered_by.Full entries)) = WasHindered setting.faults
    setting.between said before now
BeginsAtOnce setting asking said before now (Err (hindered_by.House why)) = GoesBeginning setting asking said before now
    (lacking why)

-- the house of one that could not begin is open
abbrev pub IsLeftRunning : {D : Type 0} → ToldHouse D → BeginFault → Type 0
IsLeftRunning now (hindered_by.Held by) = IsOpenHouse now
IsLeftRunning now (hindered_by.Full entries) = IsOpenHouse now
IsLeftRunning now (hindered_by.House why) = Unit {0}

-- ---- opened

-- it could not begin, was opened, and waited for its Start
pub record OpenedFirst {D : Type 0} (faults : D → ℕ) (between : List TrailItem → Type 0) (asking : Asking) (txn : ℕ)
    (said : Stmt)
    (before now : Moment (ToldHouse D)) : Type 0 where
  pub event : Entry
  pub adds : AddsOwn faults between txn before now (event ∷ [])
  pub was_opened : WasSoBetween before.house now.house (OpensAt asking txn event)
  pub waited : HasWaited (trail_in now.house) asking txn said
  pub hindered : WasSoBetween before.house now.house (IsHinderedBefore txn said)

-- what a transaction that wasn't opened comes to
abbrev pub unopened : ActFault → Result Opened HouseFault
unopened (act.Full entries) = Ok (opened.Full entries)
unopened (act.House why) = lacking why
unopened (act.Ended at) = Err fault.Store
unopened (act.Held by) = Err fault.Store
unopened (act.Broken put count) = Err fault.Store
unopened act.Unfit = Err fault.Store

abbrev pub OpensSo : {D : Type 0} → Setting D (ToldHouse D) → Asking → Stmt → Moment (ToldHouse D)
    → Moment (ToldHouse D) → Result TxnId ActFault → Type 0
OpensSo setting asking said before now (Ok txn) = OpenedFirst setting.faults setting.between asking txn.0 said before
    now
OpensSo setting asking said before now (Err why) = GoesBeginning setting asking said before now (unopened why)

-- it is open, and waited
abbrev pub WaitsIn : {D : Type 0} → ToldHouse D → Asking → Stmt → ℕ → Type 0
WaitsIn now asking said txn = IsOpenHouse now × HasWaited (trail_in now) asking txn said

-- ---- started, or aborted for what stands in its way

abbrev pub reply_of : Aborted → Reply
reply_of aborted = record { text = aborted.text; refused = true; ended = Some aborted.at }

abbrev pub started_as : TxnId → Started → Opened
started_as txn (started.At place) = opened.Started (record { txn = txn; place = place })
started_as txn (started.Aborted aborted) = opened.Ended (done.Replied (reply_of aborted))

-- where it did neither it was opened still
abbrev pub StartsSo : {D : Type 0} → Setting D (ToldHouse D) → Asking → TxnId → Stmt → Moment (ToldHouse D)
    → Moment (ToldHouse D) → Result Started ActFault → Type 0
StartsSo setting asking txn said before now (Ok found) =
    GainsSome setting.faults setting.between (faults_in setting.faults before.house) before now
    (Begins before.house now.house asking said (started_as txn found))
StartsSo setting asking txn said before now (Err why) = OpenedFirst setting.faults setting.between asking txn.0 said
    before now
