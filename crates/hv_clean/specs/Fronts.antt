-- How far a pass came that stops: a front of its turns was done, and then marks alone were added.
-- Source: Hive Transactions, cleaner.
use Rattle.std.specs.Prelude.{◌⊎◌, ℕ, List, [], ◌∷◌, ◌++◌}
use Rattle.hv_base.specs.declared.ids.JobId.{JobId}
use Rattle.hv_history.specs.State.{state_of}
use Rattle.hv_history.specs.Lasting.{IsFront}
use Rattle.hv_actor.specs.Acting.{Setting, Moment, numbers_from}
use Rattle.hv_job_acts.specs.hv_acts.specs.declared.told.ToldHouse.{ToldHouse}
use Rattle.hv_job_acts.specs.hv_acts.specs.Told.{book_in}
use Rattle.hv_job_acts.specs.declared.asking.LostId.{LostId}
use Rattle.hv_job_acts.specs.Work.{ready_in}
use Rattle.hv_clean.specs.declared.fault.PassFault.{PassFault}
use Rattle.hv_clean.specs.declared.fault.Swept.{Swept}
use Rattle.hv_clean.specs.Passing.{nothing, Asks, SweepsLess, CleanEach, ForgetEach, ids_of, ForgetTables, last_table, lost_now, ForgetsAll}

-- the turns of some front of these jobs were
pub record CleansFront {D : Type 0} (setting : Setting D (ToldHouse D)) (jobs : List JobId) (from : Swept)
    (before now : Moment (ToldHouse D)) : Type 0 where
  pub turned : List JobId
  pub front : IsFront turned jobs
  pub swept : Swept
  pub turns : CleanEach setting before now turned from swept

-- of these write ids
pub record ForgetsFront {D : Type 0} (setting : Setting D (ToldHouse D)) (ids : List LostId) (from : Swept)
    (before now : Moment (ToldHouse D)) : Type 0 where
  pub turned : List LostId
  pub front : IsFront turned ids
  pub swept : Swept
  pub turns : ForgetEach setting before now turned from swept

-- of the ids of these tables: those of some front of them, and of the next one those of some front
pub record TablesFront {D : Type 0} (setting : Setting D (ToldHouse D)) (tables : List ℕ) (ids : List LostId)
    (from : Swept)
    (before now : Moment (ToldHouse D)) : Type 0 where
  pub turned : List ℕ
  pub table : ℕ
  pub front : IsFront (turned ++ table ∷ []) tables
  pub left : Moment (ToldHouse D)
  pub swept : Swept
  pub turns : ForgetTables setting before left turned ids from swept
  pub its : ForgetsFront setting (ids_of table ids) swept left now

-- of the aborted ids of the book at the next hold, or nothing was added yet
abbrev pub IdsFront : {D : Type 0} → Setting D (ToldHouse D) → Swept → Moment (ToldHouse D) → Moment (ToldHouse D)
    → Type 0
IdsFront {D = D} setting from before now =
    Asks setting before now
    ⊎ ((start : Moment (ToldHouse D)) × Asks setting before start
    × TablesFront setting (numbers_from 1 (last_table (lost_now start.house))) (lost_now start.house) from start now)

-- or those of all were, and then staged directories and dropped tables come
abbrev pub RestFront : {D : Type 0} → Setting D (ToldHouse D) → Swept → Moment (ToldHouse D) → Moment (ToldHouse D)
    → Type 0
RestFront setting from before now =
    IdsFront setting from before now ⊎ ((swept : Swept) × ForgetsAll setting before now from swept)

-- of these jobs, or those of all were and then the rest comes
abbrev pub OverFront : {D : Type 0} → Setting D (ToldHouse D) → List JobId → Moment (ToldHouse D) → Moment (ToldHouse D)
    → Type 0
OverFront {D = D} setting jobs before now =
    CleansFront setting jobs nothing before now
    ⊎ ((left : Moment (ToldHouse D)) × (swept : Swept)
    × CleanEach setting before left jobs nothing swept × RestFront setting swept left now)

-- of the whole pass
abbrev pub PassFront : {D : Type 0} → Setting D (ToldHouse D) → Moment (ToldHouse D) → Moment (ToldHouse D) → Type 0
PassFront {D = D} setting before now =
    Asks setting before now
    ⊎ ((start : Moment (ToldHouse D)) × Asks setting before start
    × OverFront setting (ready_in (state_of (book_in start.house))) start now)

-- such a front was done, and then the pass ends
pub record StopsBehind {D : Type 0} (setting : Setting D (ToldHouse D))
    (Front : Moment (ToldHouse D) → Moment (ToldHouse D) → Type 0) (before now : Moment (ToldHouse D))
    (why : PassFault) : Type 0 where
  pub left : Moment (ToldHouse D)
  pub front : Front before left
  pub less : SweepsLess setting left now why
