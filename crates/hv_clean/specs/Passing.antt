-- What a pass of a cleaner adds, turn by turn, and what it counts.
-- Source: Hive Transactions, cleaner.
use Rattle.std.specs.Prelude.{if◌then◌else◌, ◌≡◌, ◌⊎◌, ◌<◌, nat_lt, ◌-◌, ◌^◌, ℕ, ◌+◌, true, false, None, List, [], ◌∷◌, ◌++◌, filter, ◌==◌, Bool}
use Rattle.std.specs.List.{AllByRecursion}
use Rattle.hv_base.specs.declared.ids.JobId.{JobId}
use Rattle.hv_history.specs.declared.entry.Entry.{Entry}
use Rattle.hv_history.specs.declared.entry.Entry.TheVariants as entry
use Rattle.hv_history.specs.State.{Job, state_of}
use Rattle.hv_history.specs.Legal.{profile}
use Rattle.hv_history.specs.Jobs.{is_ready}
use Rattle.hv_history.specs.JobsFit.{OfJob, CleanedFits}
use Rattle.hv_law_work.specs.Work.{AreGone}
use Rattle.hv_trail.specs.declared.trail.TrailItem.{TrailItem}
use Rattle.hv_trail.specs.declared.trail.TrailItem.TheVariants.{Noted, Marked}
use Rattle.hv_trail.specs.declared.trail.Mark.TheVariants.{Went, Broke}
use Rattle.hv_trail.specs.Trail.{state_at}
use Rattle.hv_trail.specs.Steps.{Call, Note, Remove, Read}
use Rattle.hv_actor.specs.Acting.{Setting, Moment, numbers_from}
use Rattle.hv_job_acts.specs.hv_acts.specs.declared.told.ToldHouse.{ToldHouse}
use Rattle.hv_job_acts.specs.hv_acts.specs.Told.{trail_in, book_in}
use Rattle.hv_job_acts.specs.hv_acts.specs.Going.{IsOpenHouse}
use Rattle.hv_job_acts.specs.hv_acts.specs.hv_telling.specs.hv_house.specs.Calls.{LacksRoom}
use Rattle.hv_job_acts.specs.hv_job_calls.specs.Refusals.{HasGoneJob, IsHeldBy, IfLive, CanForget, is_live_in}
use Rattle.hv_job_acts.specs.declared.asking.LostId.{LostId}
use Rattle.hv_job_acts.specs.Going.{AddsItems, IsShutFor, WasAt}
use Rattle.hv_job_acts.specs.Work.{ready_in, lost_in}
use Rattle.hv_clean.specs.declared.fault.PassFault.{PassFault}
use Rattle.hv_clean.specs.declared.fault.PassFault.TheVariants as run
use Rattle.hv_clean.specs.declared.fault.Swept.{Swept}

-- ---- counts

abbrev pub one_more : ℕ → ℕ
one_more count = if nat_lt count (2 ^ 64 - 1) then count + 1 else count

abbrev pub count_cleaned : Swept → Swept
count_cleaned swept = record swept { cleaned = one_more swept.cleaned }

abbrev pub count_held : Swept → Swept
count_held swept = record swept { held = one_more swept.held }

abbrev pub count_forgotten : Swept → Swept
count_forgotten swept = record swept { forgotten = one_more swept.forgotten }

abbrev pub count_listed : Swept → Swept
count_listed swept = record swept { listed = one_more swept.listed }

abbrev pub count_fault : Swept → Swept
count_fault swept = record swept { faults = one_more swept.faults }

abbrev pub nothing : Swept
nothing = record { cleaned = 0; held = 0; forgotten = 0; listed = 0; faults = 0 }

-- no call on files failed, where they weren't too many to count
abbrev pub NoFault : Swept → Swept → Type 0
NoFault from to = (from.faults ≡ to.faults) × (to.faults < 2 ^ 64 - 1)

-- ---- the items of a pass

-- a directory went, or a call on files of nobody failed
abbrev pub IsSwept : TrailItem → Type 0
IsSwept (Marked (Went dir)) = Unit {0}
IsSwept (Marked (Broke None put count)) = put ≡ false
IsSwept item = ⊥

-- what the marks add to the counts
abbrev pub swept_by : Swept → TrailItem → Swept
swept_by swept (Marked (Broke by put count)) = count_fault swept
swept_by swept item = swept

abbrev pub swept_all : Swept → List TrailItem → Swept
swept_all swept [] = swept
swept_all swept (item ∷ items) = swept_all (swept_by swept item) items

-- calls of a cleaner
abbrev pub IsCleaning : Call → Type 0
IsCleaning (Note (entry.Cleaned job)) = Unit {0}
IsCleaning (Note (entry.Forgot table write)) = Unit {0}
IsCleaning (Remove None dir) = Unit {0}
IsCleaning (Read None) = Unit {0}
IsCleaning call = ⊥

-- where it stops for want of room, there is none for one more of the load
abbrev pub IsFullFor : List Entry → PassFault → Type 0
IsFullFor book (run.Full entries) = LacksRoom profile book 1 entries
IsFullFor book why = Unit {0}

abbrev pub RunsOut : {D : Type 0} → Setting D (ToldHouse D) → ToldHouse D → PassFault → Type 0
RunsOut setting now run.Store = IsShutFor setting IsCleaning now
RunsOut setting now (run.Full entries) = IsOpenHouse now
RunsOut setting now run.NoMemory = IsOpenHouse now

-- ---- a part of a pass

-- its acts added these marks, which its counts go by
pub record Sweeps {D : Type 0} (setting : Setting D (ToldHouse D)) (before now : Moment (ToldHouse D))
    (from to : Swept) : Type 0 where
  pub items : List TrailItem
  pub adds : AddsItems setting.faults setting.between before now items
  pub each : AllByRecursion IsSwept items
  pub counts : to ≡ swept_all from items
  pub running : IsOpenHouse now.house

-- they added such marks, and the pass ends
pub record SweepsLess {D : Type 0} (setting : Setting D (ToldHouse D)) (before now : Moment (ToldHouse D))
    (why : PassFault) : Type 0 where
  pub items : List TrailItem
  pub adds : AddsItems setting.faults setting.between before now items
  pub each : AllByRecursion IsSwept items
  pub stops : RunsOut setting now.house why
  pub full : IsFullFor (book_in now.house) why

-- they added nothing
pub record Asks {D : Type 0} (setting : Setting D (ToldHouse D)) (before now : Moment (ToldHouse D)) : Type 0 where
  pub adds : AddsItems setting.faults setting.between before now []
  pub running : IsOpenHouse now.house

-- ---- one job

-- a transaction below its mark was open
abbrev pub IsHeldAt : JobId → List TrailItem → Type 0
IsHeldAt job trail = (txn : ℕ) × IsHeldBy (state_at trail) job.0 txn

abbrev pub WasHeld : {D : Type 0} → ToldHouse D → ToldHouse D → JobId → Type 0
WasHeld before now job = WasAt before now (IsHeldAt job)

-- it wasn't ready any more, or its table was dropped
abbrev pub IsOver : JobId → List TrailItem → Type 0
IsOver job trail =
    HasGoneJob (state_at trail) job.0 ⊎ (OfJob (state_at trail) job.0 (λ (j : Job). is_ready j ≡ true) → ⊥)

abbrev pub WasOver : {D : Type 0} → ToldHouse D → ToldHouse D → JobId → Type 0
WasOver before now job = WasAt before now (IsOver job)

-- it was noted, where all that it covers had gone
pub record IsCleanedNow {D : Type 0} (setting : Setting D (ToldHouse D)) (before now : Moment (ToldHouse D))
    (job : JobId) : Type 0 where
  pub adds : AddsItems setting.faults setting.between before now (Noted (entry.Cleaned job) ∷ [])
  pub running : IsOpenHouse now.house
  pub then_ : List TrailItem
  pub last : trail_in now.house ≡ then_ ++ Noted (entry.Cleaned job) ∷ []
  pub gone : IfLive (state_at then_) job.0 (AreGone then_ (state_at then_))
  pub fits : OfJob (state_at then_) job.0 (CleanedFits profile (state_at then_))

-- behind the removals, which are counted so: it was cleaned, or nothing more was added
abbrev pub LeftOf : {D : Type 0} → ToldHouse D → ToldHouse D → JobId → Swept → Swept → Swept → Type 0
LeftOf before now job from swept to =
    (WasHeld before now job × (to ≡ count_held swept))
    ⊎ ((NoFault from swept → WasOver before now job) × (to ≡ swept))

pub record CleansOne {D : Type 0} (setting : Setting D (ToldHouse D)) (before now : Moment (ToldHouse D)) (job : JobId)
    (from to : Swept) : Type 0 where
  pub left : Moment (ToldHouse D)
  pub swept : Swept
  pub sweeps : Sweeps setting before left from swept
  pub turn : (IsCleanedNow setting left now job × (to ≡ count_cleaned swept))
      ⊎ (Asks setting left now × LeftOf before.house now.house job from swept to)

-- each of these had its turn
abbrev pub CleanEach : {D : Type 0} → Setting D (ToldHouse D) → Moment (ToldHouse D) → Moment (ToldHouse D)
    → List JobId → Swept → Swept → Type 0
CleanEach setting before now [] from to = Sweeps setting before now from to
CleanEach {D = D} setting before now (job ∷ jobs) from to =
    (mid : Moment (ToldHouse D)) × (swept : Swept)
    × CleansOne setting before mid job from swept × CleanEach setting mid now jobs swept to

-- ---- one write id

-- it was noted
pub record IsForgottenNow {D : Type 0} (setting : Setting D (ToldHouse D)) (before now : Moment (ToldHouse D))
    (id : LostId) : Type 0 where
  pub adds : AddsItems setting.faults setting.between before now (Noted (entry.Forgot id.table id.write) ∷ [])
  pub running : IsOpenHouse now.house

-- its table was dropped, or others forgot it
abbrev pub IsIdOver : LostId → List TrailItem → Type 0
IsIdOver id trail =
    (is_live_in (state_at trail) id.table.0 ≡ false) ⊎ (CanForget (state_at trail) id.table.0 id.write.0 → ⊥)

-- one of its directories was listed still, which the pass counts; or a call on files failed in its turn, or it was over
abbrev pub IdLeft : {D : Type 0} → ToldHouse D → ToldHouse D → LostId → Swept → Swept → Swept → Type 0
IdLeft before now id from swept to =
    (to ≡ count_listed swept) ⊎ ((NoFault from swept → WasAt before now (IsIdOver id)) × (to ≡ swept))

pub record ForgetsOne {D : Type 0} (setting : Setting D (ToldHouse D)) (before now : Moment (ToldHouse D)) (id : LostId)
    (from to : Swept) : Type 0 where
  pub left : Moment (ToldHouse D)
  pub swept : Swept
  pub sweeps : Sweeps setting before left from swept
  pub turn : (IsForgottenNow setting left now id × (to ≡ count_forgotten swept))
      ⊎ (Asks setting left now × IdLeft before.house now.house id from swept to)

-- each of these had its turn
abbrev pub ForgetEach : {D : Type 0} → Setting D (ToldHouse D) → Moment (ToldHouse D) → Moment (ToldHouse D)
    → List LostId → Swept → Swept → Type 0
ForgetEach setting before now [] from to = Sweeps setting before now from to
ForgetEach {D = D} setting before now (id ∷ ids) from to =
    (mid : Moment (ToldHouse D)) × (swept : Swept)
    × ForgetsOne setting before mid id from swept × ForgetEach setting mid now ids swept to

-- those of one table
abbrev pub is_of_table : ℕ → LostId → Bool
is_of_table table id = id.table.0 == table

abbrev pub ids_of : ℕ → List LostId → List LostId
ids_of table ids = filter (is_of_table table) ids

-- it was listed and then each of them had its turn, or its listing failed
abbrev pub ForgetsTable : {D : Type 0} → Setting D (ToldHouse D) → Moment (ToldHouse D) → Moment (ToldHouse D)
    → List LostId → Swept → Swept → Type 0
ForgetsTable setting before now ids from to =
    ForgetEach setting before now ids from to ⊎ (Sweeps setting before now from to × (NoFault from to → ⊥))

-- the tables of these numbers, one after another
abbrev pub ForgetTables : {D : Type 0} → Setting D (ToldHouse D) → Moment (ToldHouse D) → Moment (ToldHouse D)
    → List ℕ → List LostId → Swept → Swept → Type 0
ForgetTables setting before now [] ids from to = Sweeps setting before now from to
ForgetTables {D = D} setting before now (table ∷ tables) ids from to =
    (mid : Moment (ToldHouse D)) × (swept : Swept)
    × ForgetsTable setting before mid (ids_of table ids) from swept
    × ForgetTables setting mid now tables ids swept to

abbrev pub last_from : ℕ → List LostId → ℕ
last_from last [] = last
last_from last (id ∷ ids) = last_from (if nat_lt last id.table.0 then id.table.0 else last) ids

abbrev pub last_table : List LostId → ℕ
last_table ids = last_from 0 ids

-- the aborted ids of the book at the next hold
abbrev pub lost_now : {D : Type 0} → ToldHouse D → List LostId
lost_now house = lost_in (state_of (book_in house))

pub record ForgetsAll {D : Type 0} (setting : Setting D (ToldHouse D)) (before now : Moment (ToldHouse D))
    (from to : Swept) : Type 0 where
  pub start : Moment (ToldHouse D)
  pub asks : Asks setting before start
  pub ids : ForgetTables setting start now (numbers_from 1 (last_table (lost_now start.house))) (lost_now start.house)
      from to

-- and staged directories and dropped tables behind it
pub record PassesRest {D : Type 0} (setting : Setting D (ToldHouse D)) (before now : Moment (ToldHouse D))
    (from to : Swept) : Type 0 where
  pub left : Moment (ToldHouse D)
  pub swept : Swept
  pub ids : ForgetsAll setting before left from swept
  pub sweeps : Sweeps setting left now swept to

-- ---- the pass

-- over these jobs
pub record PassesOver {D : Type 0} (setting : Setting D (ToldHouse D)) (before now : Moment (ToldHouse D))
    (jobs : List JobId) (to : Swept) : Type 0 where
  pub left : Moment (ToldHouse D)
  pub swept : Swept
  pub turns : CleanEach setting before left jobs nothing swept
  pub rest : PassesRest setting left now swept to

-- The jobs that are ready at its first hold, by number, then the aborted ids of the next by table and by id, then
-- staged directories and dropped tables.
pub record Passes {D : Type 0} (setting : Setting D (ToldHouse D)) (before now : Moment (ToldHouse D))
    (to : Swept) : Type 0 where
  pub start : Moment (ToldHouse D)
  pub asks : Asks setting before start
  pub over : PassesOver setting start now (ready_in (state_of (book_in start.house))) to
