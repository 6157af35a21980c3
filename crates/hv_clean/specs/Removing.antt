-- What a cleaner takes away, and how the turns of jobs and of write ids end by it.
-- Source: Hive Transactions, cleaner.
use Rattle.std.specs.Prelude.{◌≡◌, ◌⊎◌, ℕ, Bool, true, false, IsSome, IsSomeAnd, Option, Some, None, List, Result, Ok, Err}
use Rattle.std.specs.List.{AllByRecursion, list_any}
use Rattle.hv_base.specs.declared.ids.JobId.{JobId}
use Rattle.hv_shelf.specs.declared.place.DirAt.{DirAt}
use Rattle.hv_shelf.specs.declared.place.Place.{Place}
use Rattle.std.specs.Global.{Vec}
use Rattle.hv_history.specs.declared.state.Table.{Table}
use Rattle.hv_history.specs.State.{Job, numbered}
use Rattle.hv_history.specs.Jobs.{is_ready}
use Rattle.hv_history.specs.JobsFit.{OfJob, is_live_job}
use Rattle.hv_history.specs.Lasting.{IsFront}
use Rattle.hv_law_work.specs.Work.{AreGone}
use Rattle.hv_trail.specs.declared.trail.TrailItem.{TrailItem}
use Rattle.hv_trail.specs.Trail.{state_at, HasGone}
use Rattle.hv_actor.specs.Acting.{Setting, Moment}
use Rattle.hv_job_acts.specs.hv_acts.specs.declared.told.ToldHouse.{ToldHouse}
use Rattle.hv_job_acts.specs.hv_acts.specs.Told.{trail_in}
use Rattle.hv_job_acts.specs.hv_job_calls.specs.Refusals.{IsCoveredDir, IsLostIn, IsOwnText, CanSweep}
use Rattle.hv_job_acts.specs.declared.asking.LostId.{LostId}
use Rattle.hv_job_acts.specs.Work.{live_in}
use Rattle.hv_clean.specs.declared.fault.PassFault.{PassFault}
use Rattle.hv_clean.specs.declared.fault.Swept.{Swept}
use Rattle.hv_clean.specs.declared.stopping.Refused.{Refused}
use Rattle.hv_clean.specs.declared.stopping.Refused.TheVariants as refused_as
use Rattle.hv_clean.specs.declared.cleaning.Removal.{Removal}
use Rattle.hv_clean.specs.declared.cleaning.Removal.TheVariants as removed
use Rattle.hv_clean.specs.Passing.{count_cleaned, count_held, count_listed, count_fault, NoFault, Asks, Sweeps, WasHeld, WasOver, IsCleanedNow, is_of_table, ForgetEach}

-- ---- what may be taken away

-- the job is there
abbrev pub IsKnown : List TrailItem → JobId → Type 0
IsKnown trail job = IsSome (numbered (state_at trail).jobs job.0)

abbrev pub AreKnown : List TrailItem → List JobId → Type 0
AreKnown trail jobs = AllByRecursion (IsKnown trail) jobs

abbrev pub IsCoveredFor : List TrailItem → JobId → DirAt → Type 0
IsCoveredFor trail job dir = OfJob (state_at trail) job.0 (IsCoveredDir dir)

abbrev pub AreCoveredDirs : List TrailItem → JobId → List DirAt → Type 0
AreCoveredDirs trail job dirs = AllByRecursion (IsCoveredFor trail job) dirs

-- own directories of a lost id
abbrev pub IsLostDir : LostId → DirAt → Type 0
IsLostDir id dir = (dir.table ≡ id.table) × IsOwnText id.write.0 dir.dir

abbrev pub IsLost : List TrailItem → LostId → Type 0
IsLost trail id = IsLostIn (state_at trail) id.table.0 id.write.0

abbrev pub AreLostDirs : List TrailItem → LostId → List DirAt → Type 0
AreLostDirs trail id dirs = IsLost trail id × AllByRecursion (IsLostDir id) dirs

abbrev pub AreLost : List TrailItem → List LostId → Type 0
AreLost trail ids = AllByRecursion (IsLost trail) ids

abbrev pub AreSweepable : List TrailItem → List DirAt → Type 0
AreSweepable trail dirs = AllByRecursion (CanSweep (state_at trail)) dirs

abbrev pub IsDropped : List TrailItem → ℕ → Type 0
IsDropped trail table = IsSomeAnd (numbered (state_at trail).tables table) (λ (t : Table). t.is_live ≡ false)

-- whether each table was live at a front of the trail
pub record AreTables (trail : List TrailItem) (live : List Bool) : Type 0 where
  pub then_ : List TrailItem
  pub front : IsFront then_ trail
  pub is : live ≡ live_in (state_at then_)

abbrev pub is_any_of : ℕ → List LostId → Bool
is_any_of table ids = list_any (is_of_table table) ids

-- ---- what a refusal comes to

-- a call on files that failed is counted
abbrev pub counted_as : Refused → Swept → Swept
counted_as refused_as.Failed swept = count_fault swept
counted_as refused_as.Needed swept = swept
counted_as refused_as.Listed swept = swept
counted_as refused_as.Over swept = swept
counted_as (refused_as.Stop why) swept = swept

-- and so is an id one of whose directories is listed still
abbrev pub counted_id : Refused → Swept → Swept
counted_id refused_as.Failed swept = count_fault swept
counted_id refused_as.Needed swept = swept
counted_id refused_as.Listed swept = count_listed swept
counted_id refused_as.Over swept = swept
counted_id (refused_as.Stop why) swept = swept

-- and a job that a transaction holds
abbrev pub counted_held : Refused → Swept → Swept
counted_held refused_as.Failed swept = swept
counted_held refused_as.Needed swept = count_held swept
counted_held refused_as.Listed swept = swept
counted_held refused_as.Over swept = swept
counted_held (refused_as.Stop why) swept = swept

abbrev pub unless_stopped : Refused → Result (Unit {0}) PassFault
unless_stopped refused_as.Failed = Ok tt
unless_stopped refused_as.Needed = Ok tt
unless_stopped refused_as.Listed = Ok tt
unless_stopped refused_as.Over = Ok tt
unless_stopped (refused_as.Stop why) = Err why

abbrev pub not_listed : Refused → Result (Option (Vec Place)) PassFault
not_listed refused_as.Failed = Ok None
not_listed refused_as.Needed = Ok None
not_listed refused_as.Listed = Ok None
not_listed refused_as.Over = Ok None
not_listed (refused_as.Stop why) = Err why

abbrev pub removal_by : Refused → Result Removal PassFault
removal_by refused_as.Failed = Ok removed.Left
removal_by refused_as.Needed = Ok removed.Held
removal_by refused_as.Listed = Ok removed.Over
removal_by refused_as.Over = Ok removed.Over
removal_by (refused_as.Stop why) = Err why

-- ---- removals of one job

abbrev pub joined : Removal → Removal → Removal
joined first removed.All = first
joined first removed.Left = removed.Left
joined first removed.Held = removed.Held
joined first removed.Over = removed.Over

abbrev pub ends : Removal → Bool
ends removed.All = false
ends removed.Left = false
ends removed.Held = true
ends removed.Over = true

-- where all went each has its mark
abbrev pub WentBy : List TrailItem → List DirAt → Removal → Type 0
WentBy trail dirs removed.All = AllByRecursion (HasGone trail) dirs
WentBy trail dirs removed.Left = Unit {0}
WentBy trail dirs removed.Held = Unit {0}
WentBy trail dirs removed.Over = Unit {0}

-- where it is ready and its table live, all that it covers went
abbrev pub HasAllGone : List TrailItem → JobId → Type 0
HasAllGone trail job =
    (j : Job) → numbered (state_at trail).jobs job.0 ≡ Some j → is_ready j ≡ true
    → is_live_job (state_at trail) j ≡ true → AreGone trail (state_at trail) j

-- What each says: all went; a call on files failed; a transaction below the job's mark was open; or the job was over.
abbrev pub RemovalSays : {D : Type 0} → ToldHouse D → ToldHouse D → JobId → Swept → Swept → Removal → Type 0
RemovalSays before now job from to removed.All = from.faults ≡ to.faults
RemovalSays before now job from to removed.Left = NoFault from to → ⊥
RemovalSays before now job from to removed.Held = WasHeld before now job
RemovalSays before now job from to removed.Over = WasOver before now job

-- it was held; or it was over, where all had gone
abbrev pub UnnotedBy : {D : Type 0} → ToldHouse D → ToldHouse D → JobId → Swept → Swept → Type 0
UnnotedBy before now job from to =
    (WasHeld before now job × (to ≡ count_held from))
    ⊎ ((HasAllGone (trail_in before) job → WasOver before now job) × (to ≡ from))

-- how a turn ended behind such removals
abbrev pub EndsTurn : {D : Type 0} → Setting D (ToldHouse D) → Moment (ToldHouse D) → Moment (ToldHouse D) → JobId
    → Removal → Swept → Swept → Type 0
EndsTurn setting before now job removed.All from to =
    (IsCleanedNow setting before now job × (to ≡ count_cleaned from))
    ⊎ (Asks setting before now × UnnotedBy before.house now.house job from to)
EndsTurn setting before now job removed.Left from to = Asks setting before now × (to ≡ from)
EndsTurn setting before now job removed.Held from to = Asks setting before now × (to ≡ count_held from)
EndsTurn setting before now job removed.Over from to = Asks setting before now × (to ≡ from)

-- ---- tables

-- a table was listed, or that failed and was counted
abbrev pub IsListedBy : {T : Type 0} → Option T → Swept → Swept → Type 0
IsListedBy (Some places) from to = to ≡ from
IsListedBy None from to = NoFault from to → ⊥

-- and then the ids had their turns
abbrev pub ForgetsFound : {D T : Type 0} → Setting D (ToldHouse D) → Moment (ToldHouse D) → Moment (ToldHouse D)
    → List LostId → Option T → Swept → Swept → Type 0
ForgetsFound setting before now ids (Some places) from to = ForgetEach setting before now ids from to
ForgetsFound setting before now ids None from to = Sweeps setting before now from to × (to ≡ from)
