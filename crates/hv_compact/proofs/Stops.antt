-- What a refused act leaves: where it stops a run, and where the job may be given up for it.
use Rattle.std.proofs.Common.{◌≡◌, ◌⊎◌, inl, inr, ℕ, Bool, true, false, Option, Some, List, [], ◌∷◌, ◌++◌, refl, sym, ap, ◌∙◌, subst, append-nil}
use Rattle.std.specs.Prelude.{◌||◌, Contains}
use Rattle.hv_base.specs.declared.ids.JobId.{JobId}
use Rattle.hv_shelf.specs.Disk.{Store}
use Rattle.hv_history.specs.declared.entry.JobCause.{JobCause}
use Rattle.hv_history.specs.declared.entry.JobCause.TheVariants as cause
use Rattle.hv_trail.specs.declared.trail.Reader.TheVariants as reader
use Rattle.hv_trail.specs.declared.trail.Mark.TheVariants.{Broke}
use Rattle.hv_trail.specs.declared.trail.TrailItem.{TrailItem}
use Rattle.hv_trail.specs.declared.trail.TrailItem.TheVariants.{Marked}
use Rattle.hv_trail.specs.Steps.{Call, Note, Begin, Commit, Put, Remove, Publish, Read, Ask, Outcome, Closed, Refused, Starved, Failed, MayEnd, gains, shuts, Step}
use Rattle.hv_actor.specs.Acting.{among}
use Rattle.hv_job_acts.specs.hv_acts.specs.declared.told.ToldHouse.{ToldHouse}
use Rattle.hv_job_acts.specs.hv_acts.specs.Told.{IsWholeOrClosed, seen_in, trail_in}
use Rattle.hv_job_acts.specs.hv_acts.specs.Going.{IsOpenHouse}
use Rattle.hv_job_acts.specs.hv_acts.specs.hv_telling.specs.hv_house.specs.declared.fault.HouseFault.TheVariants as house_fault
use Rattle.hv_job_acts.specs.hv_acts.specs.hv_telling.specs.hv_house.proofs.Readings.{contains-last}
use Rattle.hv_job_acts.specs.hv_job_calls.specs.declared.fault.JobFault.TheVariants as fault
use Rattle.hv_job_acts.specs.declared.fault.JobActFault.{JobActFault}
use Rattle.hv_job_acts.specs.declared.fault.JobActFault.TheVariants as act
use Rattle.hv_job_acts.specs.Answers.{act_call, act_outcome, WhyLeaves}
use Rattle.hv_job_acts.specs.Going.{IsShutFor}
use Rattle.hv_compact.specs.Stopping.{cause_of, act_stop, act_run, IsOfJob, IsStarvedNow, RunsOut, MayGiveUp, StopsSo}
use Rattle.hv_compact.specs.declared.compacting.Causes.{Causes}
use Rattle.hv_compact.specs.Ending.{AreSame, CanGiveUp}
use Rattle.hv_compact.proofs.Short.{short_read, short_write, short_gone, short_memory}

-- ---- one call

pub open-behind : (outcome : Outcome) (was is : Bool) → is ≡ was || shuts outcome → was ≡ false → shuts outcome ≡ false → is ≡ false
open-behind outcome was is closed running opens = closed ∙ ap (λ (b : Bool). b || shuts outcome) running ∙ opens

one-of : (b : Bool) → (b ≡ true) ⊎ (b ≡ false)
one-of true = inl refl
one-of false = inr refl

-- a call that closed the house added nothing
closed-gains : (call : Call) → gains call Closed ≡ []
closed-gains (Note event) = refl
closed-gains (Begin txn session number text) = refl
closed-gains (Commit txn wrote) = refl
closed-gains (Put by place bytes) = refl
closed-gains (Remove by dir) = refl
closed-gains (Publish renames event) = refl
closed-gains (Read by) = refl
closed-gains Ask = refl

-- the mark of a call for this job that failed
abbrev pub job_mark : JobId → Bool → ℕ → TrailItem
job_mark job put count = Marked (Broke (Some (reader.Job job)) put count)

-- ---- the job may be given up

module _ {D : Type 0} (now : ToldHouse D) (job : JobId) (running : IsOpenHouse now) where
  pub may-count : (put : Bool) (count : ℕ) → Contains (trail_in now) (job_mark job put count) → MayGiveUp now job (cause_of put count)
  may-count true count mark = record { running = running; small = short_write job count; marked = mark }
  may-count false count mark = record { running = running; small = short_read job count; marked = mark }

  pub may-memory : MayGiveUp now job cause.Memory
  may-memory = record { running = running; small = short_memory job; marked = tt }

  pub may-gone : MayGiveUp now job cause.Gone
  may-gone = record { running = running; small = short_gone job; marked = tt }

-- ---- behind a refused act

module _ {D : Type 0} (told : D → Option Store) (faults : D → ℕ) (between : List TrailItem → Type 0)
    (meanwhile : ToldHouse D → ToldHouse D → Type 0) (before house now : ToldHouse D) (reached : meanwhile before house)
    (kept : IsWholeOrClosed told house.house) (was : IsOpenHouse before) where
  cut : (Of : Call → Type 0) (call : Call) → (IsOpenHouse house → Of call) → Step told faults call Closed (seen_in house) (seen_in now)
      → IsShutFor (among told faults between meanwhile) Of now
  cut Of call of_it step = by (one-of house.house.trail.closed)
    where
      by : (house.house.trail.closed ≡ true) ⊎ (house.house.trail.closed ≡ false) → IsShutFor (among told faults between meanwhile) Of now
      by (inl shut) = inl (record { left = before; found = house; reached = reached; was = was; is = shut })
      by (inr running) = inr (record {
        house = house;
        kept = kept;
        was = running;
        is = (step.closed ∙ ap (λ (b : Bool). b || true) running, step.starved ∙ (kept.whole running).ready.kept.fed);
        call = call;
        of_it = of_it running;
        outcome = Closed;
        step = step;
        nothing = closed-gains call;
      })

  refused-open : (call : Call) → Step told faults call Refused (seen_in house) (seen_in now) → IsOpenHouse house → IsOpenHouse now
  refused-open call step running = open-behind Refused house.house.trail.closed now.house.trail.closed step.closed running refl

  starves : (call : Call) → Step told faults call Starved (seen_in house) (seen_in now) → IsOpenHouse house
      → IsOpenHouse now ⊎ IsStarvedNow told faults now
  starves call step running = inr (record { house = house; kept = kept; was = running; call = call; step = step })

  -- it stops the run
  pub runs-out : (Of : Call → Type 0) (call : Call) (why : JobActFault)
      → (why ≡ act.Call (fault.House house_fault.Store) → IsOpenHouse house → Of call)
      → Step told faults (act_call call why) (act_outcome why) (seen_in house) (seen_in now)
      → WhyLeaves faults (seen_in house) (seen_in now) why → RunsOut (among told faults between meanwhile) Of now (act_run why)
  runs-out Of call act.Unfit of_it step leaves = inl (refused-open Ask step leaves)
  runs-out Of call (act.Broken put count) of_it step leaves = inl (refused-open Ask step leaves)
  runs-out Of call (act.Call fault.Gone) of_it step leaves = inl (refused-open Ask step leaves)
  runs-out Of call (act.Call (fault.Full entries)) of_it step leaves = refused-open Ask step leaves
  runs-out Of call (act.Call fault.NotFound) of_it step leaves = inl (refused-open Ask step leaves)
  runs-out Of call (act.Call (fault.Needed txn)) of_it step leaves = inl (refused-open Ask step leaves)
  runs-out Of call (act.Call (fault.StillListed dir)) of_it step leaves = inl (refused-open Ask step leaves)
  runs-out Of call (act.Call (fault.Working job)) of_it step leaves = inl (refused-open Ask step leaves)
  runs-out Of call (act.Call fault.Starved) of_it step leaves = starves call step leaves
  runs-out Of call (act.Call (fault.House house_fault.Store)) of_it step leaves = cut Of call (of_it refl) step
  runs-out Of call (act.Call (fault.House house_fault.NoMemory)) of_it step leaves = inl (refused-open call step leaves)
  runs-out Of call (act.Call (fault.House (house_fault.Failed count))) of_it step leaves =
      inl (open-behind (Failed count) house.house.trail.closed now.house.trail.closed step.closed leaves.0 refl)

  module _ (job : JobId) (put : Bool) (call : Call) (of_it : IsOfJob job call)
      (marks : (count : ℕ) → MayEnd call (Failed count) → gains call (Failed count) ≡ job_mark job put count ∷ []) where
    -- or the job's work: then it may be given up
    pub stops-for : (why : JobActFault)
        → ((broke : Bool) (count : ℕ) → why ≡ act.Broken broke count → Contains (trail_in house) (job_mark job broke count))
        → Step told faults (act_call call why) (act_outcome why) (seen_in house) (seen_in now)
        → WhyLeaves faults (seen_in house) (seen_in now) why → StopsSo (among told faults between meanwhile) job now (act_stop put why)
    stops-for act.Unfit broken step leaves = inl (refused-open Ask step leaves)
    stops-for (act.Broken broke count) broken step leaves =
        may-count now job (refused-open Ask step leaves) broke count
        (subst (λ (items : List TrailItem). Contains items (job_mark job broke count)) (sym (step.trail ∙ append-nil (trail_in house)))
        (broken broke count refl))
    stops-for (act.Call fault.Gone) broken step leaves = may-gone now job (refused-open Ask step leaves)
    stops-for (act.Call (fault.Full entries)) broken step leaves = refused-open Ask step leaves
    stops-for (act.Call fault.NotFound) broken step leaves = inl (refused-open Ask step leaves)
    stops-for (act.Call (fault.Needed txn)) broken step leaves = inl (refused-open Ask step leaves)
    stops-for (act.Call (fault.StillListed dir)) broken step leaves = inl (refused-open Ask step leaves)
    stops-for (act.Call (fault.Working other)) broken step leaves = inl (refused-open Ask step leaves)
    stops-for (act.Call fault.Starved) broken step leaves = starves call step leaves
    stops-for (act.Call (fault.House house_fault.Store)) broken step leaves = cut (IsOfJob job) call (λ running. of_it) step
    stops-for (act.Call (fault.House house_fault.NoMemory)) broken step leaves = may-memory now job (refused-open call step leaves)
    stops-for (act.Call (fault.House (house_fault.Failed count))) broken step leaves =
        may-count now job (open-behind (Failed count) house.house.trail.closed now.house.trail.closed step.closed leaves.0 refl) put count
        (subst (λ (items : List TrailItem). Contains items (job_mark job put count))
        (sym (step.trail ∙ ap (λ (more : List TrailItem). trail_in house ++ more) (marks count step.may)))
        (contains-last (trail_in house) (job_mark job put count)))

-- ---- a cause, twice

pub may-both : {D : Type 0} (now : ToldHouse D) (job : JobId) (why : JobCause) (causes : Causes) → AreSame why causes → MayGiveUp now job why
    → CanGiveUp now job causes
may-both now job why causes same may = record { may = by same.noted; told = same.told }
  where
    by : (causes.noted ≡ why) ⊎ (causes.noted ≡ cause.Memory) → MayGiveUp now job causes.noted
    by (inl is) = subst (MayGiveUp now job) (sym is) may
    by (inr lacks) = subst (MayGiveUp now job) (sym lacks) (may-memory now job may.running)
