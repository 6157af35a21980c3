-- One act of a job, or of an initiator: what it added, and what it leaves.
use Rattle.std.proofs.Common.{◌≡◌, ℕ, Bool, Option, Some, List, [], ◌∷◌, Result, Ok, Err, refl, subst}
use Rattle.std.specs.Prelude.{Contains}
use Rattle.std.specs.List.{AllByRecursion}
use Rattle.hv_base.specs.declared.ids.JobId.{JobId}
use Rattle.hv_shelf.specs.Disk.{Store}
use Rattle.hv_history.specs.declared.entry.Entry.{Entry}
use Rattle.hv_history.specs.Lasting.{IsFront}
use Rattle.hv_trail.specs.declared.trail.Reader.TheVariants as reader
use Rattle.hv_trail.specs.declared.trail.TrailItem.{TrailItem}
use Rattle.hv_trail.specs.Steps.{HouseSeen, Call, Note, Read, Done, Failed, MayEnd, gains, Step}
use Rattle.hv_actor.specs.Acting.{IsLater, Held, Went, Moment, among}
use Rattle.hv_actor.proofs.Weaving.{later-further}
use Rattle.hv_job_acts.specs.hv_acts.specs.declared.told.ToldHouse.{ToldHouse}
use Rattle.hv_job_acts.specs.hv_acts.specs.Told.{seen_in, trail_in, told_sight}
use Rattle.hv_job_acts.specs.hv_acts.specs.Going.{IsOpenHouse}
use Rattle.hv_job_acts.specs.hv_acts.specs.hv_telling.specs.hv_house.specs.declared.fault.HouseFault.TheVariants as house_fault
use Rattle.hv_job_acts.specs.hv_job_calls.specs.declared.fault.JobFault.TheVariants as fault
use Rattle.hv_job_acts.specs.declared.fault.JobActFault.{JobActFault}
use Rattle.hv_job_acts.specs.declared.fault.JobActFault.TheVariants as act
use Rattle.hv_job_acts.specs.Answers.{act_call, act_outcome, answer_outcome, JobDoes}
use Rattle.hv_job_acts.specs.Going.{AddsItems}
use Rattle.hv_job_acts.specs.Laters.{job_later}
use Rattle.hv_compact.specs.Stopping.{act_stop, act_run, IsOfJob, RunsOut, StopsSo}
use Rattle.hv_compact.specs.declared.fault.Stop.{Stop}
use Rattle.hv_compact.specs.Compacting.{IsMarkOf, IsWroteOf, Works}
use Rattle.hv_compact.proofs.Stops.{job_mark, open-behind, runs-out, stops-for}

-- ---- what a refusal of a call adds

-- a call that reads
pub read-marks : (job : JobId) (why : JobActFault)
    → AllByRecursion (IsMarkOf job) (gains (act_call (Read (Some (reader.Job job))) why) (act_outcome why))
read-marks job act.Unfit = tt
read-marks job (act.Broken put count) = tt
read-marks job (act.Call fault.Gone) = tt
read-marks job (act.Call (fault.Full entries)) = tt
read-marks job (act.Call fault.NotFound) = tt
read-marks job (act.Call (fault.Needed txn)) = tt
read-marks job (act.Call (fault.StillListed dir)) = tt
read-marks job (act.Call (fault.Working other)) = tt
read-marks job (act.Call fault.Starved) = tt
read-marks job (act.Call (fault.House house_fault.Store)) = tt
read-marks job (act.Call (fault.House house_fault.NoMemory)) = tt
read-marks job (act.Call (fault.House (house_fault.Failed count))) = (refl, tt)

-- one that notes
pub note-none : (event : Entry) (why : JobActFault) → gains (act_call (Note event) why) (act_outcome why) ≡ []
note-none event act.Unfit = refl
note-none event (act.Broken put count) = refl
note-none event (act.Call fault.Gone) = refl
note-none event (act.Call (fault.Full entries)) = refl
note-none event (act.Call fault.NotFound) = refl
note-none event (act.Call (fault.Needed txn)) = refl
note-none event (act.Call (fault.StillListed dir)) = refl
note-none event (act.Call (fault.Working other)) = refl
note-none event (act.Call fault.Starved) = refl
note-none event (act.Call (fault.House house_fault.Store)) = refl
note-none event (act.Call (fault.House house_fault.NoMemory)) = refl
note-none event (act.Call (fault.House (house_fault.Failed count))) = refl

-- an act that answers so was done
abbrev pub HeldOf : {D X : Type 0} → (D → Option Store) → (D → ℕ) → (ToldHouse D → ToldHouse D → Type 0) → Moment (ToldHouse D) → Moment (ToldHouse D)
    → (HouseSeen D → Result X JobActFault → Call) → (HouseSeen D → HouseSeen D → Result X JobActFault → Type 0) → Result X JobActFault → Type 0
HeldOf told faults meanwhile m n CallOf Answers r =
    Held (told_sight told faults) meanwhile m.house n.house (λ seen. CallOf seen r) (answer_outcome r) (λ a b. JobDoes faults a b (Answers a b) r)

module _ {D : Type 0} (told : D → Option Store) (faults : D → ℕ) (between : List TrailItem → Type 0)
    (meanwhile : ToldHouse D → ToldHouse D → Type 0)
    (goes_on : (before now : ToldHouse D) → meanwhile before now → IsLater faults (seen_in before) (seen_in now)) where
  pub reached-front : (a b : ToldHouse D) → meanwhile a b → IsFront (trail_in a) (trail_in b)
  reached-front a b reached = let later = goes_on a b reached in record { more = later.added; is = later.trail }

  module _ {X : Type 0} (m n : Moment (ToldHouse D)) (CallOf : HouseSeen D → Result X JobActFault → Call)
      (Answers : HouseSeen D → HouseSeen D → Result X JobActFault → Type 0) (AddsOf : Result X JobActFault → List TrailItem)
      (result : Result X JobActFault) (held : HeldOf told faults meanwhile m n CallOf Answers result)
      (went : Went between (AddsOf result) m.own n.own (trail_in m.house) (trail_in n.house)) where
    pub held-as : (r : Result X JobActFault) → result ≡ r → HeldOf told faults meanwhile m n CallOf Answers r
    held-as r is = subst (HeldOf told faults meanwhile m n CallOf Answers) is held

    pub act-adds : AddsItems faults between m n (AddsOf result)
    act-adds = record {
      went = went;
      later =
          later-further faults (seen_in m.house) (seen_in held.house) (seen_in n.house) (goes_on m.house held.house held.reached)
          (job_later told faults (CallOf (seen_in held.house) result) result (seen_in held.house) (seen_in n.house) held.step
          held.does_it.leaves held.does_it.up);
    }

    pub adds-of : (r : Result X JobActFault) → result ≡ r → AddsItems faults between m n (AddsOf r)
    adds-of r is = subst (λ (x : Result X JobActFault). AddsItems faults between m n (AddsOf x)) is act-adds

  module _ {X : Type 0} (m n : Moment (ToldHouse D)) (CallOf : HouseSeen D → Result X JobActFault → Call)
      (Answers : HouseSeen D → HouseSeen D → Result X JobActFault → Type 0) where
    -- ---- it was done

    pub found-open : (x : X) (held : HeldOf told faults meanwhile m n CallOf Answers (Ok x)) → IsOpenHouse held.house
    found-open x held = held.does_it.leaves

    pub done-open : (x : X) → HeldOf told faults meanwhile m n CallOf Answers (Ok x) → IsOpenHouse n.house
    done-open x held = open-behind Done held.house.house.trail.closed n.house.house.trail.closed held.step.closed held.does_it.leaves refl

    pub done-answers : (x : X) (held : HeldOf told faults meanwhile m n CallOf Answers (Ok x)) → Answers (seen_in held.house) (seen_in n.house) (Ok x)
    done-answers x held = held.does_it.answers held.does_it.leaves

    -- ---- it was refused

    module _ (was : IsOpenHouse m.house) (call : HouseSeen D → Call)
        (calls : (seen : HouseSeen D) (why : JobActFault) → CallOf seen (Err why) ≡ act_call (call seen) why) (why : JobActFault)
        (held : HeldOf told faults meanwhile m n CallOf Answers (Err why)) where
      refused-step : Step told faults (act_call (call (seen_in held.house)) why) (act_outcome why) (seen_in held.house) (seen_in n.house)
      refused-step =
          subst (λ (c : Call). Step told faults c (act_outcome why) (seen_in held.house) (seen_in n.house)) (calls (seen_in held.house) why) held.step

      pub refused-runs : (Of : Call → Type 0)
          → (why ≡ act.Call (fault.House house_fault.Store) → IsOpenHouse held.house → Of (call (seen_in held.house)))
          → RunsOut (among told faults between meanwhile) Of n.house (act_run why)
      refused-runs Of of_it =
          runs-out told faults between meanwhile m.house held.house n.house held.reached held.kept was Of (call (seen_in held.house)) why of_it
          refused-step held.does_it.leaves

      pub refused-stops : (job : JobId) (put : Bool) → IsOfJob job (call (seen_in held.house))
          → ((count : ℕ) → MayEnd (call (seen_in held.house)) (Failed count)
          → gains (call (seen_in held.house)) (Failed count) ≡ job_mark job put count ∷ [])
          → ((broke : Bool) (count : ℕ) → why ≡ act.Broken broke count → Contains (trail_in held.house) (job_mark job broke count))
          → StopsSo (among told faults between meanwhile) job n.house (act_stop put why)
      refused-stops job put of_it marks broken =
          stops-for told faults between meanwhile m.house held.house n.house held.reached held.kept was job put (call (seen_in held.house)) of_it marks
          why broken refused-step held.does_it.leaves

-- ---- acts of a job at work, by what they come to

module _ {D : Type 0} (told : D → Option Store) (faults : D → ℕ) (between : List TrailItem → Type 0)
    (meanwhile : ToldHouse D → ToldHouse D → Type 0) (job : JobId) (a b : Moment (ToldHouse D)) where
  pub works-ok : {T : Type 0} (x : T) (items : List TrailItem) → AddsItems faults between a b items
      → AllByRecursion (IsWroteOf job) items → AllByRecursion (IsMarkOf job) items → IsOpenHouse b.house
      → Works (among told faults between meanwhile) job a b (Ok x)
  works-ok x items adds wrote marks running = record {
    items = items;
    adds = adds;
    marks = marks;
    wrote = wrote;
    running = running;
    stops = tt;
  }

  pub works-err : {T : Type 0} (why : Stop) (items : List TrailItem) → AddsItems faults between a b items
      → AllByRecursion (IsMarkOf job) items → StopsSo (among told faults between meanwhile) job b.house why
      → Works {T = T} (among told faults between meanwhile) job a b (Err why)
  works-err why items adds marks stops = record {
    items = items;
    adds = adds;
    marks = marks;
    wrote = tt;
    running = tt;
    stops = stops;
  }
