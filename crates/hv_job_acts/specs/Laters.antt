-- A house on which an act was done goes on: its store's count of faults didn't fall, and rose where the act closed
-- it but for want of memory.
use Rattle.std.specs.Prelude.{◌≡◌, ◌≤◌, ◌||◌, ℕ, Bool, true, false, Option, Result, Ok, Err}
use Rattle.std.proofs.Common.{true≢false, sym, ap, ◌∙◌}
use Rattle.hv_base.specs.Faults.{Rose}
use Rattle.hv_shelf.specs.Disk.{Store}
use Rattle.hv_trail.specs.Steps.{HouseSeen, Call, gains, shuts, Step}
use Rattle.hv_actor.specs.Acting.{IsLater}
use Rattle.hv_actor.specs.Stepping.{still_open, starved_on}
use Rattle.hv_acts.specs.hv_telling.specs.hv_house.specs.declared.fault.HouseFault.TheVariants as house_fault
use Rattle.hv_job_calls.specs.declared.fault.JobFault.{JobFault}
use Rattle.hv_job_calls.specs.declared.fault.JobFault.TheVariants as fault
use Rattle.hv_job_acts.specs.declared.fault.JobActFault.{JobActFault}
use Rattle.hv_job_acts.specs.declared.fault.JobActFault.TheVariants as act
use Rattle.hv_job_acts.specs.Answers.{why_ends, act_outcome, answer_outcome, CallLeaves, WhyLeaves, AnswerLeaves}

module _ {D : Type 0} (told : D → Option Store) (faults : D → ℕ) where
  -- what doesn't close an open house doesn't leave it closed
  stays_open : (before now : HouseSeen D) → now.closed ≡ before.closed || false → before.closed ≡ false
      → now.closed ≡ true
      → Rose (faults before.shelf) (faults now.shelf)
  stays_open before now closed was is = absurd (still_open before.closed now.closed closed was is)

  -- what closed an open house, and no want of memory, let the count of faults rise
  call_rises : (call : Call) (why : JobFault) (before now : HouseSeen D)
      → Step told faults call (why_ends why) before now
      → CallLeaves faults before now why → before.closed ≡ false → now.closed ≡ true → now.starved ≡ false
      → Rose (faults before.shelf) (faults now.shelf)
  call_rises call fault.Gone before now step leaves was is fed = stays_open before now step.closed was is
  call_rises call (fault.Full entries) before now step leaves was is fed = stays_open before now step.closed was is
  call_rises call fault.NotFound before now step leaves was is fed = stays_open before now step.closed was is
  call_rises call (fault.Needed txn) before now step leaves was is fed = stays_open before now step.closed was is
  call_rises call (fault.StillListed dir) before now step leaves was is fed = stays_open before now step.closed was is
  call_rises call (fault.Working job) before now step leaves was is fed = stays_open before now step.closed was is
  call_rises call fault.Starved before now step leaves was is fed = absurd (true≢false (sym step.starved ∙ fed))
  call_rises call (fault.House house_fault.Store) before now step leaves was is fed = leaves was
  call_rises call (fault.House house_fault.NoMemory) before now step leaves was is fed =
      stays_open before now step.closed was is
  call_rises call (fault.House (house_fault.Failed count)) before now step leaves was is fed =
      stays_open before now step.closed was is

  why_rises : (call : Call) (why : JobActFault) (before now : HouseSeen D)
      → Step told faults call (act_outcome why) before now
      → WhyLeaves faults before now why → before.closed ≡ false → now.closed ≡ true → now.starved ≡ false
      → Rose (faults before.shelf) (faults now.shelf)
  why_rises call act.Unfit before now step leaves was is fed = stays_open before now step.closed was is
  why_rises call (act.Broken put count) before now step leaves was is fed = stays_open before now step.closed was is
  why_rises call (act.Call why) before now step leaves was is fed =
      call_rises call why before now step leaves was is fed

  answer_rises : {T : Type 0} (call : Call) (answer : Result T JobActFault) (before now : HouseSeen D)
      → Step told faults call (answer_outcome answer) before now
      → AnswerLeaves faults before now answer → before.closed ≡ false → now.closed ≡ true → now.starved ≡ false
      → Rose (faults before.shelf) (faults now.shelf)
  answer_rises call (Ok x) before now step leaves was is fed = stays_open before now step.closed was is
  answer_rises call (Err why) before now step leaves was is fed = why_rises call why before now step leaves was is fed

  pub job_later : {T : Type 0} (call : Call) (answer : Result T JobActFault) (before now : HouseSeen D)
      → Step told faults call (answer_outcome answer) before now
      → AnswerLeaves faults before now answer → faults before.shelf ≤ faults now.shelf → IsLater faults before now
  job_later call answer before now step leaves up = record {
    added = gains call (answer_outcome answer);
    trail = step.trail;
    rest = step.rest;
    count = up;
    closed = λ shut. step.closed ∙ ap (λ (b : Bool). b || shuts (answer_outcome answer)) shut;
    starved = starved_on (answer_outcome answer) before.starved now.starved step.starved;
    rises = λ was is fed. answer_rises call answer before now step leaves was is fed;
  }
