-- What a call for a job leaves of a house, and how it ends.
use Rattle.std.specs.Prelude.{◌≡◌, ◌≤◌, ℕ, Option, Some, None, Result, Ok, Err, IfOk, IfErr}
use Rattle.hv_shelf.specs.Disk.{Store}
use Rattle.hv_trail.specs.Steps.{Call, Ask, Outcome, Done, Refused, Starved, Step}
use Rattle.hv_telling.specs.hv_house.specs.declared.house.House.{House}
use Rattle.hv_telling.specs.hv_house.specs.declared.publishing.PublishFault.{PublishFault}
use Rattle.hv_telling.specs.hv_house.specs.declared.publishing.PublishFault.TheVariants as publish
use Rattle.hv_telling.specs.hv_house.specs.Faults.{HasRisen}
use Rattle.hv_telling.specs.hv_house.specs.Steps.{seen_of, fault_outcome}
use Rattle.hv_telling.specs.Telling.{IsToldHouse, IsWhole, StaysWhole, StillOpens}
use Rattle.hv_job_calls.specs.declared.fault.JobFault.{JobFault}
use Rattle.hv_job_calls.specs.declared.fault.JobFault.TheVariants as fault

-- ---- how it ends

-- that nothing stands at a place is an answer
abbrev pub why_outcome : JobFault → Outcome
why_outcome (fault.House why) = fault_outcome why
why_outcome fault.Starved = Starved
why_outcome fault.NotFound = Done
why_outcome why = Refused

abbrev pub job_outcome : {T : Type 0} → Result T JobFault → Outcome
job_outcome (Ok x) = Done
job_outcome (Err why) = why_outcome why

-- what a publication that failed is
abbrev pub fault_of : PublishFault → JobFault
fault_of publish.Starved = fault.Starved
fault_of (publish.House why) = fault.House why

-- where a test refused it the house alone was asked
abbrev pub call_behind : Call → JobFault → Call
call_behind call (fault.House why) = call
call_behind call fault.Starved = call
call_behind call fault.NotFound = call
call_behind call why = Ask

abbrev pub job_call : {T : Type 0} → Call → Result T JobFault → Call
job_call call (Ok x) = call
job_call call (Err why) = call_behind call why

-- where there was nothing to note, too
abbrev pub found_call : {T : Type 0} → Call → Result (Option T) JobFault → Call
found_call call (Ok (Some x)) = call
found_call call (Ok None) = Ask
found_call call (Err why) = call_behind call why

-- ---- what it leaves

abbrev pub StaysFor : {D : Type 0} → (D → Option Store) → JobFault → House D → Type 0
StaysFor told (fault.House why) now = StaysWhole told why now
StaysFor told fault.Starved now = Unit {0}
StaysFor told why now = IsWhole told now

-- behind a test that refused it the house is as it was
abbrev pub SameFor : {D : Type 0} → House D → House D → JobFault → Type 0
SameFor before now (fault.House why) = Unit {0}
SameFor before now fault.Starved = Unit {0}
SameFor before now fault.NotFound = Unit {0}
SameFor before now (fault.StillListed dir) = Unit {0}
SameFor before now why = now ≡ before

abbrev pub HasRisenFor : ℕ → ℕ → JobFault → Type 0
HasRisenFor faults faults' (fault.House why) = HasRisen faults faults' why
HasRisenFor faults faults' why = Unit {0}

-- all that is promised of every call for a job
pub record JobStep {D T : Type 0} (told : D → Option Store) (faults : D → ℕ) (call : Call)
    (before now : House D) (result : Result T JobFault) : Type 0 where
  pub whole : IfOk result (λ _. IsWhole told now)
  pub stays : IfErr result (λ why. StaysFor told why now)
  pub same : IfErr result (SameFor before now)
  pub opens : IsToldHouse told before → IfErr result (λ _. StillOpens told now)
  pub start : now.start ≡ before.start
  pub step : Step told faults call (job_outcome result) (seen_of before) (seen_of now)
  pub later : faults before.shelf ≤ faults now.shelf
  pub failed : IfErr result (HasRisenFor (faults before.shelf) (faults now.shelf))
