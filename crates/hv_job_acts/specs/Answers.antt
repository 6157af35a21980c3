-- What an act for a compaction, or of a cleaner, answers: the call that was made, how it ended, and what it leaves.
-- Source: this project's profile.
use Rattle.std.specs.Prelude.{◌≡◌, ℕ, ◌<◌, ◌≤◌, false, Option, List, [], ◌∷◌, Result, Ok, Err}
use Rattle.hv_base.specs.Faults.{Rose}
use Rattle.hv_shelf.specs.Disk.{Store}
use Rattle.hv_history.specs.declared.entry.Entry.{Entry}
use Rattle.hv_trail.specs.declared.trail.TrailItem.{TrailItem}
use Rattle.hv_trail.specs.declared.trail.TrailItem.TheVariants.{Noted}
use Rattle.hv_trail.specs.Steps.{HouseSeen, Call, Ask, Outcome, Done, Refused, Starved, gains, Step}
use Rattle.hv_acts.specs.hv_telling.specs.hv_house.specs.declared.fault.HouseFault.{HouseFault}
use Rattle.hv_acts.specs.hv_telling.specs.hv_house.specs.declared.fault.HouseFault.TheVariants as house_fault
use Rattle.hv_acts.specs.hv_telling.specs.hv_house.specs.declared.house.House.{House}
use Rattle.hv_acts.specs.hv_telling.specs.hv_house.specs.Steps.{seen_of, fault_outcome}
use Rattle.hv_job_calls.specs.declared.fault.JobFault.{JobFault}
use Rattle.hv_job_calls.specs.declared.fault.JobFault.TheVariants as fault
use Rattle.hv_acts.specs.Told.{IsWholeOrClosed}
use Rattle.hv_job_acts.specs.declared.fault.JobActFault.{JobActFault}
use Rattle.hv_job_acts.specs.declared.fault.JobActFault.TheVariants as act

-- ---- the call, and how it ended

-- one that a test refused; that nothing stands at a place is no refusal of an act
abbrev pub why_ends : JobFault → Outcome
why_ends fault.Gone = Refused
why_ends (fault.Full entries) = Refused
why_ends fault.NotFound = Refused
why_ends (fault.Needed txn) = Refused
why_ends (fault.StillListed dir) = Refused
why_ends (fault.Working job) = Refused
why_ends fault.Starved = Starved
why_ends (fault.House why) = fault_outcome why

-- then the house was only asked
abbrev pub why_call : Call → JobFault → Call
why_call call fault.Gone = Ask
why_call call (fault.Full entries) = Ask
why_call call fault.NotFound = Ask
why_call call (fault.Needed txn) = Ask
why_call call (fault.StillListed dir) = Ask
why_call call (fault.Working job) = Ask
why_call call fault.Starved = call
why_call call (fault.House why) = call

abbrev pub act_outcome : JobActFault → Outcome
act_outcome act.Unfit = Refused
act_outcome (act.Broken put count) = Refused
act_outcome (act.Call why) = why_ends why

abbrev pub act_call : Call → JobActFault → Call
act_call call act.Unfit = Ask
act_call call (act.Broken put count) = Ask
act_call call (act.Call why) = why_call call why

abbrev pub answer_outcome : {T : Type 0} → Result T JobActFault → Outcome
answer_outcome (Ok x) = Done
answer_outcome (Err why) = act_outcome why

abbrev pub answer_call : {T : Type 0} → Call → Result T JobActFault → Call
answer_call call (Ok x) = call
answer_call call (Err why) = act_call call why

-- what a call answered, as the act does
abbrev pub in_act : {T : Type 0} → Result T JobFault → Result T JobActFault
in_act (Ok x) = Ok x
in_act (Err why) = Err (act.Call why)

-- what it adds, where the call is given by the act
abbrev pub adds_by : {T : Type 0} → Call → Result T JobActFault → List TrailItem
adds_by call answer = gains (answer_call call answer) (answer_outcome answer)

-- one entry is added, or nothing
abbrev pub adds_noted : {T : Type 0} → (T → Entry) → Result T JobActFault → List TrailItem
adds_noted event (Ok x) = Noted (event x) ∷ []
adds_noted event (Err why) = []

-- ---- what it leaves

-- Only a closed house, or one whose store fails now, answers that the store failed; then its count of faults rose.
-- A call on files that failed
-- has the count that it rose to.
abbrev pub HouseLeaves : {D : Type 0} → (D → ℕ) → HouseSeen D → HouseSeen D → HouseFault → Type 0
HouseLeaves faults before now house_fault.Store = before.closed ≡ false → Rose (faults before.shelf) (faults now.shelf)
HouseLeaves faults before now house_fault.NoMemory = before.closed ≡ false
HouseLeaves faults before now (house_fault.Failed count) =
    (before.closed ≡ false) × (faults before.shelf < count) × (count ≡ faults now.shelf)

abbrev pub CallLeaves : {D : Type 0} → (D → ℕ) → HouseSeen D → HouseSeen D → JobFault → Type 0
CallLeaves faults before now (fault.House why) = HouseLeaves faults before now why
CallLeaves faults before now fault.Gone = before.closed ≡ false
CallLeaves faults before now (fault.Full entries) = before.closed ≡ false
CallLeaves faults before now fault.NotFound = before.closed ≡ false
CallLeaves faults before now (fault.Needed txn) = before.closed ≡ false
CallLeaves faults before now (fault.StillListed dir) = before.closed ≡ false
CallLeaves faults before now (fault.Working job) = before.closed ≡ false
CallLeaves faults before now fault.Starved = before.closed ≡ false

abbrev pub WhyLeaves : {D : Type 0} → (D → ℕ) → HouseSeen D → HouseSeen D → JobActFault → Type 0
WhyLeaves faults before now (act.Call why) = CallLeaves faults before now why
WhyLeaves faults before now act.Unfit = before.closed ≡ false
WhyLeaves faults before now (act.Broken put count) = before.closed ≡ false

abbrev pub AnswerLeaves : {D T : Type 0} → (D → ℕ) → HouseSeen D → HouseSeen D → Result T JobActFault → Type 0
AnswerLeaves faults before now (Ok x) = before.closed ≡ false
AnswerLeaves faults before now (Err why) = WhyLeaves faults before now why

-- ---- all that is promised of it

-- what is true of its answer, which says nothing of a house that was closed
pub record JobDoes {D T : Type 0} (faults : D → ℕ) (before now : HouseSeen D) (Answers : Result T JobActFault → Type 0)
    (result : Result T JobActFault) : Type 0 where
  pub answers : before.closed ≡ false → Answers result
  pub leaves : AnswerLeaves faults before now result
  pub up : faults before.shelf ≤ faults now.shelf

pub record ActStep {D T : Type 0} (told : D → Option Store) (faults : D → ℕ) (call : Call) (before now : House D)
    (Answers : Result T JobActFault → Type 0) (result : Result T JobActFault) : Type 0 where
  pub keeps : IsWholeOrClosed told now
  pub step : Step told faults call (answer_outcome result) (seen_of before) (seen_of now)
  pub does : JobDoes faults (seen_of before) (seen_of now) Answers result
