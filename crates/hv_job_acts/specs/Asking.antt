-- A compaction that is asked for where it is due, and one that is taken up.
use Rattle.std.specs.Prelude.{◌≡◌, ℕ, ◌+◌, ◌<◌, Option, Some, None, IsSome, List, [], ◌∷◌, length, Result, Ok, Err}
use Rattle.hv_base.specs.declared.ids.JobId.{JobId}
use Rattle.hv_base.specs.declared.ids.TableId.{TableId}
use Rattle.hv_history.specs.declared.entry.Entry.{Entry}
use Rattle.hv_history.specs.declared.entry.Entry.TheVariants as entry
use Rattle.hv_history.specs.declared.entry.JobKind.{JobKind}
use Rattle.hv_history.specs.State.{Job, numbered, state_of}
use Rattle.hv_history.specs.Legal.{profile}
use Rattle.hv_history.specs.Jobs.{due, pieces_for}
use Rattle.hv_queue.specs.Queue.{pieces_in}
use Rattle.hv_trail.specs.declared.trail.TrailItem.{TrailItem}
use Rattle.hv_trail.specs.declared.trail.TrailItem.TheVariants.{Noted}
use Rattle.hv_trail.specs.Steps.{Call, Ask, Note}
use Rattle.hv_acts.specs.hv_telling.specs.hv_house.specs.declared.fault.HouseFault.{HouseFault}
use Rattle.hv_acts.specs.hv_telling.specs.hv_house.specs.declared.fault.HouseFault.TheVariants as house_fault
use Rattle.hv_acts.specs.hv_telling.specs.hv_house.specs.Calls.{LacksRoom}
use Rattle.hv_job_calls.specs.declared.fault.JobFault.{JobFault}
use Rattle.hv_job_calls.specs.declared.fault.JobFault.TheVariants as fault
use Rattle.hv_job_calls.specs.Refusals.{asking, picking, to_pick}
use Rattle.hv_job_acts.specs.declared.fault.JobActFault.{JobActFault}
use Rattle.hv_job_acts.specs.declared.fault.JobActFault.TheVariants as act
use Rattle.hv_job_acts.specs.declared.noting.AskedJob.{AskedJob}
use Rattle.hv_job_acts.specs.declared.noting.PickedJob.{PickedJob}
use Rattle.hv_job_acts.specs.Answers.{act_call}

-- ---- asked for

-- the entry, of the kind that is due; where none is due, one that is never noted
abbrev pub asked_kind : List Entry → TableId → List ℕ → Option JobKind → Entry
asked_kind book table partition None = entry.Boot 0
asked_kind book table partition (Some kind) = asking book table partition kind 0

abbrev pub asked_due : List Entry → TableId → List ℕ → Entry
asked_due book table partition = asked_kind book table partition (due (state_of book) table.0 partition)

abbrev pub asked_entry : TableId → List ℕ → AskedJob → Entry
asked_entry table partition found = entry.Asked found.job table partition found.kind 0

abbrev pub call_to_ask : List Entry → TableId → List ℕ → Result (Option AskedJob) JobActFault → Call
call_to_ask book table partition (Ok (Some found)) = Note (asked_entry table partition found)
call_to_ask book table partition (Ok None) = Ask
call_to_ask book table partition (Err why) = act_call (Note (asked_due book table partition)) why

-- what the house answered, with the kind that was asked for
abbrev pub asked_as : JobKind → Option JobId → Option AskedJob
asked_as kind None = None
asked_as kind (Some job) = Some (record { job = job; kind = kind })

abbrev pub asked_in : JobKind → Result (Option JobId) JobFault → Result (Option AskedJob) JobActFault
asked_in kind (Ok found) = Ok (asked_as kind found)
asked_in kind (Err why) = Err (act.Call why)

abbrev pub adds_found : {T : Type 0} → (T → Entry) → Result (Option T) JobActFault → List TrailItem
adds_found event (Ok (Some found)) = Noted (event found) ∷ []
adds_found event (Ok None) = []
adds_found event (Err why) = []

-- the longest text of a partition that is asked for
abbrev pub most_text : ℕ
most_text = 240

-- its journal failed only where something was due
abbrev pub FailsSo : Option JobKind → HouseFault → Type 0
FailsSo kind house_fault.Store = IsSome kind
FailsSo kind house_fault.NoMemory = Unit {0}
FailsSo kind (house_fault.Failed count) = Unit {0}

-- It is asked for with the kind that is due and the next number; and nothing is where nothing is due.
abbrev pub DuesSo : List Entry → TableId → List ℕ → Result (Option AskedJob) JobActFault → Type 0
DuesSo book table partition (Ok (Some found)) =
    (due (state_of book) table.0 partition ≡ Some found.kind) × (found.job.0 ≡ length (state_of book).jobs + 1)
DuesSo book table partition (Ok None) = due (state_of book) table.0 partition ≡ None
DuesSo book table partition (Err act.Unfit) = most_text < length partition
DuesSo book table partition (Err (act.Call (fault.Full count))) =
    IsSome (due (state_of book) table.0 partition) × LacksRoom profile book 1 count
DuesSo book table partition (Err (act.Call (fault.House why))) = FailsSo (due (state_of book) table.0 partition) why
DuesSo book table partition (Err why) = ⊥

-- ---- taken up

abbrev pub picked_entry : PickedJob → Entry
picked_entry found = entry.Picked found.job found.watermark

abbrev pub call_to_pick : List Entry → Result (Option PickedJob) JobActFault → Call
call_to_pick book (Ok (Some found)) = Note (picked_entry found)
call_to_pick book (Ok None) = Ask
call_to_pick book (Err why) = act_call (Note (picking book)) why

-- what it merges, over the book behind its Picked
pub record IsPickedSo (now : List Entry) (found : PickedJob) : Type 0 where
  pub kind : (j : Job) → numbered (state_of now).jobs found.job.0 ≡ Some j → found.kind ≡ j.kind
  pub pieces : (j : Job) → numbered (state_of now).jobs found.job.0 ≡ Some j
      → pieces_in found.pieces ≡ pieces_for (state_of now) j

abbrev pub PicksSo : List Entry → List Entry → Result (Option PickedJob) JobActFault → Type 0
PicksSo book now (Ok (Some found)) =
    (to_pick (state_of book) ≡ Some found.job.0) × (picked_entry found ≡ picking book) × IsPickedSo now found
PicksSo book now (Ok None) = to_pick (state_of book) ≡ None
PicksSo book now (Err (act.Call (fault.Full count))) = IsSome (to_pick (state_of book)) × LacksRoom profile book 2 count
PicksSo book now (Err (act.Call (fault.House why))) = Unit {0}
PicksSo book now (Err why) = ⊥
