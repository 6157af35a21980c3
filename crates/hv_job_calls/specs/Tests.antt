-- What is tested of a book, by what is kept beside it.
use Rattle.std.specs.Prelude.{ℕ, ◌&&◌, Bool, false, is_none, Option, Some, None, map, slice_get, Result, Ok, Err}
use Rattle.hv_history.specs.State.{State, Job}
use Rattle.hv_history.specs.Jobs.{if_below, is_initiated}
use Rattle.hv_history.specs.JobsFit.{is_live_job}
use Rattle.hv_history.specs.Legal.{is_working}
use Rattle.hv_book.specs.declared.jobs.JobNote.{JobNote}
use Rattle.hv_book.specs.declared.jobs.JobRange.{JobRange}
use Rattle.hv_book.specs.Briefs.{brief, open_from}
use Rattle.hv_job_calls.specs.declared.fault.JobFault.{JobFault}
use Rattle.hv_job_calls.specs.declared.fault.JobFault.TheVariants as fault
use Rattle.hv_job_calls.specs.Refusals.{holder_by}

-- the lowest open transaction below the mark of a range
abbrev pub holder_note : State → Option JobRange → Option ℕ
holder_note state None = None
holder_note state (Some range) = if_below range.mark (slice_get (open_from 1 (map brief state.transactions)) 0)

abbrev pub is_initiated_note : JobNote → Bool
is_initiated_note note = is_none note.watermark && is_none note.ended

-- its table is live
abbrev pub live_in : State → Option Job → Bool
live_in state None = false
live_in state (Some j) = is_live_job state j

-- the lowest open transaction below its mark
abbrev pub held_in : State → Option Job → Option ℕ
held_in state None = None
held_in state (Some j) = holder_by state j.published

-- nobody took it up, and its table is live
abbrev pub waits_in : State → Option Job → Bool
waits_in state None = false
waits_in state (Some j) = is_initiated j && is_live_job state j

-- it is at work, and its table is live
abbrev pub works_live : State → Option Job → Bool
works_live state None = false
works_live state (Some j) = is_working j && is_live_job state j

-- ---- which refusals there are

-- it was refused by a test
abbrev pub IsRefusal : JobFault → Type 0
IsRefusal (fault.House why) = ⊥
IsRefusal fault.Starved = ⊥
IsRefusal fault.NotFound = ⊥
IsRefusal why = Unit {0}

abbrev pub IsHouse : JobFault → Type 0
IsHouse (fault.House why) = Unit {0}
IsHouse why = ⊥

abbrev pub IsGoneOrHouse : JobFault → Type 0
IsGoneOrHouse fault.Gone = Unit {0}
IsGoneOrHouse (fault.House why) = Unit {0}
IsGoneOrHouse why = ⊥

-- a job was found, or a call of the house failed
abbrev pub IsFoundOrHouse : {T : Type 0} → Result (Option T) JobFault → Type 0
IsFoundOrHouse (Ok (Some x)) = Unit {0}
IsFoundOrHouse (Ok None) = ⊥
IsFoundOrHouse (Err why) = IsHouse why

-- which refusals a call has, beside the faults of the house
abbrev pub RemovesOrHouse : JobFault → Type 0
RemovesOrHouse fault.Gone = Unit {0}
RemovesOrHouse (fault.Needed txn) = Unit {0}
RemovesOrHouse (fault.House why) = Unit {0}
RemovesOrHouse why = ⊥

abbrev pub CleansOrHouse : JobFault → Type 0
CleansOrHouse fault.Gone = Unit {0}
CleansOrHouse (fault.Full entries) = Unit {0}
CleansOrHouse (fault.Needed txn) = Unit {0}
CleansOrHouse (fault.House why) = Unit {0}
CleansOrHouse why = ⊥

abbrev pub NotesOrHouse : JobFault → Type 0
NotesOrHouse fault.Gone = Unit {0}
NotesOrHouse (fault.Full entries) = Unit {0}
NotesOrHouse (fault.House why) = Unit {0}
NotesOrHouse why = ⊥

abbrev pub ListsOrHouse : JobFault → Type 0
ListsOrHouse (fault.StillListed dir) = Unit {0}
ListsOrHouse (fault.House why) = Unit {0}
ListsOrHouse why = ⊥

abbrev pub ForgetsOrHouse : JobFault → Type 0
ForgetsOrHouse fault.Gone = Unit {0}
ForgetsOrHouse (fault.Full entries) = Unit {0}
ForgetsOrHouse (fault.StillListed dir) = Unit {0}
ForgetsOrHouse (fault.House why) = Unit {0}
ForgetsOrHouse why = ⊥

abbrev pub SweepsOrHouse : JobFault → Type 0
SweepsOrHouse (fault.Working job) = Unit {0}
SweepsOrHouse (fault.House why) = Unit {0}
SweepsOrHouse why = ⊥

abbrev pub FindsOrHouse : JobFault → Type 0
FindsOrHouse fault.NotFound = Unit {0}
FindsOrHouse (fault.House why) = Unit {0}
FindsOrHouse why = ⊥

abbrev pub GetsOrHouse : JobFault → Type 0
GetsOrHouse fault.Gone = Unit {0}
GetsOrHouse fault.NotFound = Unit {0}
GetsOrHouse (fault.House why) = Unit {0}
GetsOrHouse why = ⊥

abbrev pub IsPublishing : JobFault → Type 0
IsPublishing fault.Starved = Unit {0}
IsPublishing (fault.House why) = Unit {0}
IsPublishing why = ⊥

abbrev pub IsGoneOrPublishing : JobFault → Type 0
IsGoneOrPublishing fault.Gone = Unit {0}
IsGoneOrPublishing fault.Starved = Unit {0}
IsGoneOrPublishing (fault.House why) = Unit {0}
IsGoneOrPublishing why = ⊥
