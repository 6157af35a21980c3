-- What is known of a job that was just taken up.
use Rattle.std.specs.Prelude.{◌≡◌, ℕ, ◌-◌, Option, Some, None, List, length}
use Rattle.std.specs.List.{slice_get}
use Rattle.hv_base.specs.declared.ids.JobId.{JobId}
use Rattle.hv_base.specs.declared.ids.WriteId.{WriteId}
use Rattle.hv_history.specs.declared.entry.Entry.{Entry}
use Rattle.hv_history.specs.declared.entry.Entry.TheVariants as entry
use Rattle.hv_history.specs.State.{Job, numbered, state_of}
use Rattle.hv_history.specs.Jobs.{pieces_for}
use Rattle.hv_queue.specs.Queue.{pieces_in}
use Rattle.hv_job_acts.specs.declared.noting.PickedJob.{PickedJob}

-- the watermark of the Picked at a place of a book
abbrev pub mark_of : Entry → WriteId
mark_of (entry.Picked job watermark) = watermark
mark_of _ = record { 0 = 0 }

abbrev pub mark_in : Option Entry → WriteId
mark_in None = record { 0 = 0 }
mark_in (Some event) = mark_of event

abbrev pub mark_at : List Entry → ℕ → WriteId
mark_at book place = mark_in (slice_get book place)

pub record PickedNow (book : List Entry) (job : JobId) (found : PickedJob) : Type 0 where
  pub job_is : found.job ≡ job
  pub mark : found.watermark ≡ mark_at book (length book - 1)
  pub kind : (j : Job) → numbered (state_of book).jobs job.0 ≡ Some j → found.kind ≡ j.kind
  pub pieces : (j : Job) → numbered (state_of book).jobs job.0 ≡ Some j
      → pieces_in found.pieces ≡ pieces_for (state_of book) j

-- where one was
abbrev pub PickedIn : List Entry → Option JobId → Option PickedJob → Type 0
PickedIn book None found = found ≡ None
PickedIn book (Some job) found = (picked : PickedJob) × (found ≡ Some picked) × PickedNow book job picked
