-- How far compaction jobs have come.
use Rattle.std.specs.Prelude.{ℕ, ◌&&◌, Bool, true, false, not, is_none, is_some, None, List}
use Rattle.hv_history.specs.declared.entry.JobKind.{JobKind}
use Rattle.hv_history.specs.State.{first_of}
use Rattle.hv_history.specs.Legal.{one_if}
use Rattle.hv_book.specs.declared.jobs.JobNote.{JobNote}
use Rattle.hv_book.specs.declared.jobs.Step.{Step}
use Rattle.hv_book.specs.declared.jobs.Step.TheVariants as step

-- the jobs, and how many more there is room for
pub record JobList : Type 0 where
  pub notes : List JobNote
  pub room : ℕ

-- one of that table and kind that is asked for at that place
abbrev pub new_job : ℕ → JobKind → ℕ → JobNote
new_job table kind place = record {
  table = table;
  kind = kind;
  asked = place;
  watermark = None;
  published = None;
  is_empty = false;
  is_cleaned = false;
  is_failed = false;
  ended = None;
}

-- each step counts once
abbrev pub stepped : Step → JobNote → JobNote
stepped (step.Picked watermark) job = record job { watermark = first_of job.watermark watermark }
stepped (step.Published place range) job = record job { published = first_of job.published range; ended = first_of job.ended place }
stepped (step.Empty place) job = record job { is_empty = true; ended = first_of job.ended place }
stepped step.Cleaned job = record job { is_cleaned = true }
stepped (step.Failed place) job = record job { is_failed = true; ended = first_of job.ended place }

-- a job that was picked and has not ended
abbrev pub is_working_note : JobNote → Bool
is_working_note job = is_some job.watermark && (is_none job.published && (not job.is_empty && not job.is_failed))

abbrev pub working_note : JobNote → ℕ
working_note job = one_if (is_working_note job)
