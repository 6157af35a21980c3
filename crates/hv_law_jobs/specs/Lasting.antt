-- What is true of a job in every longer book: what was asked stays, and so does each step that it made.
use Rattle.std.specs.Prelude.{◌≡◌, ℕ, true, Some, IsSomeAnd, List, fold}
use Rattle.hv_history.specs.declared.entry.Entry.{Entry}
use Rattle.hv_history.specs.declared.entry.JobCause.{JobCause}
use Rattle.hv_history.specs.State.{State, Job, numbered, after}

pub record JobLater (before now : Job) : Type 0 where
  pub table : now.table ≡ before.table
  pub partition : now.partition ≡ before.partition
  pub kind : now.kind ≡ before.kind
  pub by : now.by ≡ before.by
  pub asked : now.asked ≡ before.asked
  pub watermark : (mark : ℕ) → before.watermark ≡ Some mark → now.watermark ≡ Some mark
  pub published : (range : ℕ × ℕ × ℕ) → before.published ≡ Some range → now.published ≡ Some range
  pub is_empty : before.is_empty ≡ true → now.is_empty ≡ true
  pub is_cleaned : before.is_cleaned ≡ true → now.is_cleaned ≡ true
  pub failure : (why : JobCause) → before.failure ≡ Some why → now.failure ≡ Some why
  pub ended : (place : ℕ) → before.ended ≡ Some place → now.ended ≡ Some place

-- whatever entries come
abbrev pub JobsLast : Type 0
JobsLast =
    (state : State) (more : List Entry) (number : ℕ) (job : Job) → numbered state.jobs number ≡ Some job
    → IsSomeAnd (numbered (fold after state more).jobs number) (JobLater job)
