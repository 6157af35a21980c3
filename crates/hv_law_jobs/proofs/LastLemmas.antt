-- A job keeps what it was asked, and each step that it made.
use Rattle.std.proofs.Common.{◌≡◌, ℕ, Option, Some, None, [], ◌∷◌, fold, refl, sym, ◌∙◌, subst}
use Rattle.std.specs.Prelude.{IsSomeAnd}
use Rattle.hv_history.specs.declared.entry.Entry.{Entry}
use Rattle.hv_history.specs.declared.entry.Entry.TheVariants as entry
use Rattle.hv_history.specs.declared.entry.JobCause.{JobCause}
use Rattle.hv_history.specs.State.{State, Job, numbered, first_of, asked_job, picked, published_at, empty_at, failed_at, cleaned, acted, after}
use Rattle.hv_history.proofs.LastingLaws.{kept-more, kept-changed}
use Rattle.hv_law_jobs.specs.Lasting.{JobLater, JobsLast}

once : {A : Type 0} (o : Option A) (x y : A) → o ≡ Some y → first_of o x ≡ Some y
once None x y e = cc
once (Some z) x y e = e

-- ---- one step

job-same : (j : Job) → JobLater j j
job-same j = record {
  table = refl;
  partition = refl;
  kind = refl;
  by = refl;
  asked = refl;
  watermark = λ mark e. e;
  published = λ range e. e;
  is_empty = λ e. e;
  is_cleaned = λ e. e;
  failure = λ why e. e;
  ended = λ place e. e;
}

picked-later : (mark : ℕ) (j : Job) → JobLater j (picked mark j)
picked-later mark j = record {
  table = refl;
  partition = refl;
  kind = refl;
  by = refl;
  asked = refl;
  watermark = λ m e. once j.watermark mark m e;
  published = λ range e. e;
  is_empty = λ e. e;
  is_cleaned = λ e. e;
  failure = λ why e. e;
  ended = λ place e. e;
}

published-later : (place : ℕ) (range : ℕ × ℕ × ℕ) (j : Job) → JobLater j (published_at place range j)
published-later place range j = record {
  table = refl;
  partition = refl;
  kind = refl;
  by = refl;
  asked = refl;
  watermark = λ mark e. e;
  published = λ r e. once j.published range r e;
  is_empty = λ e. e;
  is_cleaned = λ e. e;
  failure = λ why e. e;
  ended = λ p e. once j.ended place p e;
}

empty-later : (place : ℕ) (j : Job) → JobLater j (empty_at place j)
empty-later place j = record {
  table = refl;
  partition = refl;
  kind = refl;
  by = refl;
  asked = refl;
  watermark = λ mark e. e;
  published = λ range e. e;
  is_empty = λ e. refl;
  is_cleaned = λ e. e;
  failure = λ why e. e;
  ended = λ p e. once j.ended place p e;
}

failed-later : (place : ℕ) (cause : JobCause) (j : Job) → JobLater j (failed_at place cause j)
failed-later place cause j = record {
  table = refl;
  partition = refl;
  kind = refl;
  by = refl;
  asked = refl;
  watermark = λ mark e. e;
  published = λ range e. e;
  is_empty = λ e. e;
  is_cleaned = λ e. e;
  failure = λ why e. once j.failure cause why e;
  ended = λ p e. once j.ended place p e;
}

cleaned-later : (j : Job) → JobLater j (cleaned j)
cleaned-later j = record {
  table = refl;
  partition = refl;
  kind = refl;
  by = refl;
  asked = refl;
  watermark = λ mark e. e;
  published = λ range e. e;
  is_empty = λ e. e;
  is_cleaned = λ e. refl;
  failure = λ why e. e;
  ended = λ place e. e;
}

job-then : (a b c : Job) → JobLater a b → JobLater b c → JobLater a c
job-then a b c x y = record {
  table = y.table ∙ x.table;
  partition = y.partition ∙ x.partition;
  kind = y.kind ∙ x.kind;
  by = y.by ∙ x.by;
  asked = y.asked ∙ x.asked;
  watermark = λ mark e. y.watermark mark (x.watermark mark e);
  published = λ range e. y.published range (x.published range e);
  is_empty = λ e. y.is_empty (x.is_empty e);
  is_cleaned = λ e. y.is_cleaned (x.is_cleaned e);
  failure = λ why e. y.failure why (x.failure why e);
  ended = λ place e. y.ended place (x.ended place e);
}

-- ---- one entry

stays : (o : Option Job) (j : Job) → o ≡ Some j → IsSomeAnd o (JobLater j)
stays o j e = subst (λ (p : Option Job). IsSomeAnd p (JobLater j)) (sym e) (job-same j)

one-later : (state : State) (event : Entry) (n : ℕ) (j : Job) → numbered state.jobs n ≡ Some j → IsSomeAnd (numbered (after state event).jobs n) (JobLater j)
unfolding acted
one-later state (entry.Boot run) n j e = stays (numbered state.jobs n) j e
one-later state (entry.Opened txn session number text) n j e = stays (numbered state.jobs n) j e
one-later state (entry.Start txn statement) n j e = stays (numbered state.jobs n) j e
one-later state (entry.Given txn table write) n j e = stays (numbered state.jobs n) j e
one-later state (entry.Commit txn wrote) n j e = stays (numbered state.jobs n) j e
one-later state (entry.Abort txn cause) n j e = stays (numbered state.jobs n) j e
one-later state (entry.Create txn table) n j e = stays (numbered state.jobs n) j e
one-later state (entry.Drop txn table) n j e = stays (numbered state.jobs n) j e
one-later state (entry.Asked job table partition kind by) n j e =
    kept-more JobLater job-same state.jobs (asked_job state.entries table.0 partition kind by ∷ []) n j e
one-later state (entry.Picked job watermark) n j e = kept-changed JobLater job-same (picked watermark.0) (picked-later watermark.0) state.jobs job.0 n j e
one-later state (entry.Published job low high mark) n j e =
    kept-changed JobLater job-same (published_at state.entries (low.0, high.0, mark.0)) (published-later state.entries (low.0, high.0, mark.0)) state.jobs job.0 n j e
one-later state (entry.Empty job) n j e = kept-changed JobLater job-same (empty_at state.entries) (empty-later state.entries) state.jobs job.0 n j e
one-later state (entry.Cleaned job) n j e = kept-changed JobLater job-same cleaned cleaned-later state.jobs job.0 n j e
one-later state (entry.Failed job cause) n j e =
    kept-changed JobLater job-same (failed_at state.entries cause) (failed-later state.entries cause) state.jobs job.0 n j e
one-later state (entry.Forgot table write) n j e = stays (numbered state.jobs n) j e
one-later state (entry.Next txn statement number text) n j e = stays (numbered state.jobs n) j e
one-later state (entry.Did txn statement wrote) n j e = stays (numbered state.jobs n) j e
one-later state (entry.Alter txn table) n j e = stays (numbered state.jobs n) j e

-- ---- all of them

later-then : (j : Job) (o p : Option Job) → IsSomeAnd o (JobLater j) → ((k : Job) → o ≡ Some k → IsSomeAnd p (JobLater k)) → IsSomeAnd p (JobLater j)
later-then j None p here next = absurd here
later-then j (Some k) None here next = next k refl
later-then j (Some k) (Some l) here next = job-then j k l here (next k refl)

pub jobs-last : JobsLast
jobs-last state [] n j e = stays (numbered state.jobs n) j e
jobs-last state (event ∷ more) n j e =
    later-then j (numbered (after state event).jobs n) (numbered (fold after (after state event) more).jobs n) (one-later state event n j e)
    (λ k is. jobs-last (after state event) more n k is)
