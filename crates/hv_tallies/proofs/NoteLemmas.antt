-- What a note beside a book says is what its transaction or its job does.
use Rattle.std.proofs.Common.{◌≡◌, ℕ, Option, Some, None, List, map, refl, ap, ◌∙◌}
use Rattle.std.specs.Prelude.{is_none}
use Rattle.std.specs.Option.{option_map}
use Rattle.hv_dirs.specs.declared.names.DirName.{DirName}
use Rattle.hv_jobs.specs.hv_history.specs.declared.entry.JobKind.{JobKind}
use Rattle.hv_jobs.specs.hv_history.specs.declared.state.Transaction.{Transaction}
use Rattle.hv_jobs.specs.hv_history.specs.State.{Job, numbered}
use Rattle.hv_jobs.specs.hv_history.specs.Jobs.{is_open_one}
use Rattle.hv_jobs.specs.Covers.{covers, covers_by}
use Rattle.hv_earlier.specs.hv_meta.specs.hv_book.specs.declared.jobs.JobNote.{JobNote}
use Rattle.hv_earlier.specs.hv_meta.specs.hv_book.specs.Notes.{is_open_note}
use Rattle.hv_earlier.specs.hv_meta.specs.hv_book.specs.Briefs.{brief, brief_range, brief_job, end_of}
use Rattle.hv_earlier.specs.hv_meta.specs.hv_book.proofs.TextLaws.{numbered-map}
use Rattle.hv_tallies.specs.Covered.{covers_if, covers_note}

none-mapped : {A B : Type 0} (f : A → B) (o : Option A) → is_none (option_map f o) ≡ is_none o
none-mapped f None = refl
none-mapped f (Some x) = refl

pub open-same : (ts : List Transaction) (n : ℕ) → is_open_note (numbered (map brief ts) n) ≡ is_open_one (numbered ts n)
open-same ts n = ap is_open_note (numbered-map brief ts n) ∙ by (numbered ts n)
  where
    by : (o : Option Transaction) → is_open_note (option_map brief o) ≡ is_open_one o
    by None = refl
    by (Some t) = none-mapped end_of t.ending

-- ---- jobs

pub job-some : (note : JobNote) (jobs : List Job) (n : ℕ) (j : Job) → Some note ≡ numbered (map brief_job jobs) n → numbered jobs n ≡ Some j → note ≡ brief_job j
job-some note jobs n j is at =
    let both : Some note ≡ Some (brief_job j) = is ∙ numbered-map brief_job jobs n ∙ ap (option_map brief_job) at in
    cc

pub job-none : {A : Type 0} (jobs : List Job) (n : ℕ) (j : Job) → None ≡ numbered (map brief_job jobs) n → numbered jobs n ≡ Some j → A
job-none jobs n j is at =
    let both : None ≡ Some (brief_job j) = is ∙ numbered-map brief_job jobs n ∙ ap (option_map brief_job) at in
    cc

covers-ranged : (kind : JobKind) (o : Option (ℕ × ℕ × ℕ)) (name : DirName) → covers_if kind (option_map brief_range o) name ≡ covers_by kind o name
covers-ranged kind None name = refl
covers-ranged kind (Some range) name = refl

pub covers-same : (j : Job) (name : DirName) → covers_note (brief_job j) name ≡ covers j name
covers-same j name = covers-ranged j.kind j.published name
