-- The notes that a walk leaves are those of the jobs before a place, their rows are those of the jobs, and the lowest transaction that was open is found one by one.
use Rattle.std.proofs.Common.{◌≡◌, ℕ, zero, suc, ◌+◌, ◌≤◌, Bool, true, false, Option, Some, None, List, [], ◌∷◌, ◌++◌, length, map, take, drop, fold, refl, sym, ap, ◌∙◌, arith}
use Rattle.std.specs.Prelude.{if◌then◌else◌, is_some, is_none, option_and_then}
use Rattle.std.specs.Option.{option_map}
use Rattle.std.specs.List.{slice_get, AllByRecursion}
use Rattle.std.proofs.Math.Seq.{drop-nil}
use Rattle.std.proofs.lemmas.List.{append-nil, append_assoc, length-append, drop_all, take-append-drop}
use Rattle.hv_value.specs.declared.row.Row.{Row}
use Rattle.hv_history.specs.declared.entry.Entry.{Entry}
use Rattle.hv_history.specs.declared.entry.Entry.TheVariants as entry
use Rattle.hv_history.specs.declared.state.Ending.{Ending}
use Rattle.hv_history.specs.declared.state.Ending.TheVariants.{Committed, Aborted, Made, Dropped}
use Rattle.hv_history.specs.declared.state.Table.{Table}
use Rattle.hv_history.specs.declared.state.Transaction.{Transaction}
use Rattle.hv_history.specs.Standing.{first_open}
use Rattle.hv_history.specs.State.{State, Job, numbered, nothing_yet, acted, after, state_of}
use Rattle.hv_history.specs.Shown.{JobSteps, steps_of, stage_text, stands_ready, needed_by, job_row, mark_of_range, shown_name, shown_live, row_in, job_rows}
use Rattle.hv_book.specs.declared.jobs.JobNote.{JobNote}
use Rattle.hv_book.specs.Notes.{Notes, no_notes}
use Rattle.hv_book.specs.Briefs.{brief_job, brief_range}
use Rattle.hv_book.specs.Names.{name_in}
use Rattle.hv_book.specs.Past.{table_live}
use Rattle.hv_book.proofs.NoteLaws.{jobs-follow}
use Rattle.hv_book.proofs.IdLaws.{all-more}
use Rattle.hv_book.proofs.TextLaws.{get-front}
use Rattle.hv_tallies.specs.Jobs.{asked_in, asked_at}
use Rattle.hv_tallies.proofs.AskedLemmas.{IsAskedThere, all-asked}
use Rattle.hv_earlier.specs.Fates.{fate_by, fate_of}
use Rattle.hv_earlier.specs.Places.{live_so}
use Rattle.hv_showing.specs.Fronts.{tables_then}
use Rattle.hv_showing.specs.Jobs.{jobs_then, jobs_by, jobs_over, is_going, steps_in, mark_in, or_empty, note_row, rows_over}

-- ---- the lowest open transaction

going-by : (e : Option Ending) → is_going (Some (fate_by e)) ≡ is_none e
going-by None = refl
going-by (Some (Committed place wrote)) = refl
going-by (Some (Aborted place cause)) = refl
going-by (Some (Made place table)) = refl
going-by (Some (Dropped place table)) = refl

open-get : (ts : List Transaction) (i n : ℕ) → is_going (option_map fate_of (slice_get ts i)) ≡ true → first_open n (drop i ts) ≡ Some n
open-get [] i n going = cc
open-get (t ∷ ts) zero n going = ap (λ (b : Bool). if b then Some n else first_open (n + 1) ts) (sym (going-by t.ending) ∙ going)
open-get (t ∷ ts) (suc i) n going = open-get ts i n going

shut-get : (ts : List Transaction) (i n : ℕ) → is_going (option_map fate_of (slice_get ts i)) ≡ false
    → first_open n (drop i ts) ≡ first_open (n + 1) (drop (i + 1) ts)
shut-get [] zero n shut = refl
shut-get [] (suc i) n shut = ap (first_open (n + 1)) (sym (drop-nil (suc i + 1)))
shut-get (t ∷ ts) zero n shut = ap (λ (b : Bool). if b then Some n else first_open (n + 1) ts) (sym (going-by t.ending) ∙ shut)
shut-get (t ∷ ts) (suc i) n shut =
    shut-get ts i n shut
    ∙ ap (λ (k : ℕ). first_open (n + 1) (drop k (t ∷ ts))) (let at : suc (i + 1) ≡ suc i + 1 = omega arith in at)

number-get : (ts : List Transaction) (i number : ℕ) → number ≡ i + 1 → numbered ts number ≡ slice_get ts i
number-get ts i zero e = absurd (omega (arith, e))
number-get ts i (suc n) e = ap (slice_get ts) (let same : n ≡ i = omega (arith, e) in same)

going-at : (ts : List Transaction) (i : ℕ) (b : Bool) → is_going (option_map fate_of (numbered ts (i + 1))) ≡ b → is_going (option_map fate_of (slice_get ts i)) ≡ b
going-at ts i b going = ap (λ (o : Option Transaction). is_going (option_map fate_of o)) (sym (number-get ts i (i + 1) refl)) ∙ going

pub open-here : (ts : List Transaction) (i : ℕ) → is_going (option_map fate_of (numbered ts (i + 1))) ≡ true → first_open (i + 1) (drop i ts) ≡ Some (i + 1)
open-here ts i going = open-get ts i (i + 1) (going-at ts i true going)

pub shut-here : (ts : List Transaction) (i : ℕ) → is_going (option_map fate_of (numbered ts (i + 1))) ≡ false
    → first_open (i + 1) (drop i ts) ≡ first_open (i + 1 + 1) (drop (i + 1) ts)
shut-here ts i shut = shut-get ts i (i + 1) (going-at ts i false shut)

pub none-open : (ts : List Transaction) (i : ℕ) → length ts ≤ i → first_open (i + 1) (drop i ts) ≡ None
none-open ts i past = ap (first_open (i + 1)) (drop_all i ts past)

-- ---- the notes of the jobs

with_jobs : State → Notes
with_jobs state = record no_notes { jobs = map brief_job state.jobs }

jobs-next : (state : State) (event : Entry) → jobs_by state.entries event (map brief_job state.jobs) ≡ map brief_job (after state event).jobs
unfolding acted with_jobs
jobs-next state (entry.Asked job table partition kind by) = jobs-follow state (entry.Asked job table partition kind by) (with_jobs state) refl
jobs-next state (entry.Picked job mark) = jobs-follow state (entry.Picked job mark) (with_jobs state) refl
jobs-next state (entry.Published job low high mark) = jobs-follow state (entry.Published job low high mark) (with_jobs state) refl
jobs-next state (entry.Empty job) = jobs-follow state (entry.Empty job) (with_jobs state) refl
jobs-next state (entry.Cleaned job) = jobs-follow state (entry.Cleaned job) (with_jobs state) refl
jobs-next state (entry.Failed job cause) = jobs-follow state (entry.Failed job cause) (with_jobs state) refl
jobs-next state (entry.Boot run) = refl
jobs-next state (entry.Opened txn session number text) = refl
jobs-next state (entry.Start txn statement) = refl
jobs-next state (entry.Given txn table write) = refl
jobs-next state (entry.Commit txn wrote) = refl
jobs-next state (entry.Abort txn cause) = refl
jobs-next state (entry.Create txn table) = refl
jobs-next state (entry.Drop txn table) = refl
jobs-next state (entry.Forgot table write) = refl
jobs-next state (entry.Next txn statement number text) = refl
jobs-next state (entry.Did txn statement wrote) = refl
jobs-next state (entry.Alter txn table) = refl

jobs-all : (entries : List Entry) (state : State)
    → jobs_over state.entries entries (map brief_job state.jobs) ≡ map brief_job (fold after state entries).jobs
jobs-all [] state = refl
jobs-all (event ∷ entries) state =
    ap (λ (notes : List JobNote). jobs_over (state.entries + 1) entries notes) (jobs-next state event) ∙ jobs-all entries (after state event)

pub jobs-are : (entries : List Entry) → jobs_over 0 entries [] ≡ map brief_job (state_of entries).jobs
jobs-are entries = jobs-all entries nothing_yet

-- ---- their rows

name-same : (o : Option Table) → name_in o ≡ shown_name o
name-same None = refl
name-same (Some t) = refl

live-same : (o : Option Table) → live_so (option_map table_live o) ≡ shown_live o
live-same None = refl
live-same (Some t) = refl

mark-same : (o : Option (ℕ × ℕ × ℕ)) → mark_in (option_map brief_range o) ≡ mark_of_range o
mark-same None = refl
mark-same (Some range) = refl

some-same : (o : Option (ℕ × ℕ × ℕ)) → is_some (option_map brief_range o) ≡ is_some o
some-same None = refl
some-same (Some range) = refl

steps-same : (job : Job) → steps_in (brief_job job) ≡ steps_of job
steps-same job = ap (λ (b : Bool). record (steps_of job) { published = b }) (some-same job.published)

module _ (entries : List Entry) (position : ℕ) (lowest : Option ℕ) where
  row-as : (job : Job) (n : ℕ) → asked_at entries job.asked ≡ Some job.partition
      → note_row entries position lowest n (brief_job job) ≡ row_in (tables_then entries position) lowest n job
  row-as job n there =
      let table = numbered (tables_then entries position) job.table in
      λ i. job_row n (name-same table i) (or_empty (there i)) job.kind (stage_text (live-same table i) (steps-same job i))
      (needed_by lowest (stands_ready (live-same table i) (steps-same job i)) (mark-same job.published i))

  rows-all : (jobs : List Job) (rows : List Row) → AllByRecursion (λ (job : Job). asked_at entries job.asked ≡ Some job.partition) jobs
      → rows_over entries position lowest (map brief_job jobs) rows ≡ rows ++ job_rows (tables_then entries position) lowest (length rows + 1) jobs
  rows-all [] rows all = sym (append-nil rows)
  rows-all (job ∷ jobs) rows all =
      let tables = tables_then entries position in
      let row = row_in tables lowest (length rows + 1) job in
      let count : length (rows ++ row ∷ []) ≡ length rows + 1 = omega (arith, length-append rows (row ∷ [])) in
      ap (λ (x : Row). rows_over entries position lowest (map brief_job jobs) (rows ++ x ∷ [])) (row-as job (length rows + 1) all.0)
      ∙ rows-all jobs (rows ++ row ∷ []) all.1
      ∙ append_assoc rows (row ∷ []) (job_rows tables lowest (length (rows ++ row ∷ []) + 1) jobs)
      ∙ ap (λ (k : ℕ). rows ++ row ∷ job_rows tables lowest (k + 1) jobs) count

asked-whole : (entries : List Entry) (position : ℕ) (job : Job) → IsAskedThere (take position entries) job → asked_at entries job.asked ≡ Some job.partition
asked-whole entries position job is =
    ap (λ (es : List Entry). asked_at es job.asked) (sym (take-append-drop position entries))
    ∙ ap (option_and_then asked_in) (get-front (take position entries) (drop position entries) job.asked is.within) ∙ is.there

pub rows-then : (entries : List Entry) (position : ℕ) (lowest : Option ℕ)
    → rows_over entries position lowest (map brief_job (jobs_then entries position)) []
    ≡ job_rows (tables_then entries position) lowest 1 (jobs_then entries position)
rows-then entries position lowest =
    rows-all entries position lowest (jobs_then entries position) []
    (all-more (IsAskedThere (take position entries)) (λ (job : Job). asked_at entries job.asked ≡ Some job.partition) (asked-whole entries position)
    (jobs_then entries position) (all-asked (take position entries)))
