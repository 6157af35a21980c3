-- Whether a job that was cleaned covers a directory of a name, job by job.
use Rattle.std.proofs.Common.{◌≡◌, ℕ, zero, suc, ◌+◌, ◌≤◌, Bool, true, false, Some, None, List, [], ◌∷◌, length, filter, drop, map, refl, sym, ap, ◌∙◌, arith}
use Rattle.std.specs.Prelude.{if◌then◌else◌, ◌&&◌, ◌||◌}
use Rattle.std.specs.List.{slice_get, list_any}
use Rattle.std.proofs.Math.Seq.{drop-nil}
use Rattle.std.proofs.lemmas.List.{drop_all}
use Rattle.hv_dirs.specs.declared.names.DirName.{DirName}
use Rattle.hv_history.specs.declared.entry.Entry.{Entry}
use Rattle.hv_history.specs.State.{Job, numbered, state_of}
use Rattle.hv_history.specs.Jobs.{is_job_of}
use Rattle.hv_book.specs.declared.jobs.JobNote.{JobNote}
use Rattle.hv_book.specs.Briefs.{brief_job}
use Rattle.hv_jobs.specs.Covers.{covers, cleans}
use Rattle.hv_stands.proofs.Soundness.{all-numbered}
use Rattle.hv_tallies.proofs.AskedLemmas as asked
use Rattle.hv_job_calls.proofs.Notes.{note-of, no-note}
use Rattle.hv_job_acts.specs.Covering.{is_cleaned_note, cleans_one, cleans_note}

and-true : (b : Bool) → (b && true) ≡ b
and-true true = refl
and-true false = refl

and-none : (b : Bool) → (b && false) ≡ false
and-none true = refl
and-none false = refl

module _ (table : ℕ) (partition : List ℕ) (name : DirName) where
  -- ---- of one job, by what is kept of it

  pub cleans-same : (entries : List Entry) (n : ℕ) (note : JobNote) (both a b : Bool) → Some note ≡ numbered (map brief_job (state_of entries).jobs) n
      → both ≡ a && b → a ≡ is_cleaned_note entries table partition note
      → ((j : Job) → numbered (state_of entries).jobs n ≡ Some j → b ≡ covers j name) → both ≡ cleans_note entries table partition name n
  cleans-same entries n note both a b e is cleaned covered =
      let there = note-of (state_of entries).jobs n note e in
      let of = all-numbered (asked.IsAskedThere entries) (state_of entries).jobs n there.0 there.1 (asked.all-asked entries) in
      is ∙ (λ i. (cleaned ∙ ap (is_cleaned_note entries table partition) there.2) i && covered there.0 there.1 i)
      ∙ ap (λ c. (there.0.is_cleaned && c) && covers there.0 name) (asked.note-of entries table partition there.0 of)
      ∙ ap (cleans_one table partition name) (sym there.1)

  pub cleans-none : (entries : List Entry) (n : ℕ) → None ≡ numbered (map brief_job (state_of entries).jobs) n
      → false ≡ cleans_note entries table partition name n
  cleans-none entries n e = ap (cleans_one table partition name) (sym (no-note (state_of entries).jobs n e))

  -- ---- of one job more

  abbrev among : List Job → Bool
  among jobs = list_any (cleans name) (filter (is_job_of table partition) jobs)

  one-more : (j : Job) (js : List Job) → among (j ∷ js) ≡ (cleans_one table partition name (Some j) || among js)
  one-more j js = by (is_job_of table partition j) (filter (is_job_of table partition) js)
    where
      by : (b : Bool) (rest : List Job)
          → list_any (cleans name) (if b then j ∷ rest else rest) ≡ (((j.is_cleaned && b) && covers j name) || list_any (cleans name) rest)
      by true rest = ap (λ c. (c && covers j name) || list_any (cleans name) rest) (sym (and-true j.is_cleaned))
      by false rest = ap (λ c. (c && covers j name) || list_any (cleans name) rest) (sym (and-none j.is_cleaned))

  any-at : (jobs : List Job) (i : ℕ) → among (drop i jobs) ≡ (cleans_one table partition name (slice_get jobs i) || among (drop (i + 1) jobs))
  any-at [] i = ap among (drop-nil i) ∙ ap among (sym (drop-nil (i + 1)))
  any-at (j ∷ js) zero = one-more j js
  any-at (j ∷ js) (suc i) =
      any-at js i
      ∙ ap (λ k. cleans_one table partition name (slice_get js i) || among (drop k (j ∷ js))) (let at : suc (i + 1) ≡ suc i + 1 = omega arith in at)

  module _ (jobs : List Job) (i : ℕ) (all : Bool) (before : among (drop i jobs) ≡ all) where
    here-is : (b : Bool) → cleans_one table partition name (numbered jobs (i + 1)) ≡ b → among (drop i jobs) ≡ (b || among (drop (i + 1) jobs))
    here-is b is =
        let next : suc i ≡ i + 1 = omega arith in
        any-at jobs i ∙ ap (λ c. c || among (drop (i + 1) jobs)) (ap (λ n. cleans_one table partition name (numbered jobs n)) next ∙ is)

    pub any-next : cleans_one table partition name (numbered jobs (i + 1)) ≡ false → among (drop (i + 1) jobs) ≡ all
    any-next not = sym (here-is false not) ∙ before

    pub any-found : cleans_one table partition name (numbered jobs (i + 1)) ≡ true → true ≡ all
    any-found is = sym (here-is true is) ∙ before

    pub any-end : length jobs ≤ i → false ≡ all
    any-end past = sym (ap among (drop_all i jobs past)) ∙ before
