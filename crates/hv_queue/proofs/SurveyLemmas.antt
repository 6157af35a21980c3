-- What the notes of a partition's jobs come to is what the jobs do.
use Rattle.std.proofs.Common.{◌≡◌, ℕ, Bool, true, false, Option, Some, None, List, [], ◌∷◌, map, filter, fold, refl, sym, ap, ◌∙◌, arith}
use Rattle.std.specs.Prelude.{if◌then◌else◌, ◌&&◌, ◌||◌, is_some, is_none, nat_lt}
use Rattle.std.specs.List.{list_any}
use Rattle.std.proofs.lemmas.Bool.{le-ltb}
use Rattle.std.specs.Option.{option_map}
use Rattle.hv_history.specs.declared.entry.Entry.{Entry}
use Rattle.hv_history.specs.declared.entry.JobKind.{JobKind}
use Rattle.hv_history.specs.declared.entry.JobKind.TheVariants as kind
use Rattle.hv_history.specs.State.{Job, state_of}
use Rattle.hv_history.specs.Jobs.{Events, larger, greatest, is_kind, is_busy, high_by, high_of, base_high, any_high, last_job, is_failed, failed_behind, mark_by, first_above, low_by as low_by_pair, low_after, minor_low, jobs_in}
use Rattle.hv_history.specs.Thresholds.{is_behind_place}
use Rattle.hv_tallies.specs.hv_earlier.specs.hv_meta.specs.hv_book.specs.declared.jobs.JobNote.{JobNote}
use Rattle.hv_tallies.specs.hv_earlier.specs.hv_meta.specs.hv_book.specs.Briefs.{brief_job, brief_range}
use Rattle.hv_tallies.specs.hv_earlier.specs.hv_meta.specs.hv_book.proofs.LoadLaws.{working-same}
use Rattle.hv_tallies.specs.declared.survey.Survey.{Survey}
use Rattle.hv_tallies.specs.Jobs.{is_major, range_high, is_busy_note, no_survey, surveyed, low_by_range, low_of, notes_in}
use Rattle.hv_queue.specs.Queue.{failed_by, failed_note, number_or}
use Rattle.hv_tallies.proofs.AskedLemmas.{notes-are}
use Rattle.hv_tallies.proofs.TallyLemmas.{same-below, below-larger}

busy-same : (job : Job) → is_busy_note (brief_job job) ≡ is_busy job
busy-same job = ap (λ b. (is_none job.watermark && is_none job.ended) || b) (working-same job)

high-same : (o : Option (ℕ × ℕ × ℕ)) → range_high (option_map brief_range o) ≡ high_by o
high-same None = refl
high-same (Some range) = refl

major-same : (k : JobKind) → is_major k ≡ is_kind kind.Major k
major-same kind.Minor = refl
major-same kind.Major = refl

or-assoc : (x y z : Bool) → ((x || y) || z) ≡ (x || (y || z))
or-assoc true y z = refl
or-assoc false y z = refl

or-false : (x : Bool) → x ≡ (x || false)
or-false true = refl
or-false false = refl

below-none : (b : ℕ) (x : Bool) → (nat_lt b 0 || x) ≡ x
below-none b x = ap (λ c. c || x) (le-ltb b 0 (omega arith))

busy-fold : (jobs : List Job) (survey : Survey) → (fold surveyed survey (map brief_job jobs)).busy ≡ (survey.busy || list_any is_busy jobs)
busy-fold [] survey = or-false survey.busy
busy-fold (job ∷ jobs) survey =
    busy-fold jobs (surveyed survey (brief_job job)) ∙ ap (λ b. (survey.busy || b) || list_any is_busy jobs) (busy-same job)
    ∙ or-assoc survey.busy (is_busy job) (list_any is_busy jobs)

compacted-fold : (b : ℕ) (jobs : List Job) (survey : Survey)
    → nat_lt b (fold surveyed survey (map brief_job jobs)).compacted ≡ (nat_lt b survey.compacted || nat_lt b (any_high jobs))
compacted-fold b [] survey = or-false (nat_lt b survey.compacted) ∙ ap (λ x. nat_lt b survey.compacted || x) (none-below b)
  where
    none-below : (n : ℕ) → false ≡ nat_lt n 0
    none-below n = sym (le-ltb n 0 (omega arith))
compacted-fold b (job ∷ jobs) survey =
    compacted-fold b jobs (surveyed survey (brief_job job))
    ∙ ap (λ n. nat_lt b (larger survey.compacted n) || nat_lt b (any_high jobs)) (high-same job.published)
    ∙ ap (λ x. x || nat_lt b (any_high jobs)) (below-larger b survey.compacted (high_of job))
    ∙ or-assoc (nat_lt b survey.compacted) (nat_lt b (high_of job)) (nat_lt b (any_high jobs))
    ∙ ap (λ x. nat_lt b survey.compacted || x) (sym (below-larger b (high_of job) (any_high jobs)))

base-fold : (b : ℕ) (jobs : List Job) (survey : Survey)
    → nat_lt b (fold surveyed survey (map brief_job jobs)).base ≡ (nat_lt b survey.base || nat_lt b (base_high jobs))
base-fold b [] survey = or-false (nat_lt b survey.base) ∙ ap (λ x. nat_lt b survey.base || x) (none-below b)
  where
    none-below : (n : ℕ) → false ≡ nat_lt n 0
    none-below n = sym (le-ltb n 0 (omega arith))
base-fold b (job ∷ jobs) survey =
    base-fold b jobs (surveyed survey (brief_job job))
    ∙ ap (λ c. nat_lt b (if c then larger survey.base (range_high (option_map brief_range job.published)) else survey.base) || nat_lt b (base_high jobs)) (major-same job.kind)
    ∙ by (is_kind kind.Major job.kind)
  where
    by : (c : Bool) → (nat_lt b (if c then larger survey.base (range_high (option_map brief_range job.published)) else survey.base) || nat_lt b (base_high jobs))
        ≡ (nat_lt b survey.base || nat_lt b (greatest (map high_of (if c then job ∷ filter (λ (j : Job). is_kind kind.Major j.kind) jobs else filter (λ (j : Job). is_kind kind.Major j.kind) jobs))))
    by true =
        ap (λ n. nat_lt b (larger survey.base n) || nat_lt b (base_high jobs)) (high-same job.published)
        ∙ ap (λ x. x || nat_lt b (base_high jobs)) (below-larger b survey.base (high_of job))
        ∙ or-assoc (nat_lt b survey.base) (nat_lt b (high_of job)) (nat_lt b (base_high jobs))
        ∙ ap (λ x. nat_lt b survey.base || x) (sym (below-larger b (high_of job) (base_high jobs)))
    by false = refl

-- ---- the last one

abbrev last_or : Option JobNote → Option Job → Option JobNote
last_or before None = before
last_or before (Some job) = Some (brief_job job)

last-there : (job : Job) (jobs : List Job) (a b : Option JobNote) → last_or a (last_job (job ∷ jobs)) ≡ last_or b (last_job (job ∷ jobs))
last-there job [] a b = refl
last-there job (next ∷ jobs) a b = last-there next jobs a b

last-fold : (jobs : List Job) (survey : Survey) → (fold surveyed survey (map brief_job jobs)).last ≡ last_or survey.last (last_job jobs)
last-fold [] survey = refl
last-fold (job ∷ []) survey = refl
last-fold (job ∷ next ∷ jobs) survey =
    last-fold (next ∷ jobs) (surveyed survey (brief_job job)) ∙ last-there next jobs (Some (brief_job job)) survey.last

failed-same : (opening : Option ℕ) (job : Job) (o : Option ℕ)
    → failed_by opening (is_failed job) o ≡ (is_failed job && is_some o && is_behind_place opening (mark_by o))
failed-same opening job None = by (is_failed job)
  where
    by : (c : Bool) → false ≡ ((c && false) && is_behind_place opening 0)
    by true = refl
    by false = refl
failed-same opening job (Some place) = by (is_failed job)
  where
    by : (c : Bool) → (c && is_behind_place opening place) ≡ ((c && true) && is_behind_place opening place)
    by true = refl
    by false = refl

failed-last : (opening : Option ℕ) (o : Option Job) → failed_note opening (last_or None o) ≡ failed_behind opening o
failed-last opening None = refl
failed-last opening (Some job) = failed-same opening job job.ended

-- ---- where the last minor one begins

low-one : (base x : ℕ) (o : Option ℕ) (job : Job) → low_after base (number_or x o) job ≡ number_or x (low_of base o (brief_job job))
low-one base x o job = by job.kind job.published
  where
    ranged : (p : Option (ℕ × ℕ × ℕ)) → low_by_pair base (number_or x o) p ≡ number_or x (low_by_range base o (option_map brief_range p))
    ranged None = refl
    ranged (Some range) = with_end (nat_lt base range.1)
      where
        with_end : (c : Bool) → (if c then range.0 else number_or x o) ≡ number_or x (if c then Some range.0 else o)
        with_end true = refl
        with_end false = refl

    by : (k : JobKind) (p : Option (ℕ × ℕ × ℕ)) → (if is_kind kind.Minor k then low_by_pair base (number_or x o) p else number_or x o)
        ≡ number_or x (if is_major k then o else low_by_range base o (option_map brief_range p))
    by kind.Minor p = ranged p
    by kind.Major p = refl

low-fold : (base x : ℕ) (jobs : List Job) (o : Option ℕ) → fold (low_after base) (number_or x o) jobs ≡ number_or x (fold (low_of base) o (map brief_job jobs))
low-fold base x [] o = refl
low-fold base x (job ∷ jobs) o =
    ap (λ n. fold (low_after base) n jobs) (low-one base x o job) ∙ low-fold base x jobs (low_of base o (brief_job job))

-- ---- the jobs of a partition of a book

module _ (entries : List Entry) (table : ℕ) (partition : List ℕ) where
  abbrev jobs : List Job
  jobs = jobs_in (state_of entries) table partition

  abbrev whole : Survey
  whole = fold surveyed no_survey (notes_in entries table partition)

  whole-is : whole ≡ fold surveyed no_survey (map brief_job jobs)
  whole-is = ap (fold surveyed no_survey) (notes-are entries table partition)

  pub busy-is : whole.busy ≡ list_any is_busy jobs
  busy-is = ap (λ (s : Survey). s.busy) whole-is ∙ busy-fold jobs no_survey

  pub base-is : whole.base ≡ base_high jobs
  base-is = ap (λ (s : Survey). s.base) whole-is ∙ same-below (fold surveyed no_survey (map brief_job jobs)).base (base_high jobs) (λ b. base-fold b jobs no_survey ∙ below-none b (nat_lt b (base_high jobs)))

  pub compacted-is : whole.compacted ≡ any_high jobs
  compacted-is =
      ap (λ (s : Survey). s.compacted) whole-is
      ∙ same-below (fold surveyed no_survey (map brief_job jobs)).compacted (any_high jobs) (λ b. compacted-fold b jobs no_survey ∙ below-none b (nat_lt b (any_high jobs)))

  pub failed-is : (opening : Option ℕ) → failed_note opening whole.last ≡ failed_behind opening (last_job jobs)
  failed-is opening = ap (λ (s : Survey). failed_note opening s.last) whole-is ∙ ap (failed_note opening) (last-fold jobs no_survey) ∙ failed-last opening (last_job jobs)

  pub low-is : (base : ℕ) (ids : List Events) → number_or (first_above base ids) (fold (low_of base) None (notes_in entries table partition)) ≡ minor_low base jobs ids
  low-is base ids =
      ap (λ notes. number_or (first_above base ids) (fold (low_of base) None notes)) (notes-are entries table partition)
      ∙ sym (low-fold base (first_above base ids) jobs None)
