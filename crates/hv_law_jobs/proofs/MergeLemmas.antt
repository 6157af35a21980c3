-- What a job at work merges, whether its table is live or not: its range is sound, and reaches beyond all that is published in its partition.
use Rattle.std.proofs.Common.{◌≡◌, ◌⊎◌, inl, inr, ℕ, zero, suc, ◌+◌, ◌<◌, ◌≤◌, Bool, true, false, is_some, Option, Some, None, List, [], ◌∷◌, map, filter, fold, length, refl, sym, ap, ◌∙◌, subst, arith, true≢false}
use Rattle.std.specs.Prelude.{if◌then◌else◌, ◌&&◌, not, is_none, nat_lt, nat_le, IsTrue, IsFalse}
use Rattle.std.specs.List.{list_any, AllByRecursion}
use Rattle.std.proofs.lemmas.Bool.{and_parts, and_cases, or_right, ltb-true, ltb-false, leb-false}
use Rattle.hv_history.specs.declared.entry.JobKind.{JobKind}
use Rattle.hv_history.specs.declared.entry.JobKind.TheVariants.{Minor, Major}
use Rattle.hv_history.specs.State.{State, Job, numbered}
use Rattle.hv_history.specs.Legal.{is_working, one_if}
use Rattle.hv_history.specs.Jobs.{Events, greatest, write_of, is_kind, is_job_of, is_initiated, is_busy, high_by, high_of, base_high, any_high, jobs_in, events_in, is_up_to, inserts, deletes, pieces_of, pieces_among, pieces_for, low_by, low_after, low_for, first_above, minor_low, mark_by, is_empty_of}
use Rattle.hv_law_jobs.specs.Sound.{is_of_write, IsSoundRange, HasSoundRange, IsUnder, IsSoundJob, IsAboveBase, ReachesFurther, GoFurther, IsBelowMark, IsFollowed, AreSoundJobs}
use Rattle.hv_law_jobs.proofs.OrderLemmas.{numbered-all, all-numbers, all-filter, filtered-all, job-of-is, job-of-back, job-of-from, in-order}
use Rattle.hv_law_jobs.proofs.CountLemmas.{greatest-below, each-most, any-filter, greatest-there, marked-most, there-most, two-pieces, some-piece, first-within}

-- ---- lists of jobs

all-of-map : (P : ℕ → Type 0) (jobs : List Job) → AllByRecursion P (map high_of jobs) → AllByRecursion (λ (j : Job). P (high_of j)) jobs
all-of-map P [] all = tt
all-of-map P (j ∷ jobs) all = (all.0, all-of-map P jobs all.1)

map-of-all : (P : ℕ → Type 0) (jobs : List Job) → AllByRecursion (λ (j : Job). P (high_of j)) jobs → AllByRecursion P (map high_of jobs)
map-of-all P [] all = tt
map-of-all P (j ∷ jobs) all = (all.0, map-of-all P jobs all.1)

without : (P : Job → Type 0) (q : Job → Bool) (jobs : List Job) → AllByRecursion P jobs → AllByRecursion (λ (j : Job). q j ≡ true → P j) jobs
without P q [] all = tt
without P q (j ∷ jobs) all = (λ e. all.0, without P q jobs all.1)

abbrev is_base : Job → Bool
is_base job = is_kind Major job.kind

-- no end is above the greatest one
pub high-any : (table : ℕ) (partition : List ℕ) (state : State) (n : ℕ) (j : Job) → numbered state.jobs n ≡ Some j → is_job_of table partition j ≡ true
    → high_of j ≤ any_high (jobs_in state table partition)
high-any table partition state n j is here =
    let js = jobs_in state table partition in
    let top = any_high js in
    numbered-all (λ (k : Job). is_job_of table partition k ≡ true → high_of k ≤ top) state.jobs n j
    (filtered-all (λ (k : Job). high_of k ≤ top) (is_job_of table partition) state.jobs (all-of-map (λ m. m ≤ top) js (each-most (map high_of js)))) is here

pub high-base : (table : ℕ) (partition : List ℕ) (state : State) (n : ℕ) (j : Job) → numbered state.jobs n ≡ Some j → is_job_of table partition j ≡ true → is_base j ≡ true
    → high_of j ≤ base_high (jobs_in state table partition)
high-base table partition state n j is here major =
    let js = jobs_in state table partition in
    let top = base_high js in
    numbered-all (λ (k : Job). is_job_of table partition k ≡ true → is_base k ≡ true → high_of k ≤ top) state.jobs n j
    (filtered-all (λ (k : Job). is_base k ≡ true → high_of k ≤ top) (is_job_of table partition) state.jobs
    (filtered-all (λ (k : Job). high_of k ≤ top) is_base js (all-of-map (λ m. m ≤ top) (filter is_base js) (each-most (map high_of (filter is_base js)))))) is here major

base-any : (jobs : List Job) → base_high jobs ≤ any_high jobs
base-any jobs =
    let top = any_high jobs in
    let all = all-of-map (λ m. m ≤ top) jobs (each-most (map high_of jobs)) in
    let less = greatest-below (suc top) (map high_of (filter is_base jobs)) (omega arith)
    (map-of-all (λ m. m < suc top) (filter is_base jobs)
    (all-filter (λ (j : Job). high_of j < suc top) is_base jobs (each jobs all)))
    in
    omega (arith, less)
  where
    each : (js : List Job) → AllByRecursion (λ (j : Job). high_of j ≤ any_high jobs) js → AllByRecursion (λ (j : Job). is_base j ≡ true → high_of j < suc (any_high jobs)) js
    each [] all = tt
    each (j ∷ js) all = (λ e. (let first = all.0 in omega (arith, first)), each js all.1)

-- where the fold over minor jobs ends
abbrev LowHolds : (ℕ → Type 0) → ℕ → Job → Type 0
LowHolds P base job = (range : ℕ × ℕ × ℕ) → is_kind Minor job.kind ≡ true → job.published ≡ Some range → base < range.1 → P range.0

fold-low : (P : ℕ → Type 0) (base : ℕ) (jobs : List Job) (x : ℕ) → P x → AllByRecursion (LowHolds P base) jobs → P (fold (low_after base) x jobs)
fold-low P base [] x here all = here
fold-low P base (job ∷ jobs) x here all = fold-low P base jobs (low_after base x job) (by (is_kind Minor job.kind) refl job.published refl) all.1
  where
    ranged : (range : ℕ × ℕ × ℕ) → is_kind Minor job.kind ≡ true → job.published ≡ Some range → (c : Bool) → nat_lt base range.1 ≡ c → P (if c then range.0 else x)
    ranged range minor is true less = all.0 range minor is (ltb-true base range.1 less)
    ranged range minor is false less = here

    by : (b : Bool) → is_kind Minor job.kind ≡ b → (o : Option (ℕ × ℕ × ℕ)) → job.published ≡ o → P (if b then low_by base x o else x)
    by true minor None is = here
    by true minor (Some range) is = ranged range minor is (nat_lt base range.1) refl
    by false minor o is = here

pub none-is : {A : Type 0} (o : Option A) → is_none o ≡ true → o ≡ None
none-is None e = refl
none-is (Some x) e = absurd (true≢false (sym e))

pub some-is : {A : Type 0} (o : Option A) → is_some o ≡ true → (x : A) × (o ≡ Some x)
some-is None e = absurd (true≢false (sym e))
some-is (Some x) e = (x, refl)

one-kind : (k : JobKind) → is_kind Minor k ≡ true → is_kind Major k ≡ true → ⊥
one-kind Minor minor major = true≢false (sym major)
one-kind Major minor major = true≢false (sym minor)

one-most : (b : Bool) → one_if b ≤ 1
one-most true = omega arith
one-most false = omega arith

-- ---- a job at work that has something to merge

-- its range, and the number of the next transaction
pub record Merges (state : State) (low high mark : ℕ) (job : Job) : Type 0 where
  pub working : IsTrue (is_working job)
  pub some : IsFalse (is_empty_of job.kind (pieces_for state job))
  pub low_is : low ≡ (pieces_for state job).low
  pub high_is : high ≡ (pieces_for state job).high
  pub mark_is : mark ≡ length state.transactions + 1

module _ (state : State) (number low high mark : ℕ) (job : Job) (sound : AreSoundJobs state) (is : numbered state.jobs number ≡ Some job)
    (fits : Merges state low high mark job) where
  abbrev table : ℕ
  table = job.table

  abbrev partition : List ℕ
  partition = job.partition

  abbrev js : List Job
  js = jobs_in state table partition

  abbrev base : ℕ
  base = base_high js

  abbrev compacted : ℕ
  compacted = any_high js

  abbrev up_to : ℕ
  up_to = mark_by job.watermark

  abbrev events : List Events
  events = events_in state table partition

  abbrev ids : List Events
  ids = filter (is_up_to up_to) events

  abbrev end : ℕ
  end = greatest (map write_of ids)

  picked : (is_some job.watermark ≡ true) × ((is_none job.published && (not job.is_empty && is_none job.failure)) ≡ true)
  picked = and_parts (is_some job.watermark) (is_none job.published && (not job.is_empty && is_none job.failure)) fits.working

  pub unpublished : job.published ≡ None
  unpublished = none-is job.published (and_parts (is_none job.published) (not job.is_empty && is_none job.failure) picked.1).0

  pub busy : is_busy job ≡ true
  busy = or_right (is_initiated job) (is_working job) fits.working

  watched : (m : ℕ) × (job.watermark ≡ Some m)
  watched = some-is job.watermark picked.0

  up-to-is : up_to ≡ watched.0
  up-to-is = ap mark_by watched.1

  here : is_job_of table partition job ≡ true
  here = job-of-from table partition job refl refl

  mine : IsSoundJob state job
  mine = numbered-all (IsSoundJob state) state.jobs number job sound.each is

  -- ---- another one that is published there

  module _ (n : ℕ) (other : Job) (range : ℕ × ℕ × ℕ) (at : numbered state.jobs n ≡ Some other) (there : is_job_of table partition other ≡ true) (done : other.published ≡ Some range) where
    -- it was asked for before
    follows : IsFollowed other job
    follows = by (nat_lt n number) refl (nat_lt number n) refl
      where
        by : (b : Bool) → nat_lt n number ≡ b → (c : Bool) → nat_lt number n ≡ c → IsFollowed other job
        by true less c more =
            in-order state.jobs n number other job sound.order (ltb-true n number less) at is (job-of-back job other there)
        by false less true more =
            let later = in-order state.jobs number n job other sound.order (ltb-true number n more) is at there in
            absurd (true≢false (sym busy ∙ later.over))
        by false less false more =
            let a = ltb-false n number less in
            let b = ltb-false number n more in
            let same : n ≡ number = omega (arith, a, b) in
            let both : Some other ≡ Some job = sym at ∙ ap (numbered state.jobs) same ∙ is in
            let it : other ≡ job = cc in
            let nothing : Some range ≡ None = sym done ∙ ap (λ (j : Job). j.published) it ∙ unpublished in
            cc

    below : range.1 ≤ up_to
    below =
        let kept : IsBelowMark (Some range) (Some watched.0) =
        subst (λ o. IsBelowMark (Some range) o) watched.1 (subst (λ o. IsBelowMark o job.watermark) done follows.below)
        in
        subst (λ m. range.1 ≤ m) (sym up-to-is) kept

    others : IsSoundRange state other.table other.partition range.0 range.1 range.2
    others = subst (HasSoundRange state other) done (numbered-all (IsSoundJob state) state.jobs n other sound.each at).range

    same : (other.table ≡ table) × (other.partition ≡ partition)
    same = job-of-is table partition other there

    touched : list_any (is_of_write range.1) events ≡ true
    touched =
        subst (λ p. list_any (is_of_write range.1) (events_in state table p) ≡ true) same.1
        (subst (λ t. list_any (is_of_write range.1) (events_in state t other.partition) ≡ true) same.0 others.touched)

    ends : range.1 ≤ end
    ends = there-most range.1 up_to events below touched

    within-any : range.1 ≤ compacted
    within-any = subst (λ o. high_by o ≤ compacted) done (high-any table partition state n other at there)

    within-base : is_kind Major other.kind ≡ true → range.1 ≤ base
    within-base major = subst (λ o. high_by o ≤ base) done (high-base table partition state n other at there major)

    marked : range.2 ≤ mark
    marked = let opened = others.opened.1 in let mark_is = fits.mark_is in omega (arith, opened, mark_is)

  -- ---- it isn't empty

  abbrev ins : ℕ
  ins = pieces_of inserts base compacted ids

  abbrev del : ℕ
  del = pieces_of deletes base compacted ids

  beyond-all : job.kind ≡ Minor → compacted < end
  beyond-all minor =
      by (and_cases (nat_le ins 1) (nat_le del 1) (subst (λ k. is_empty_of k (pieces_among k js ids) ≡ false) minor fits.some))
    where
      by : (nat_le ins 1 ≡ false) ⊎ (nat_le del 1 ≡ false) → compacted < end
      by (inl more) = two-pieces inserts base compacted ids (leb-false ins 1 more)
      by (inr more) = two-pieces deletes base compacted ids (leb-false del 1 more)

  beyond-base : base < end
  beyond-base = by job.kind refl
    where
      some-of : (n : ℕ) → ins ≡ n → 1 ≤ n + del → base < end
      some-of zero none two = some-piece deletes base compacted ids (base-any js) (omega (arith, two))
      some-of (suc n) some two = some-piece inserts base compacted ids (base-any js) (omega (arith, some))

      by : (k : JobKind) → job.kind ≡ k → base < end
      by Minor minor = let all = beyond-all minor in let less = base-any js in omega (arith, all, less)
      by Major major =
          let two = ltb-false (ins + del + one_if (nat_lt 0 base)) 2 (subst (λ k. is_empty_of k (pieces_among k js ids) ≡ false) major fits.some) in
          let one = one-most (nat_lt 0 base) in
          some-of ins refl (omega (arith, two, one))

  -- ---- where it begins

  abbrev Begins : ℕ → Type 0
  Begins x = (base < x) × (x ≤ end)

  -- a minor one above the base begins above it
  minor-above : (n : ℕ) (other : Job) (range : ℕ × ℕ × ℕ) → numbered state.jobs n ≡ Some other → is_job_of table partition other ≡ true → is_kind Minor other.kind ≡ true
      → other.published ≡ Some range → base < range.1 → Begins range.0
  minor-above n other range at there minor done above = (
    greatest-below range.0 (map high_of (filter is_base js)) first
        (map-of-all (λ m. m < range.0) (filter is_base js)
        (all-filter (λ (j : Job). high_of j < range.0) is_base js
        (all-filter (λ (j : Job). is_base j ≡ true → high_of j < range.0) (is_job_of table partition) state.jobs
        (all-numbers (λ (j : Job). is_job_of table partition j ≡ true → is_base j ≡ true → high_of j < range.0) state.jobs each)))),
    (let order = (others n other range at there done).order in let last = ends n other range at there done in omega (arith, order, last)),
  )
    where
      first : 0 < range.0
      first = (others n other range at there done).first

      with_range : (k : ℕ) (base_job : Job) (r : ℕ × ℕ × ℕ) → numbered state.jobs k ≡ Some base_job → is_job_of table partition base_job ≡ true → is_base base_job ≡ true
          → base_job.published ≡ Some r → r.1 < range.0
      with_range k base_job r at_k there_k major done_k = by (nat_lt k n) refl (nat_lt n k) refl
        where
          by : (b : Bool) → nat_lt k n ≡ b → (c : Bool) → nat_lt n k ≡ c → r.1 < range.0
          by true less c more =
              let same_k = job-of-is table partition base_job there_k in
              let same_n = job-of-is table partition other there in
              let follow = in-order state.jobs k n base_job other sound.order (ltb-true k n less) at_k at
              (job-of-from base_job.table base_job.partition other (same_n.0 ∙ sym same_k.0) (same_n.1 ∙ sym same_k.1)) in
              let further : ReachesFurther base_job.kind other.kind r range =
              subst (λ o. GoFurther base_job.kind other.kind (Some r) o) done (subst (λ o. GoFurther base_job.kind other.kind o other.published) done_k follow.further)
              in
              by_kinds base_job.kind other.kind major minor further.above
            where
              by_kinds : (a b : JobKind) → is_kind Major a ≡ true → is_kind Minor b ≡ true → IsAboveBase a b r.1 range.0 → r.1 < range.0
              by_kinds Minor b x y above_it = absurd (true≢false (sym x))
              by_kinds Major Minor x y above_it = above_it
              by_kinds Major Major x y above_it = absurd (true≢false (sym y))
          by false less true more =
              let same_k = job-of-is table partition base_job there_k in
              let same_n = job-of-is table partition other there in
              let follow = in-order state.jobs n k other base_job sound.order (ltb-true n k more) at at_k
              (job-of-from other.table other.partition base_job (same_k.0 ∙ sym same_n.0) (same_k.1 ∙ sym same_n.1)) in
              let further : ReachesFurther other.kind base_job.kind range r =
              subst (λ o. GoFurther other.kind base_job.kind (Some range) o) done_k (subst (λ o. GoFurther other.kind base_job.kind o base_job.published) done follow.further)
              in
              let reached = further.ends in
              let low_base = within-base k base_job r at_k there_k done_k major in
              absurd (omega (arith, reached, low_base, above))
          by false less false more =
              let a = ltb-false k n less in
              let b = ltb-false n k more in
              let same_number : k ≡ n = omega (arith, a, b) in
              let both : Some base_job ≡ Some other = sym at_k ∙ ap (numbered state.jobs) same_number ∙ at in
              let it : base_job ≡ other = cc in
              absurd (one-kind other.kind minor (subst (λ (j : Job). is_base j ≡ true) it major))

      with_published : (k : ℕ) (base_job : Job) → numbered state.jobs k ≡ Some base_job → is_job_of table partition base_job ≡ true → is_base base_job ≡ true
          → (o : Option (ℕ × ℕ × ℕ)) → base_job.published ≡ o → high_by o < range.0
      with_published k base_job at_k there_k major None done_k = first
      with_published k base_job at_k there_k major (Some r) done_k = with_range k base_job r at_k there_k major done_k

      each : (k : ℕ) (base_job : Job) → numbered state.jobs k ≡ Some base_job → is_job_of table partition base_job ≡ true → is_base base_job ≡ true → high_of base_job < range.0
      each k base_job at_k there_k major = with_published k base_job at_k there_k major base_job.published refl

  begins : job.kind ≡ Minor → Begins (minor_low base js ids)
  begins minor =
      fold-low Begins base js (first_above base ids) (first-within base ids beyond-base)
      (all-filter (LowHolds Begins base) (is_job_of table partition) state.jobs
      (all-numbers (λ (j : Job). is_job_of table partition j ≡ true → LowHolds Begins base j) state.jobs
      (λ n other at there range kind done above. minor-above n other range at there kind done above)))

  low-within : (1 ≤ low_for job.kind base js ids) × (low_for job.kind base js ids ≤ end)
  low-within = by job.kind refl
    where
      by : (k : JobKind) → job.kind ≡ k → (1 ≤ low_for k base js ids) × (low_for k base js ids ≤ end)
      by Minor minor = let it = begins minor in let first = it.0 in (omega (arith, first), it.1)
      by Major major = let beyond = beyond-base in (omega arith, omega (arith, beyond))

  pub range-is-sound : IsSoundRange state table partition low high mark
  range-is-sound = record {
    first = subst (λ n. 1 ≤ n) (sym fits.low_is) low-within.0;
    order = subst (λ n. n ≤ high) (sym fits.low_is) (subst (λ n. low_for job.kind base js ids ≤ n) (sym fits.high_is) low-within.1);
    ended =
        let within = marked-most up_to events in
        let most = mine.mark watched.0 watched.1 in
        let high_is : high ≡ end = fits.high_is in
        omega (arith, within, most, high_is, up-to-is);
    touched =
        subst (λ n. list_any (is_of_write n) events ≡ true) (sym fits.high_is)
        (any-filter (is_of_write end) (is_up_to up_to) events (greatest-there ids (let beyond = beyond-base in omega (arith, beyond))));
    opened = (let mark_is = fits.mark_is in omega (arith, mark_is), let mark_is = fits.mark_is in omega (arith, mark_is));
  }

  pub within-mark : IsUnder job.watermark (Some (low, high, mark))
  within-mark =
      let within = marked-most up_to events in
      let high_is : high ≡ end = fits.high_is in
      let below : high ≤ watched.0 = omega (arith, within, high_is, up-to-is) in
      subst (λ o. IsUnder o (Some (low, high, mark))) (sym watched.1) below

  pub reaches-further : (n : ℕ) (other : Job) (range : ℕ × ℕ × ℕ) → numbered state.jobs n ≡ Some other → is_job_of table partition other ≡ true → other.published ≡ Some range
      → ReachesFurther other.kind job.kind range (low, high, mark)
  reaches-further n other range at there done = record {
    marks = marked n other range at there done;
    ends = subst (λ m. range.1 ≤ m) (sym fits.high_is) (ends n other range at there done);
    beyond = λ kinds. subst (λ m. range.1 < m) (sym fits.high_is) (strict other.kind refl job.kind refl kinds);
    above = subst (IsAboveBase other.kind job.kind range.1) (sym fits.low_is) (above-base other.kind refl job.kind refl);
  }
    where
      strict : (a : JobKind) → other.kind ≡ a → (b : JobKind) → job.kind ≡ b → is_kind a b ≡ true → range.1 < end
      strict Minor a Minor b e = let all = beyond-all b in let within = within-any n other range at there done in omega (arith, all, within)
      strict Minor a Major b e = absurd (true≢false (sym e))
      strict Major a Minor b e = absurd (true≢false (sym e))
      strict Major a Major b e =
          let over = beyond-base in
          let within = within-base n other range at there done (ap (is_kind Major) a) in
          omega (arith, over, within)

      above-base : (a : JobKind) → other.kind ≡ a → (b : JobKind) → job.kind ≡ b → IsAboveBase a b range.1 (low_for b base js ids)
      above-base Minor a b e = tt
      above-base Major a Minor e =
          let within = within-base n other range at there done (ap (is_kind Major) a) in
          let begin = (begins e).0 in
          omega (arith, within, begin)
      above-base Major a Major e = tt
