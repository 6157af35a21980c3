-- The directories that a job is about to publish have names that no other job of its partition has, and that none covers.
use Rattle.std.proofs.Common.{◌≡◌, inl, inr, ℕ, ◌<◌, ◌≤◌, Bool, true, false, is_some, Option, Some, None, refl, sym, ap, ◌∙◌, arith, true≢false}
use Rattle.std.specs.Prelude.{◌&&◌, ◌==◌, not, nat_le}
use Rattle.std.proofs.lemmas.Bool.{lt-leb, le-ltb}
use Rattle.hv_dirs.specs.declared.names.DirName.{DirName}
use Rattle.hv_dirs.specs.declared.names.DirName.TheVariants as dir
use Rattle.hv_stands.specs.hv_history.specs.declared.entry.JobKind.{JobKind}
use Rattle.hv_stands.specs.hv_history.specs.declared.entry.JobKind.TheVariants.{Minor, Major}
use Rattle.hv_stands.specs.hv_history.specs.State.{State, Job, numbered}
use Rattle.hv_stands.specs.hv_history.specs.Jobs.{is_kind, is_job_of}
use Rattle.hv_stands.specs.hv_history.specs.JobsFit.{PublishedFits}
use Rattle.hv_jobs.specs.Covers.{range_names, names_by, covers_range, covers_by}
use Rattle.hv_law_visible.specs.Members.{IsIn}
use Rattle.hv_law_jobs.specs.Sound.{IsSoundRange, IsSoundJob, IsAboveBase, ReachesFurther, AreSoundJobs}
use Rattle.hv_law_jobs.proofs.OrderLemmas.{numbered-all}
use Rattle.hv_law_jobs.proofs.PublishLemmas.{unpublished, range-is-sound, reaches-further}
use Rattle.hv_law_made.specs.Laws.{IsToPublish, PublishedNamesAreNew}

-- a name that a job makes says its kind and the end of its range
abbrev Says : JobKind → ℕ → ℕ → DirName → Type 0
Says Minor low high name = (deletes : Bool) × (name ≡ dir.Wide deletes (record { 0 = low }) (record { 0 = high }))
Says Major low high name = name ≡ dir.Base (record { 0 = high })

range-says : (k : JobKind) (low high : ℕ) (name : DirName) → IsIn name (range_names k low high) → Says k low high name
range-says Minor low high name (inl e) = (false, sym e)
range-says Minor low high name (inr (inl e)) = (true, sym e)
range-says Minor low high name (inr (inr none)) = absurd none
range-says Major low high name (inl e) = sym e
range-says Major low high name (inr none) = absurd none

abbrev end_of_name : DirName → ℕ
end_of_name (dir.Base high) = high.0
end_of_name (dir.Own deletes write statement) = 0
end_of_name (dir.Wide deletes low high) = high.0
end_of_name (dir.Staged job name) = 0

abbrev is_base_name : DirName → Bool
is_base_name (dir.Base high) = true
is_base_name (dir.Own deletes write statement) = false
is_base_name (dir.Wide deletes low high) = false
is_base_name (dir.Staged job name) = false

and-none : (a b : Bool) → (a && (false && b)) ≡ false
and-none true b = refl
and-none false b = refl

-- what one job has made, and what another one that reaches further will
module _ (before later : JobKind) (range next : ℕ × ℕ × ℕ) (name : DirName) (further : ReachesFurther before later range next) (order : next.0 ≤ next.1)
    (says : Says later next.0 next.1 name) where
  apart-by : (a b : JobKind) → Says a range.0 range.1 name → Says b next.0 next.1 name → (is_kind a b ≡ true → range.1 < next.1) → ⊥
  apart-by Minor Minor its mine beyond =
      let same : range.1 ≡ next.1 = ap end_of_name (sym its.1 ∙ mine.1) in
      let less = beyond refl in
      omega (arith, same, less)
  apart-by Minor Major its mine beyond = true≢false (sym (ap is_base_name (sym its.1 ∙ mine)))
  apart-by Major Minor its mine beyond = true≢false (ap is_base_name (sym its ∙ mine.1))
  apart-by Major Major its mine beyond =
      let same : range.1 ≡ next.1 = ap end_of_name (sym its ∙ mine) in
      let less = beyond refl in
      omega (arith, same, less)

  pub apart-it : IsIn name (range_names before range.0 range.1) → ⊥
  apart-it at = apart-by before later (range-says before range.0 range.1 name at) says further.beyond

  uncovered-by : (a b : JobKind) → Says b next.0 next.1 name → (is_kind a b ≡ true → range.1 < next.1) → IsAboveBase a b range.1 next.0 → covers_range a range.0 range.1 name ≡ false
  uncovered-by Minor Minor mine beyond above =
      ap (covers_range Minor range.0 range.1) mine.1
      ∙ ap (λ c. nat_le range.0 next.0 && (c && not ((next.0 == range.0) && (next.1 == range.1)))) (lt-leb next.1 range.1 (beyond refl))
      ∙ and-none (nat_le range.0 next.0) (not ((next.0 == range.0) && (next.1 == range.1)))
  uncovered-by Minor Major mine beyond above = ap (covers_range Minor range.0 range.1) mine
  uncovered-by Major Minor mine beyond above = ap (covers_range Major range.0 range.1) mine.1 ∙ lt-leb next.1 range.1 (omega (arith, above, order))
  uncovered-by Major Major mine beyond above =
      let ends = further.ends in
      ap (covers_range Major range.0 range.1) mine ∙ le-ltb next.1 range.1 ends

  pub uncovered-it : covers_range before range.0 range.1 name ≡ false
  uncovered-it = uncovered-by before later says further.beyond further.above

module _ (state : State) (number low high mark : ℕ) (job : Job) (sound : AreSoundJobs state) (is : numbered state.jobs number ≡ Some job)
    (fits : PublishedFits state low high mark job) where
  bare : job.published ≡ None
  bare = unpublished state number low high mark job sound is fits

  its-range : IsSoundRange state job.table job.partition low high mark
  its-range = range-is-sound state number low high mark job sound is fits

  uncleaned : job.is_cleaned ≡ false
  uncleaned = by job.is_cleaned refl
    where
      by : (b : Bool) → job.is_cleaned ≡ b → b ≡ false
      by true cleaned =
          let some = (numbered-all (IsSoundJob state) state.jobs number job sound.each is).cleaned cleaned in
          absurd (true≢false (sym some ∙ ap (λ o. is_some o) bare))
      by false cleaned = refl

  module _ (name : DirName) (at : IsIn name (range_names job.kind low high)) (n : ℕ) (other : Job) (is_other : numbered state.jobs n ≡ Some other)
      (there : is_job_of job.table job.partition other ≡ true) where
    further : (range : ℕ × ℕ × ℕ) → other.published ≡ Some range → ReachesFurther other.kind job.kind range (low, high, mark)
    further range done = reaches-further state number low high mark job sound is fits n other range is_other there done

    apart-from : (o : Option (ℕ × ℕ × ℕ)) → other.published ≡ o → IsIn name (names_by other.kind o) → ⊥
    apart-from None done within = within
    apart-from (Some range) done within =
        apart-it other.kind job.kind range (low, high, mark) name (further range done) its-range.order (range-says job.kind low high name at) within

    uncovered-of : (o : Option (ℕ × ℕ × ℕ)) → other.published ≡ o → covers_by other.kind o name ≡ false
    uncovered-of None done = refl
    uncovered-of (Some range) done =
        uncovered-it other.kind job.kind range (low, high, mark) name (further range done) its-range.order (range-says job.kind low high name at)

  pub to-publish : IsToPublish state number low high job
  to-publish = record {
    is = is;
    unpublished = bare;
    uncleaned = uncleaned;
    new = λ name at. record {
      apart = λ n other is_other there. apart-from name at n other is_other there other.published refl;
      uncovered = λ n other is_other there cleaned. uncovered-of name at n other is_other there other.published refl;
    };
  }

pub published-names-are-new : PublishedNamesAreNew
published-names-are-new state number low high mark job sound is fits = to-publish state number low high mark job sound is fits
