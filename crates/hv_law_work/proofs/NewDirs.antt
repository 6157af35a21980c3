-- No published job covers a directory that a job at work is to make.
use Rattle.std.proofs.Common.{◌≡◌, inl, inr, ℕ, ◌<◌, ◌≤◌, Bool, true, false, Option, Some, None, refl, sym, ap, ◌∙◌, arith}
use Rattle.std.specs.Prelude.{◌&&◌, ◌==◌, not, nat_le}
use Rattle.std.proofs.lemmas.Bool.{lt-leb, le-ltb}
use Rattle.hv_dirs.specs.declared.names.DirName.{DirName}
use Rattle.hv_dirs.specs.declared.names.DirName.TheVariants as dir
use Rattle.hv_history.specs.declared.entry.JobKind.{JobKind}
use Rattle.hv_history.specs.declared.entry.JobKind.TheVariants.{Minor, Major}
use Rattle.hv_history.specs.State.{State, Job, numbered}
use Rattle.hv_history.specs.Jobs.{is_kind, is_job_of}
use Rattle.hv_history.specs.JobsFit.{PublishedFits}
use Rattle.hv_jobs.specs.Covers.{range_names, covers_range, covers_by, covers}
use Rattle.hv_law_visible.specs.Members.{IsIn}
use Rattle.hv_law_jobs.specs.Sound.{IsAboveBase, ReachesFurther, AreSoundJobs}
use Rattle.hv_law_jobs.proofs.PublishLemmas.{range-is-sound, reaches-further}

abbrev Says : JobKind → ℕ → ℕ → DirName → Type 0
Says Minor low high name = (deletes : Bool) × (name ≡ dir.Wide deletes (record { 0 = low }) (record { 0 = high }))
Says Major low high name = name ≡ dir.Base (record { 0 = high })

range-says : (k : JobKind) (low high : ℕ) (name : DirName) → IsIn name (range_names k low high) → Says k low high name
range-says Minor low high name (inl e) = (false, sym e)
range-says Minor low high name (inr (inl e)) = (true, sym e)
range-says Minor low high name (inr (inr none)) = absurd none
range-says Major low high name (inl e) = sym e
range-says Major low high name (inr none) = absurd none

and-none : (a b : Bool) → (a && (false && b)) ≡ false
and-none true b = refl
and-none false b = refl

uncovered-by : (a b : JobKind) (range next : ℕ × ℕ × ℕ) (name : DirName) → next.0 ≤ next.1 → range.1 ≤ next.1 → Says b next.0 next.1 name
    → (is_kind a b ≡ true → range.1 < next.1) → IsAboveBase a b range.1 next.0 → covers_range a range.0 range.1 name ≡ false
uncovered-by Minor Minor range next name order ends mine beyond above =
    ap (covers_range Minor range.0 range.1) mine.1
    ∙ ap (λ c. nat_le range.0 next.0 && (c && not ((next.0 == range.0) && (next.1 == range.1)))) (lt-leb next.1 range.1 (beyond refl))
    ∙ and-none (nat_le range.0 next.0) (not ((next.0 == range.0) && (next.1 == range.1)))
uncovered-by Minor Major range next name order ends mine beyond above = ap (covers_range Minor range.0 range.1) mine
uncovered-by Major Minor range next name order ends mine beyond above =
    ap (covers_range Major range.0 range.1) mine.1 ∙ lt-leb next.1 range.1 (omega (arith, above, order))
uncovered-by Major Major range next name order ends mine beyond above = ap (covers_range Major range.0 range.1) mine ∙ le-ltb next.1 range.1 ends

pub uncovered : (state : State) (number low high mark : ℕ) (job : Job) → AreSoundJobs state → numbered state.jobs number ≡ Some job
    → PublishedFits state low high mark job → (name : DirName) → IsIn name (range_names job.kind low high) → (n : ℕ) (other : Job)
    → numbered state.jobs n ≡ Some other → is_job_of job.table job.partition other ≡ true → covers other name ≡ false
uncovered state number low high mark job sound is fits name at n other is_other there = by other.published refl
  where
    by : (o : Option (ℕ × ℕ × ℕ)) → other.published ≡ o → covers_by other.kind o name ≡ false
    by None done = refl
    by (Some range) done =
        let further : ReachesFurther other.kind job.kind range (low, high, mark) =
        reaches-further state number low high mark job sound is fits n other range is_other there done in
        uncovered-by other.kind job.kind range (low, high, mark) name (range-is-sound state number low high mark job sound is fits).order further.ends
        (range-says job.kind low high name at) further.beyond further.above
