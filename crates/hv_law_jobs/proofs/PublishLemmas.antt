-- What a job is about to publish: its range is sound, and reaches beyond all that is published in its partition.
use Rattle.std.proofs.Common.{◌≡◌, ℕ, true, Some, None, arith}
use Rattle.hv_history.specs.State.{State, Job, numbered}
use Rattle.hv_history.specs.Jobs.{is_job_of, is_busy}
use Rattle.hv_history.specs.JobsFit.{PublishedFits}
use Rattle.hv_law_jobs.specs.Sound.{IsSoundRange, IsUnder, ReachesFurther, AreSoundJobs, PublishedGoFurther}
use Rattle.hv_law_jobs.proofs.MergeLemmas as merge
use Rattle.hv_law_jobs.proofs.MergeLemmas.{Merges}

pub merges : (state : State) (low high mark : ℕ) (job : Job) → PublishedFits state low high mark job → Merges state low high mark job
merges state low high mark job fits =
    record { working = fits.working; some = fits.some; low_is = fits.low_is; high_is = fits.high_is; mark_is = fits.mark_is }

module _ (state : State) (number low high mark : ℕ) (job : Job) (sound : AreSoundJobs state) (is : numbered state.jobs number ≡ Some job)
    (fits : PublishedFits state low high mark job) where
  it-merges : Merges state low high mark job
  it-merges = merges state low high mark job fits

  pub unpublished : job.published ≡ None
  unpublished = merge.unpublished state number low high mark job sound is it-merges

  pub busy : is_busy job ≡ true
  busy = merge.busy state number low high mark job sound is it-merges

  pub range-is-sound : IsSoundRange state job.table job.partition low high mark
  range-is-sound = merge.range-is-sound state number low high mark job sound is it-merges

  pub within-mark : IsUnder job.watermark (Some (low, high, mark))
  within-mark = merge.within-mark state number low high mark job sound is it-merges

  pub reaches-further : (n : ℕ) (other : Job) (range : ℕ × ℕ × ℕ) → numbered state.jobs n ≡ Some other → is_job_of job.table job.partition other ≡ true
      → other.published ≡ Some range → ReachesFurther other.kind job.kind range (low, high, mark)
  reaches-further n other range at there done = merge.reaches-further state number low high mark job sound is it-merges n other range at there done

pub published-go-further : PublishedGoFurther
published-go-further state number low high mark job sound is fits = (
  range-is-sound state number low high mark job sound is fits,
  λ n other range at there done.
      let further = reaches-further state number low high mark job sound is fits n other range at there done in
      record { marks = omega arith; ends = further.ends; beyond = further.beyond; above = further.above },
)
