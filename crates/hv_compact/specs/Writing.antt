-- What a job has staged, bucket by bucket.
use Rattle.std.specs.Prelude.{◌≡◌, ◌<◌, ℕ, Bool, true, false, List, [], ◌∷◌, map}
use Rattle.hv_base.specs.declared.ids.JobId.{JobId}
use Rattle.hv_rowfile.specs.declared.record.Rec.{Rec}
use Rattle.hv_choosing.specs.declared.listing.DirFile.{DirFile}
use Rattle.hv_dirs.specs.declared.names.DirName.{DirName}
use Rattle.hv_history.specs.State.{Job}
use Rattle.hv_history.specs.JobsFit.{OfJob}
use Rattle.hv_law_work.specs.Work.{by_job, staged_at}
use Rattle.hv_merge.specs.Gathering.{gathered}
use Rattle.hv_trail.specs.declared.trail.TrailItem.{TrailItem}
use Rattle.hv_trail.specs.Trail.{state_at, HasWritten}
use Rattle.hv_job_acts.specs.hv_acts.specs.hv_telling.specs.hv_house.specs.declared.listing.Listing.{Listing}
use Rattle.hv_compact.specs.declared.task.Task.{Task}
use Rattle.hv_compact.specs.Compacting.{StagedWhile}
use Rattle.hv_compact.specs.Gathering.{taken_in, wide_of, base_of, buckets_of, minor_recs, major_recs, ListsJob}

-- where there are some
abbrev pub IfSome : List Rec → Type 0 → Type 0
IfSome [] P = Unit {0}
IfSome (r ∷ recs) P = P

abbrev pub gathered_of : (DirFile → List Rec) → Task → ℕ → List DirFile → List Rec
gathered_of recs_of task bucket files = gathered task.low task.high (map recs_of (taken_in task.kind bucket files))

-- the job is there, and the file of a bucket has its mark
abbrev pub IsStagedIn : List TrailItem → JobId → DirName → ℕ → Type 0
IsStagedIn trail job name bucket =
    OfJob (state_at trail) job.0 (λ (j : Job). HasWritten trail (by_job job.0) (staged_at job.0 j name bucket))

abbrev pub HasMinorStaged : List TrailItem → Task → (DirFile → List Rec) → Bool → ℕ → Listing → Type 0
HasMinorStaged trail task recs_of deletes bucket listing =
    IfSome (minor_recs recs_of task deletes bucket listing) (IsStagedIn trail task.job (wide_of task deletes) bucket)

abbrev pub HasKindStaged : List TrailItem → Task → (DirFile → List Rec) → Bool → ℕ → Listing → Type 0
HasKindStaged trail task recs_of deletes buckets listing =
    (bucket : ℕ) → bucket < buckets → HasMinorStaged trail task recs_of deletes bucket listing

abbrev pub HasNone : (DirFile → List Rec) → ℕ → Listing → Type 0
HasNone recs_of bucket listing = major_recs recs_of bucket listing ≡ []

abbrev pub HasBucketStaged : List TrailItem → Task → (DirFile → List Rec) → ℕ → Listing → Type 0
HasBucketStaged trail task recs_of bucket listing =
    IfSome (major_recs recs_of bucket listing) (IsStagedIn trail task.job (base_of task) bucket)

pub record HasMajorStaged (trail : List TrailItem) (task : Task) (recs_of : DirFile → List Rec) (bucket : ℕ)
    (listing : Listing)
    (some : Bool) : Type 0 where
  pub staged : HasBucketStaged trail task recs_of bucket listing
  pub none : some ≡ false → HasNone recs_of bucket listing
  pub rows : some ≡ true → HasNone recs_of bucket listing → ⊥

pub record HasBaseStaged (trail : List TrailItem) (task : Task) (recs_of : DirFile → List Rec) (buckets : ℕ)
    (listing : Listing)
    (some : Bool) : Type 0 where
  pub staged : (bucket : ℕ) → bucket < buckets → HasBucketStaged trail task recs_of bucket listing
  pub none : some ≡ false → (bucket : ℕ) → bucket < buckets → HasNone recs_of bucket listing
  pub rows : some ≡ true → ((bucket : ℕ) → HasNone recs_of bucket listing) → ⊥

-- all that it is to stage has marks
abbrev pub HasStagedAll : List TrailItem → JobId → Type 0
HasStagedAll trail job = StagedWhile trail job

-- the job's files were listed, and what its buckets have is staged
pub record HasWrittenBase (trail : List TrailItem) (task : Task) (listing : Listing) (some : Bool) : Type 0 where
  pub lists : ListsJob trail task listing
  pub staged : HasBaseStaged trail task lists.recs_of (buckets_of listing.inserts.items) listing some
