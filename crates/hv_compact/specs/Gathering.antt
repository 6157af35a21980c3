-- Which of the listed files of a job are taken in a bucket, and what is made of them.
-- Source: Hive Transactions, compactor.
use Rattle.std.specs.Prelude.{if◌then◌else◌, ◌≡◌, ℕ, ◌==◌, ◌&&◌, nat_lt, Bool, true, false, Some, None, List, [], ◌∷◌, ◌+◌, filter, map}
use Rattle.hv_base.specs.declared.ids.JobId.{JobId}
use Rattle.hv_shelf.specs.declared.place.Place.{Place}
use Rattle.hv_dirs.specs.declared.names.DirName.{DirName}
use Rattle.hv_dirs.specs.declared.names.DirName.TheVariants as name
use Rattle.hv_history.specs.declared.state.Table.{Table}
use Rattle.hv_history.specs.State.{State, Job}
use Rattle.hv_history.specs.Lasting.{IsFront}
use Rattle.hv_law_made.specs.Entries.{finals, IsAtWork}
use Rattle.hv_law_visible.specs.Members.{IsIn}
use Rattle.hv_law_work.specs.Work.{wanted}
use Rattle.hv_merge.specs.Gathering.{gathered}
use Rattle.hv_merge.specs.Merging.{merged}
use Rattle.hv_trail.specs.declared.trail.TrailItem.{TrailItem}
use Rattle.hv_trail.specs.Trail.{state_at}
use Rattle.hv_job_acts.specs.hv_acts.specs.Reading.{HasFittingBook}
use Rattle.hv_job_acts.specs.hv_acts.specs.hv_telling.specs.hv_house.specs.declared.listing.Listing.{Listing}
use Rattle.hv_job_acts.specs.hv_job_calls.specs.Refusals.{WorksAt, HasLiveJob, IsStandingAt}
use Rattle.hv_job_acts.specs.Doing.{IsFileDue}
use Rattle.hv_compact.specs.declared.task.Task.{Task}
use Rattle.hv_rowfile.specs.declared.record.Rec.{Rec}
use Rattle.hv_rowfile.specs.declared.record.Rec.TheVariants as rec
use Rattle.hv_choosing.specs.declared.dir.Dir.{Dir}
use Rattle.hv_choosing.specs.declared.dir.Dir.TheVariants as dir
use Rattle.hv_choosing.specs.declared.listing.DirFile.{DirFile}
use Rattle.hv_history.specs.declared.entry.JobKind.{JobKind}
use Rattle.hv_history.specs.declared.entry.JobKind.TheVariants as kind
use Rattle.hv_merge.specs.declared.shown.Shown.{Shown}

abbrev pub is_base : Dir → Bool
is_base (dir.Base high) = true
is_base (dir.Own deletes write statement) = false
is_base (dir.Wide deletes low high) = false

-- a minor job takes no base
abbrev pub takes : JobKind → Dir → Bool
takes kind.Major d = true
takes kind.Minor d = if is_base d then false else true

abbrev pub is_taken : JobKind → ℕ → DirFile → Bool
is_taken kind bucket file = (file.place.bucket == bucket) && takes kind file.dir

abbrev pub taken_in : JobKind → ℕ → List DirFile → List DirFile
taken_in kind bucket files = filter (is_taken kind bucket) files

-- the first bucket above all of these
abbrev pub larger : ℕ → ℕ → ℕ
larger a b = if nat_lt a b then b else a

abbrev pub buckets_of : List DirFile → ℕ
buckets_of [] = 0
buckets_of (file ∷ files) = larger (file.place.bucket + 1) (buckets_of files)

-- a row that is left, as a record
abbrev pub inserted : Shown → Rec
inserted shown = rec.Insert shown.id shown.row

-- ---- files that stand while the job works

-- on each trail behind this one on which the job is at work and its table is live, the book makes this file of these
-- records, and nobody's
-- removal may have taken it
abbrev pub StandsWhile : List TrailItem → JobId → Place → Bool → List Rec → Type 0
StandsWhile trail job place deletes recs =
    (now : List TrailItem) → IsFront trail now → HasFittingBook now → WorksAt (state_at now) job.0
    → HasLiveJob (state_at now) job.0 → IsStandingAt (state_at now) place deletes recs

-- a file of each of these, and the records that it has
abbrev pub AreReadAs : (DirFile → List Rec) → List DirFile → List (List Rec) → Type 0
AreReadAs recs_of files read = read ≡ map recs_of files

-- ---- what a job writes in a bucket

abbrev pub wide_of : Task → Bool → DirName
wide_of task deletes = name.Wide deletes (record { 0 = task.low }) (record { 0 = task.high })

abbrev pub base_of : Task → DirName
base_of task = name.Base (record { 0 = task.high })

abbrev pub files_in : Bool → Listing → List DirFile
files_in false listing = listing.inserts.items
files_in true listing = listing.deletes.items

-- the records of a range, of the files of a kind
abbrev pub minor_recs : (DirFile → List Rec) → Task → Bool → ℕ → Listing → List Rec
minor_recs recs_of task deletes bucket listing =
    gathered task.low task.high (map recs_of (taken_in kind.Minor bucket (files_in deletes listing)))

-- the rows that are left of all
abbrev pub major_recs : (DirFile → List Rec) → ℕ → Listing → List Rec
major_recs recs_of bucket listing =
    map inserted (merged listing.list (map recs_of (taken_in kind.Major bucket listing.inserts.items))
    (map recs_of (taken_in kind.Major bucket listing.deletes.items)))

-- ---- what it is to write

-- on each trail behind this one on which the job is at work, with its table
abbrev pub Whenever : List TrailItem → JobId → (State → Job → Table → Type 0) → Type 0
Whenever trail job P =
    (now : List TrailItem) → IsFront trail now → HasFittingBook now
    → (j : Job) (work : IsAtWork (state_at now) job.0 j) → P (state_at now) j work.table

-- these records are the file of a bucket of a directory that it is to make
abbrev pub IsToHave : DirName → Bool → ℕ → List Rec → State → Job → Table → Type 0
IsToHave made deletes bucket recs state j table =
    IsIn made (finals state j table.writes) × (wanted j table made bucket ≡ Some (deletes, recs))

-- the directory is to have no file in a bucket
abbrev pub HasNoFile : DirName → ℕ → State → Job → Table → Type 0
HasNoFile made bucket state j table = IsIn made (finals state j table.writes) → wanted j table made bucket ≡ None

-- it is to make no other directory than these
abbrev pub MakesOnly : (DirName → Type 0) → State → Job → Table → Type 0
MakesOnly Is state j table = (made : DirName) → IsIn made (finals state j table.writes) → Is made

-- these records are a file that the job is to stage, while it is at work
abbrev pub AreDue : List TrailItem → JobId → DirName → Bool → ℕ → List Rec → Type 0
AreDue trail job made deletes bucket recs = Whenever trail job (IsToHave made deletes bucket recs)

-- and these are its bytes
abbrev pub IsDue : List TrailItem → JobId → DirName → ℕ → List ℕ → Type 0
IsDue trail job made bucket bytes =
    (now : List TrailItem) → IsFront trail now → HasFittingBook now → IsFileDue now job made bucket bytes

abbrev pub IsWide : Task → DirName → Type 0
IsWide task made = (deletes : Bool) × (made ≡ wide_of task deletes)

abbrev pub IsBase : Task → DirName → Type 0
IsBase task made = made ≡ base_of task

-- what a minor job has of a kind in a bucket is what it is to write there, and it writes nothing else
pub record ListsMinor (trail : List TrailItem) (task : Task) (recs_of : DirFile → List Rec)
    (listing : Listing) : Type 0 where
  pub some : (deletes : Bool) (bucket : ℕ) (r : Rec) (rest : List Rec)
      → minor_recs recs_of task deletes bucket listing ≡ r ∷ rest
      → AreDue trail task.job (wide_of task deletes) deletes bucket (r ∷ rest)
  pub none : (deletes : Bool) (bucket : ℕ) → minor_recs recs_of task deletes bucket listing ≡ []
      → Whenever trail task.job (HasNoFile (wide_of task deletes) bucket)
  pub only : Whenever trail task.job (MakesOnly (IsWide task))

-- the rows that are left for a major one are those that it is to write; of a base without rows the first bucket's file
pub record ListsMajor (trail : List TrailItem) (task : Task) (recs_of : DirFile → List Rec)
    (listing : Listing) : Type 0 where
  pub some : (bucket : ℕ) (r : Rec) (rest : List Rec) → major_recs recs_of bucket listing ≡ r ∷ rest
      → AreDue trail task.job (base_of task) false bucket (r ∷ rest)
  pub none : (bucket other : ℕ) → major_recs recs_of bucket listing ≡ [] → (major_recs recs_of other listing ≡ [] → ⊥)
      → Whenever trail task.job (HasNoFile (base_of task) bucket)
  pub bare : ((bucket : ℕ) → major_recs recs_of bucket listing ≡ []) → AreDue trail task.job (base_of task) false 0 []
  pub rest : ((bucket : ℕ) → major_recs recs_of bucket listing ≡ []) → (bucket : ℕ) → (bucket ≡ 0 → ⊥)
      → Whenever trail task.job (HasNoFile (base_of task) bucket)
  pub only : Whenever trail task.job (MakesOnly (IsBase task))

-- The job's files were listed: each stands with its records while it works, and what it has in each bucket is what it
-- is to stage there.
pub record ListsJob (trail : List TrailItem) (task : Task) (listing : Listing) : Type 0 where
  pub recs_of : DirFile → List Rec
  pub inserts : (file : DirFile) → IsIn file listing.inserts.items
      → StandsWhile trail task.job file.place false (recs_of file)
  pub deletes : (file : DirFile) → IsIn file listing.deletes.items
      → StandsWhile trail task.job file.place true (recs_of file)
  pub minor : task.kind ≡ kind.Minor → ListsMinor trail task recs_of listing
  pub major : task.kind ≡ kind.Major → ListsMajor trail task recs_of listing
