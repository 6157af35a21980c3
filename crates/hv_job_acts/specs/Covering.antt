-- The names of directories that a job covers, one by one.
use Rattle.std.specs.Prelude.{◌≡◌, ◌⊎◌, ℕ, ◌==◌, ◌&&◌, nat_eq, Bool, true, false, Option, Some, None, List, [], ◌∷◌, ◌++◌}
use Rattle.std.specs.Cmp.Lexicographic.{pointwise}
use Rattle.std.specs.List.{AllByRecursion}
use Rattle.hv_shelf.specs.declared.place.DirAt.{DirAt}
use Rattle.hv_dirs.specs.declared.names.DirName.{DirName}
use Rattle.hv_dirs.specs.declared.names.DirName.TheVariants as dir
use Rattle.hv_dirs.specs.Names.{text_of, IsNumber, IsRange, IsPlain}
use Rattle.hv_history.specs.declared.entry.Entry.{Entry}
use Rattle.hv_history.specs.State.{State, Job, numbered, state_of}
use Rattle.hv_history.specs.Jobs.{is_job_of, jobs_in}
use Rattle.hv_book.specs.declared.jobs.JobNote.{JobNote}
use Rattle.hv_jobs.specs.Covers.{covers, is_cleaned_away}
use Rattle.hv_jobs.specs.Covered.{covered_names}
use Rattle.hv_tallies.specs.Jobs.{is_asked_of}
use Rattle.hv_law_visible.specs.Members.{IsIn}
use Rattle.hv_trail.specs.declared.trail.TrailItem.{TrailItem}
use Rattle.hv_trail.specs.Trail.{HasGone}

abbrev pub dir_named : ℕ → List ℕ → DirName → DirAt
dir_named table partition name = record { table = record { 0 = table }; partition = partition; dir = text_of name }

-- each of them is a name
abbrev pub AreNamesOf : State → Job → Type 0
AreNamesOf state job = AllByRecursion IsPlain (covered_names state job)

-- a compaction can make it
abbrev pub IsMadeName : DirName → Type 0
IsMadeName (dir.Base high) = IsNumber high.0
IsMadeName (dir.Own deletes write statement) = ⊥
IsMadeName (dir.Wide deletes low high) = IsRange low.0 high.0
IsMadeName (dir.Staged job name) = ⊥

-- ---- by what is kept of a job

abbrev pub is_cleaned_note : List Entry → ℕ → List ℕ → JobNote → Bool
is_cleaned_note book table partition note = note.is_cleaned && is_asked_of book table partition note

abbrev pub cleans_one : ℕ → List ℕ → DirName → Option Job → Bool
cleans_one table partition name None = false
cleans_one table partition name (Some job) = (job.is_cleaned && is_job_of table partition job) && covers job name

abbrev pub cleans_note : List Entry → ℕ → List ℕ → DirName → ℕ → Bool
cleans_note book table partition name number = cleans_one table partition name (numbered (state_of book).jobs number)

-- ---- one name

-- a name of what commits and jobs make, that the job covers and no job which was cleaned
pub record IsLeft (state : State) (job : Job) (table : ℕ) (partition : List ℕ) (name : DirName) : Type 0 where
  pub named : IsPlain name
  pub covered : covers job name ≡ true
  pub kept : is_cleaned_away (jobs_in state table partition) name ≡ false

-- its directory is put behind the others, where it is left
abbrev pub PutsDir : State → Job → ℕ → List ℕ → DirName → List DirAt → List DirAt → Type 0
PutsDir state job table partition name before now =
    ((now ≡ before ++ dir_named table partition name ∷ []) × IsLeft state job table partition name)
    ⊎ ((now ≡ before) × (IsLeft state job table partition name → ⊥))

-- it is one of a name that the job covers
pub record IsDirOf (job : Job) (table : ℕ) (partition : List ℕ) (dir : DirAt) : Type 0 where
  pub name : DirName
  pub named : IsPlain name
  pub covered : covers job name ≡ true
  pub is : dir ≡ dir_named table partition name

-- these are the directories of those of the names that are left
pub record HasLeft (state : State) (job : Job) (table : ℕ) (partition : List ℕ) (names : List DirName)
    (dirs : List DirAt) : Type 0 where
  pub each : AllByRecursion (IsDirOf job table partition) dirs
  pub every : (name : DirName) → IsIn name names → IsLeft state job table partition name
      → IsIn (dir_named table partition name) dirs

-- it went, unless a job that was cleaned covers it
abbrev pub IsGoneName : List TrailItem → State → ℕ → List ℕ → DirName → Type 0
IsGoneName trail state table partition name =
    is_cleaned_away (jobs_in state table partition) name ≡ false → HasGone trail (dir_named table partition name)

-- one of them is a name of what commits and jobs make, and didn't go
pub record SomeStands (trail : List TrailItem) (state : State) (table : ℕ) (partition : List ℕ)
    (names : List DirName) : Type 0 where
  pub name : DirName
  pub among : IsIn name names
  pub stands : IsPlain name → IsGoneName trail state table partition name → ⊥

-- ---- names that are the same

abbrev pub same_flag : Bool → Bool → Bool
same_flag true b = b
same_flag false true = false
same_flag false false = true

abbrev pub same_name : DirName → DirName → Bool
same_name (dir.Base a) (dir.Base b) = a.0 == b.0
same_name (dir.Own d w s) (dir.Own e v t) = same_flag d e && ((w.0 == v.0) && (s == t))
same_name (dir.Wide d l h) (dir.Wide e m i) = same_flag d e && ((l.0 == m.0) && (h.0 == i.0))
same_name (dir.Staged j n) (dir.Staged k m) = (j.0 == k.0) && pointwise nat_eq n m
same_name a b = false
