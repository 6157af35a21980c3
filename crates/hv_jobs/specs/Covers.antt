-- What a compaction makes and which directories it covers, by its entries alone: the directories of its range, and those of earlier
-- write ids in whose place they are read. What is covered is kept for whoever was there before the compaction was published.
-- Source: Hive Transactions, base and delta directories, compactor, and cleaner.
use Rattle.std.specs.Prelude.{ℕ, ◌==◌, ◌&&◌, nat_lt, nat_le, not, Bool, true, false, Option, Some, None, List, [], ◌∷◌}
use Rattle.std.specs.List.{list_any}
use Rattle.hv_dirs.specs.declared.names.DirName.{DirName}
use Rattle.hv_dirs.specs.declared.names.DirName.TheVariants as dir
use Rattle.hv_history.specs.declared.entry.JobKind.{JobKind}
use Rattle.hv_history.specs.declared.entry.JobKind.TheVariants as kind
use Rattle.hv_history.specs.State.{State, Job}
use Rattle.hv_history.specs.Jobs.{is_past}

-- ---- what a job makes, published with a range and a mark: two wide deltas, or a base

abbrev pub range_names : JobKind → ℕ → ℕ → List DirName
range_names kind.Minor low high =
    dir.Wide false (record { 0 = low }) (record { 0 = high }) ∷ dir.Wide true (record { 0 = low }) (record { 0 = high }) ∷ []
range_names kind.Major low high = dir.Base (record { 0 = high }) ∷ []

abbrev pub names_by : JobKind → Option (ℕ × ℕ × ℕ) → List DirName
names_by kind None = []
names_by kind (Some range) = range_names kind range.0 range.1

abbrev pub job_names : Job → List DirName
job_names job = names_by job.kind job.published

-- ---- what it covers: a major one the bases below its range's end and the deltas up to it, a minor one the other deltas within

abbrev pub covers_range : JobKind → ℕ → ℕ → DirName → Bool
covers_range kind.Minor low high (dir.Base base) = false
covers_range kind.Minor low high (dir.Own deletes write statement) = nat_le low write.0 && nat_le write.0 high
covers_range kind.Minor low high (dir.Wide deletes first last) =
    nat_le low first.0 && (nat_le last.0 high && not ((first.0 == low) && (last.0 == high)))
covers_range kind.Minor low high (dir.Staged job name) = false
covers_range kind.Major low high (dir.Base base) = nat_lt base.0 high
covers_range kind.Major low high (dir.Own deletes write statement) = nat_le write.0 high
covers_range kind.Major low high (dir.Wide deletes first last) = nat_le last.0 high
covers_range kind.Major low high (dir.Staged job name) = false

abbrev pub covers_by : JobKind → Option (ℕ × ℕ × ℕ) → DirName → Bool
covers_by kind None name = false
covers_by kind (Some range) name = covers_range kind range.0 range.1 name

-- of a job that isn't published it is false
abbrev pub covers : Job → DirName → Bool
covers job name = covers_by job.kind job.published name

-- ---- directories that nobody needs any more

abbrev pub frees : State → DirName → Job → Bool
frees state name job = is_past state job && covers job name

-- one of these jobs covers it, and nobody below its mark is open
abbrev pub is_freed : State → List Job → DirName → Bool
is_freed state jobs name = list_any (frees state name) jobs

abbrev pub cleans : DirName → Job → Bool
cleans name job = job.is_cleaned && covers job name

-- one of these jobs covers it, and everything that this one covers was removed
abbrev pub is_cleaned_away : List Job → DirName → Bool
is_cleaned_away jobs name = list_any (cleans name) jobs
