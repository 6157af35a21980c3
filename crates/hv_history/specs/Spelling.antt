-- How an entry is spelled in the journal: a tag and its fields in order. This project's profile. Numbers
-- are big-endian; a text is its length in bytes and its bytes; a list is its length and its elements.
use Rattle.std.specs.Prelude.{ℕ, ◌<◌, ◌^◌, List, [], ◌∷◌, ◌++◌, length}
use Rattle.std.specs.List.{flat_map, AllByRecursion}
use Rattle.hv_base.specs.declared.ids.RowId.{RowId}
use Rattle.hv_base.specs.declared.ids.Touch.{Touch}
use Rattle.hv_bytes.specs.Spelling.{four_bytes, eight_bytes, text_spelling, IsU32, IsU64, IsText}
use Rattle.hv_history.specs.declared.entry.Entry.{Entry}
use Rattle.hv_history.specs.declared.entry.Entry.TheVariants as entry
use Rattle.hv_history.specs.declared.entry.Cause.{Cause}
use Rattle.hv_history.specs.declared.entry.Cause.TheVariants as cause
use Rattle.hv_history.specs.declared.entry.JobCause.{JobCause}
use Rattle.hv_history.specs.declared.entry.JobCause.TheVariants as job_cause
use Rattle.hv_history.specs.declared.entry.JobKind.{JobKind}
use Rattle.hv_history.specs.declared.entry.JobKind.TheVariants as kind
use Rattle.hv_history.specs.declared.entry.FilePlace.{FilePlace}

unfoldable pub touch_spelling : Touch → List ℕ
touch_spelling t = eight_bytes t.table.0 ++ text_spelling t.partition ++ eight_bytes t.inserted ++ eight_bytes t.deleted

unfoldable pub touches_spelling : List Touch → List ℕ
touches_spelling ts = four_bytes (length ts) ++ flat_map touch_spelling ts

unfoldable pub row_spelling : RowId → List ℕ
row_spelling r = eight_bytes r.write.0 ++ four_bytes r.statement ++ four_bytes r.bucket ++ eight_bytes r.row

unfoldable pub place_spelling : FilePlace → List ℕ
place_spelling p = eight_bytes p.table.0 ++ text_spelling p.partition ++ text_spelling p.dir ++ four_bytes p.bucket ++ eight_bytes p.at

abbrev pub kind_spelling : JobKind → List ℕ
kind_spelling kind.Minor = 1 ∷ []
kind_spelling kind.Major = 2 ∷ []

abbrev pub cause_spelling : Cause → List ℕ
cause_spelling (cause.Refused number) = 1 ∷ four_bytes number
cause_spelling (cause.Conflict by table partition) = 2 ∷ eight_bytes by.0 ++ eight_bytes table.0 ++ text_spelling partition
cause_spelling (cause.Request by) = 3 ∷ eight_bytes by.0
cause_spelling cause.Full = 4 ∷ []
cause_spelling (cause.Twice partition row) = 5 ∷ text_spelling partition ++ row_spelling row
cause_spelling (cause.Blocked holder) = 6 ∷ eight_bytes holder.0
cause_spelling (cause.ReadFault count) = 7 ∷ eight_bytes count
cause_spelling (cause.WriteFault count) = 8 ∷ eight_bytes count
cause_spelling (cause.Damaged place) = 9 ∷ place_spelling place
cause_spelling cause.RowLimit = 10 ∷ []
cause_spelling cause.PartitionLimit = 11 ∷ []
cause_spelling cause.Memory = 12 ∷ []
cause_spelling cause.Lost = 13 ∷ []
cause_spelling cause.Rollback = 15 ∷ []

-- a job's causes keep the numbers of the same causes of a transaction; Gone has one of its own
abbrev pub job_cause_spelling : JobCause → List ℕ
job_cause_spelling (job_cause.ReadFault count) = 7 ∷ eight_bytes count
job_cause_spelling (job_cause.WriteFault count) = 8 ∷ eight_bytes count
job_cause_spelling (job_cause.Damaged place) = 9 ∷ place_spelling place
job_cause_spelling job_cause.Memory = 12 ∷ []
job_cause_spelling job_cause.Lost = 13 ∷ []
job_cause_spelling job_cause.Gone = 14 ∷ []

abbrev pub entry_spelling : Entry → List ℕ
entry_spelling (entry.Boot run) = 1 ∷ eight_bytes run
entry_spelling (entry.Opened txn session number said) =
    2 ∷ eight_bytes txn.0 ++ text_spelling session ++ eight_bytes number ++ text_spelling said
entry_spelling (entry.Start txn statement) = 3 ∷ eight_bytes txn.0 ++ four_bytes statement
entry_spelling (entry.Given txn table write) = 4 ∷ eight_bytes txn.0 ++ eight_bytes table.0 ++ eight_bytes write.0
entry_spelling (entry.Commit txn wrote) = 5 ∷ eight_bytes txn.0 ++ touches_spelling wrote
entry_spelling (entry.Abort txn cause) = 6 ∷ eight_bytes txn.0 ++ cause_spelling cause
entry_spelling (entry.Create txn table) = 7 ∷ eight_bytes txn.0 ++ eight_bytes table.0
entry_spelling (entry.Drop txn table) = 8 ∷ eight_bytes txn.0 ++ eight_bytes table.0
entry_spelling (entry.Asked job table partition kind by) =
    9 ∷ eight_bytes job.0 ++ eight_bytes table.0 ++ text_spelling partition ++ kind_spelling kind ++ eight_bytes by
entry_spelling (entry.Picked job watermark) = 10 ∷ eight_bytes job.0 ++ eight_bytes watermark.0
entry_spelling (entry.Published job low high mark) =
    11 ∷ eight_bytes job.0 ++ eight_bytes low.0 ++ eight_bytes high.0 ++ eight_bytes mark.0
entry_spelling (entry.Empty job) = 12 ∷ eight_bytes job.0
entry_spelling (entry.Cleaned job) = 13 ∷ eight_bytes job.0
entry_spelling (entry.Failed job cause) = 14 ∷ eight_bytes job.0 ++ job_cause_spelling cause
entry_spelling (entry.Forgot table write) = 15 ∷ eight_bytes table.0 ++ eight_bytes write.0
entry_spelling (entry.Next txn statement number said) =
    16 ∷ eight_bytes txn.0 ++ four_bytes statement ++ eight_bytes number ++ text_spelling said
entry_spelling (entry.Did txn statement wrote) = 17 ∷ eight_bytes txn.0 ++ four_bytes statement ++ touches_spelling wrote
entry_spelling (entry.Alter txn table) = 18 ∷ eight_bytes txn.0 ++ eight_bytes table.0

-- What has a spelling: numbers within their widths, texts in UTF-8 and with lists below 2 ^ 32 long. Of
-- what an entry of the code holds only the lengths are in doubt.
pub record TouchHasSpelling (t : Touch) : Type 0 where
  pub table : IsU64 t.table.0
  pub partition : IsText t.partition
  pub inserted : IsU64 t.inserted
  pub deleted : IsU64 t.deleted

pub record TouchesHaveSpelling (ts : List Touch) : Type 0 where
  pub short : length ts < 2 ^ 32
  pub each : AllByRecursion TouchHasSpelling ts

pub record RowHasSpelling (r : RowId) : Type 0 where
  pub write : IsU64 r.write.0
  pub statement : IsU32 r.statement
  pub bucket : IsU32 r.bucket
  pub row : IsU64 r.row

pub record PlaceHasSpelling (p : FilePlace) : Type 0 where
  pub table : IsU64 p.table.0
  pub partition : IsText p.partition
  pub dir : IsText p.dir
  pub bucket : IsU32 p.bucket
  pub at : IsU64 p.at

abbrev pub CauseHasSpelling : Cause → Type 0
CauseHasSpelling (cause.Refused number) = IsU32 number
CauseHasSpelling (cause.Conflict by table partition) = IsU64 by.0 × IsU64 table.0 × IsText partition
CauseHasSpelling (cause.Request by) = IsU64 by.0
CauseHasSpelling cause.Full = Unit {0}
CauseHasSpelling (cause.Twice partition row) = IsText partition × RowHasSpelling row
CauseHasSpelling (cause.Blocked holder) = IsU64 holder.0
CauseHasSpelling (cause.ReadFault count) = IsU64 count
CauseHasSpelling (cause.WriteFault count) = IsU64 count
CauseHasSpelling (cause.Damaged place) = PlaceHasSpelling place
CauseHasSpelling cause.RowLimit = Unit {0}
CauseHasSpelling cause.PartitionLimit = Unit {0}
CauseHasSpelling cause.Memory = Unit {0}
CauseHasSpelling cause.Lost = Unit {0}
CauseHasSpelling cause.Rollback = Unit {0}

abbrev pub JobCauseHasSpelling : JobCause → Type 0
JobCauseHasSpelling (job_cause.ReadFault count) = IsU64 count
JobCauseHasSpelling (job_cause.WriteFault count) = IsU64 count
JobCauseHasSpelling (job_cause.Damaged place) = PlaceHasSpelling place
JobCauseHasSpelling job_cause.Memory = Unit {0}
JobCauseHasSpelling job_cause.Lost = Unit {0}
JobCauseHasSpelling job_cause.Gone = Unit {0}

abbrev pub HasSpelling : Entry → Type 0
HasSpelling (entry.Boot run) = IsU64 run
HasSpelling (entry.Opened txn session number said) =
    IsU64 txn.0 × IsText session × IsU64 number × IsText said
HasSpelling (entry.Start txn statement) = IsU64 txn.0 × IsU32 statement
HasSpelling (entry.Given txn table write) = IsU64 txn.0 × IsU64 table.0 × IsU64 write.0
HasSpelling (entry.Commit txn wrote) = IsU64 txn.0 × TouchesHaveSpelling wrote
HasSpelling (entry.Abort txn cause) = IsU64 txn.0 × CauseHasSpelling cause
HasSpelling (entry.Create txn table) = IsU64 txn.0 × IsU64 table.0
HasSpelling (entry.Drop txn table) = IsU64 txn.0 × IsU64 table.0
HasSpelling (entry.Asked job table partition kind by) =
    IsU64 job.0 × IsU64 table.0 × IsText partition × IsU64 by
HasSpelling (entry.Picked job watermark) = IsU64 job.0 × IsU64 watermark.0
HasSpelling (entry.Published job low high mark) =
    IsU64 job.0 × IsU64 low.0 × IsU64 high.0 × IsU64 mark.0
HasSpelling (entry.Empty job) = IsU64 job.0
HasSpelling (entry.Cleaned job) = IsU64 job.0
HasSpelling (entry.Failed job cause) = IsU64 job.0 × JobCauseHasSpelling cause
HasSpelling (entry.Forgot table write) = IsU64 table.0 × IsU64 write.0
HasSpelling (entry.Next txn statement number said) = IsU64 txn.0 × IsU32 statement × IsU64 number × IsText said
HasSpelling (entry.Did txn statement wrote) = IsU64 txn.0 × IsU32 statement × TouchesHaveSpelling wrote
HasSpelling (entry.Alter txn table) = IsU64 txn.0 × IsU64 table.0
