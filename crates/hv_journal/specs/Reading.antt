-- Reading an entry's fields from left to right: each function answers a value and the bytes behind it, or
-- None where the bytes begin with no such value. Nothing above this crate cites these; the contracts of
-- the public calls speak of spellings alone.
use Rattle.std.specs.Prelude.{ℕ, zero, suc, List, [], ◌∷◌, length, take, drop, Option, Some, None, nat_lt, ◌==◌, if◌then◌else◌}
use Rattle.hv_base.specs.declared.ids.RowId.{RowId}
use Rattle.hv_base.specs.declared.ids.Touch.{Touch}
use Rattle.hv_bytes.specs.Reading.{◌>>=◌, four_at, eight_at, text_at, items_at}
use Rattle.hv_history.specs.declared.entry.Entry.{Entry}
use Rattle.hv_history.specs.declared.entry.Entry.TheVariants as entry
use Rattle.hv_history.specs.declared.entry.Cause.{Cause}
use Rattle.hv_history.specs.declared.entry.Cause.TheVariants as cause
use Rattle.hv_history.specs.declared.entry.JobCause.{JobCause}
use Rattle.hv_history.specs.declared.entry.JobCause.TheVariants as job_cause
use Rattle.hv_history.specs.declared.entry.JobKind.{JobKind}
use Rattle.hv_history.specs.declared.entry.JobKind.TheVariants as kind
use Rattle.hv_history.specs.declared.entry.FilePlace.{FilePlace}

unfoldable pub touch_at : List ℕ → Option (Touch × List ℕ)
touch_at bytes = do
  table ← eight_at bytes
  partition ← text_at table.1
  inserted ← eight_at partition.1
  deleted ← eight_at inserted.1
  Some (record { table = record { 0 = table.0 }; partition = partition.0; inserted = inserted.0; deleted = deleted.0 }, deleted.1)

unfoldable pub touches_at : List ℕ → Option (List Touch × List ℕ)
touches_at bytes = do
  n ← four_at bytes
  items_at touch_at n.0 n.1

unfoldable pub row_at : List ℕ → Option (RowId × List ℕ)
row_at bytes = do
  write ← eight_at bytes
  statement ← four_at write.1
  bucket ← four_at statement.1
  row ← eight_at bucket.1
  Some (record { write = record { 0 = write.0 }; statement = statement.0; bucket = bucket.0; row = row.0 }, row.1)

unfoldable pub place_at : List ℕ → Option (FilePlace × List ℕ)
place_at bytes = do
  table ← eight_at bytes
  partition ← text_at table.1
  dir ← text_at partition.1
  bucket ← four_at dir.1
  at ← eight_at bucket.1
  Some (record { table = record { 0 = table.0 }; partition = partition.0; dir = dir.0; bucket = bucket.0; at = at.0 }, at.1)

unfoldable pub kind_at : List ℕ → Option (JobKind × List ℕ)
kind_at [] = None
kind_at (zero ∷ rest) = None
kind_at (suc zero ∷ rest) = Some (kind.Minor, rest)
kind_at (suc (suc zero) ∷ rest) = Some (kind.Major, rest)
kind_at (suc (suc (suc b)) ∷ rest) = None

unfoldable pub refused_at : List ℕ → Option (Cause × List ℕ)
refused_at bytes = do
  number ← four_at bytes
  Some (cause.Refused number.0, number.1)

unfoldable pub conflict_at : List ℕ → Option (Cause × List ℕ)
conflict_at bytes = do
  by ← eight_at bytes
  table ← eight_at by.1
  partition ← text_at table.1
  Some (cause.Conflict (record { 0 = by.0 }) (record { 0 = table.0 }) partition.0, partition.1)

unfoldable pub request_at : List ℕ → Option (Cause × List ℕ)
request_at bytes = do
  by ← eight_at bytes
  Some (cause.Request (record { 0 = by.0 }), by.1)

unfoldable pub twice_at : List ℕ → Option (Cause × List ℕ)
twice_at bytes = do
  partition ← text_at bytes
  row ← row_at partition.1
  Some (cause.Twice partition.0 row.0, row.1)

unfoldable pub blocked_at : List ℕ → Option (Cause × List ℕ)
blocked_at bytes = do
  holder ← eight_at bytes
  Some (cause.Blocked (record { 0 = holder.0 }), holder.1)

unfoldable pub read_fault_at : List ℕ → Option (Cause × List ℕ)
read_fault_at bytes = do
  count ← eight_at bytes
  Some (cause.ReadFault count.0, count.1)

unfoldable pub write_fault_at : List ℕ → Option (Cause × List ℕ)
write_fault_at bytes = do
  count ← eight_at bytes
  Some (cause.WriteFault count.0, count.1)

unfoldable pub damaged_at : List ℕ → Option (Cause × List ℕ)
damaged_at bytes = do
  place ← place_at bytes
  Some (cause.Damaged place.0, place.1)

-- the fields behind a cause's tag
abbrev pub cause_fields_at : ℕ → List ℕ → Option (Cause × List ℕ)
cause_fields_at tag rest =
    if tag == 1 then refused_at rest
    else (if tag == 2 then conflict_at rest
    else (if tag == 3 then request_at rest
    else (if tag == 4 then Some (cause.Full, rest)
    else (if tag == 5 then twice_at rest
    else (if tag == 6 then blocked_at rest
    else (if tag == 7 then read_fault_at rest
    else (if tag == 8 then write_fault_at rest
    else (if tag == 9 then damaged_at rest
    else (if tag == 10 then Some (cause.RowLimit, rest)
    else (if tag == 11 then Some (cause.PartitionLimit, rest)
    else (if tag == 12 then Some (cause.Memory, rest)
    else (if tag == 13 then Some (cause.Lost, rest)
    else (if tag == 15 then Some (cause.Rollback, rest)
    else None)))))))))))))

unfoldable pub cause_at : List ℕ → Option (Cause × List ℕ)
cause_at [] = None
cause_at (tag ∷ rest) = cause_fields_at tag rest

unfoldable pub job_read_fault_at : List ℕ → Option (JobCause × List ℕ)
job_read_fault_at bytes = do
  count ← eight_at bytes
  Some (job_cause.ReadFault count.0, count.1)

unfoldable pub job_write_fault_at : List ℕ → Option (JobCause × List ℕ)
job_write_fault_at bytes = do
  count ← eight_at bytes
  Some (job_cause.WriteFault count.0, count.1)

unfoldable pub job_damaged_at : List ℕ → Option (JobCause × List ℕ)
job_damaged_at bytes = do
  place ← place_at bytes
  Some (job_cause.Damaged place.0, place.1)

-- the fields behind the tag of a job's cause
abbrev pub job_cause_fields_at : ℕ → List ℕ → Option (JobCause × List ℕ)
job_cause_fields_at tag rest =
    if tag == 7 then job_read_fault_at rest
    else (if tag == 8 then job_write_fault_at rest
    else (if tag == 9 then job_damaged_at rest
    else (if tag == 12 then Some (job_cause.Memory, rest)
    else (if tag == 13 then Some (job_cause.Lost, rest)
    else (if tag == 14 then Some (job_cause.Gone, rest)
    else None)))))

unfoldable pub job_cause_at : List ℕ → Option (JobCause × List ℕ)
job_cause_at [] = None
job_cause_at (tag ∷ rest) = job_cause_fields_at tag rest

unfoldable pub boot_at : List ℕ → Option (Entry × List ℕ)
boot_at bytes = do
  run ← eight_at bytes
  Some (entry.Boot run.0, run.1)

unfoldable pub opened_at : List ℕ → Option (Entry × List ℕ)
opened_at bytes = do
  txn ← eight_at bytes
  session ← text_at txn.1
  number ← eight_at session.1
  said ← text_at number.1
  Some (entry.Opened (record { 0 = txn.0 }) session.0 number.0 said.0, said.1)

unfoldable pub start_at : List ℕ → Option (Entry × List ℕ)
start_at bytes = do
  txn ← eight_at bytes
  statement ← four_at txn.1
  Some (entry.Start (record { 0 = txn.0 }) statement.0, statement.1)

unfoldable pub given_at : List ℕ → Option (Entry × List ℕ)
given_at bytes = do
  txn ← eight_at bytes
  table ← eight_at txn.1
  write ← eight_at table.1
  Some (entry.Given (record { 0 = txn.0 }) (record { 0 = table.0 }) (record { 0 = write.0 }), write.1)

unfoldable pub commit_at : List ℕ → Option (Entry × List ℕ)
commit_at bytes = do
  txn ← eight_at bytes
  wrote ← touches_at txn.1
  Some (entry.Commit (record { 0 = txn.0 }) wrote.0, wrote.1)

unfoldable pub abort_at : List ℕ → Option (Entry × List ℕ)
abort_at bytes = do
  txn ← eight_at bytes
  cause ← cause_at txn.1
  Some (entry.Abort (record { 0 = txn.0 }) cause.0, cause.1)

unfoldable pub create_at : List ℕ → Option (Entry × List ℕ)
create_at bytes = do
  txn ← eight_at bytes
  table ← eight_at txn.1
  Some (entry.Create (record { 0 = txn.0 }) (record { 0 = table.0 }), table.1)

unfoldable pub drop_at : List ℕ → Option (Entry × List ℕ)
drop_at bytes = do
  txn ← eight_at bytes
  table ← eight_at txn.1
  Some (entry.Drop (record { 0 = txn.0 }) (record { 0 = table.0 }), table.1)

unfoldable pub asked_at : List ℕ → Option (Entry × List ℕ)
asked_at bytes = do
  job ← eight_at bytes
  table ← eight_at job.1
  partition ← text_at table.1
  kind ← kind_at partition.1
  by ← eight_at kind.1
  Some (entry.Asked (record { 0 = job.0 }) (record { 0 = table.0 }) partition.0 kind.0 by.0, by.1)

unfoldable pub picked_at : List ℕ → Option (Entry × List ℕ)
picked_at bytes = do
  job ← eight_at bytes
  watermark ← eight_at job.1
  Some (entry.Picked (record { 0 = job.0 }) (record { 0 = watermark.0 }), watermark.1)

unfoldable pub published_at : List ℕ → Option (Entry × List ℕ)
published_at bytes = do
  job ← eight_at bytes
  low ← eight_at job.1
  high ← eight_at low.1
  mark ← eight_at high.1
  Some (entry.Published (record { 0 = job.0 }) (record { 0 = low.0 }) (record { 0 = high.0 }) (record { 0 = mark.0 }), mark.1)

unfoldable pub empty_at : List ℕ → Option (Entry × List ℕ)
empty_at bytes = do
  job ← eight_at bytes
  Some (entry.Empty (record { 0 = job.0 }), job.1)

unfoldable pub cleaned_at : List ℕ → Option (Entry × List ℕ)
cleaned_at bytes = do
  job ← eight_at bytes
  Some (entry.Cleaned (record { 0 = job.0 }), job.1)

unfoldable pub failed_at : List ℕ → Option (Entry × List ℕ)
failed_at bytes = do
  job ← eight_at bytes
  cause ← job_cause_at job.1
  Some (entry.Failed (record { 0 = job.0 }) cause.0, cause.1)

unfoldable pub forgot_at : List ℕ → Option (Entry × List ℕ)
forgot_at bytes = do
  table ← eight_at bytes
  write ← eight_at table.1
  Some (entry.Forgot (record { 0 = table.0 }) (record { 0 = write.0 }), write.1)

unfoldable pub next_at : List ℕ → Option (Entry × List ℕ)
next_at bytes = do
  txn ← eight_at bytes
  statement ← four_at txn.1
  number ← eight_at statement.1
  said ← text_at number.1
  Some (entry.Next (record { 0 = txn.0 }) statement.0 number.0 said.0, said.1)

unfoldable pub did_at : List ℕ → Option (Entry × List ℕ)
did_at bytes = do
  txn ← eight_at bytes
  statement ← four_at txn.1
  wrote ← touches_at statement.1
  Some (entry.Did (record { 0 = txn.0 }) statement.0 wrote.0, wrote.1)

unfoldable pub alter_at : List ℕ → Option (Entry × List ℕ)
alter_at bytes = do
  txn ← eight_at bytes
  table ← eight_at txn.1
  Some (entry.Alter (record { 0 = txn.0 }) (record { 0 = table.0 }), table.1)

-- the fields behind an entry's tag
abbrev pub fields_at : ℕ → List ℕ → Option (Entry × List ℕ)
fields_at tag rest =
    if tag == 1 then boot_at rest
    else (if tag == 2 then opened_at rest
    else (if tag == 3 then start_at rest
    else (if tag == 4 then given_at rest
    else (if tag == 5 then commit_at rest
    else (if tag == 6 then abort_at rest
    else (if tag == 7 then create_at rest
    else (if tag == 8 then drop_at rest
    else (if tag == 9 then asked_at rest
    else (if tag == 10 then picked_at rest
    else (if tag == 11 then published_at rest
    else (if tag == 12 then empty_at rest
    else (if tag == 13 then cleaned_at rest
    else (if tag == 14 then failed_at rest
    else (if tag == 15 then forgot_at rest
    else (if tag == 16 then next_at rest
    else (if tag == 17 then did_at rest
    else (if tag == 18 then alter_at rest
    else None)))))))))))))))))

unfoldable pub entry_at : List ℕ → Option (Entry × List ℕ)
entry_at [] = None
entry_at (tag ∷ rest) = fields_at tag rest

-- all of the bytes as one entry
unfoldable pub whole_of : List ℕ → Option Entry
whole_of bytes = do
  e ← entry_at bytes
  if length e.1 == 0 then Some e.0 else None

unfoldable pub record_at : List ℕ → Option (Entry × List ℕ)
record_at bytes = do
  n ← four_at bytes
  if nat_lt (length n.1) n.0 then None else (do
    e ← whole_of (take n.0 n.1)
    Some (e, drop n.0 n.1))
