-- What was spelled is read again, whatever stands behind it.
use Rattle.std.proofs.Common.{◌≡◌, ℕ, ◌<◌, false, List, [], ◌++◌, length, Some, refl, sym, ap, ◌∙◌, append_assoc, arith, ltb}
use Rattle.std.proofs.lemmas.Bool.{le-ltb}
use Rattle.std.proofs.lemmas.List.{take_at, drop_at, length-append, append-nil}
use Rattle.hv_bytes.specs.Spelling.{four_bytes, eight_bytes, text_spelling, IsU32, IsU64, IsText}
use Rattle.hv_bytes.specs.Reading.{four_at}
use Rattle.hv_bytes.proofs.Again.{four_again, eight_again, text_again}
use Rattle.hv_bytes.proofs.ItemLemmas.{items_again}
use Rattle.hv_base.specs.declared.ids.RowId.{RowId}
use Rattle.hv_base.specs.declared.ids.Touch.{Touch}
use Rattle.hv_history.specs.declared.entry.Entry.{Entry}
use Rattle.hv_history.specs.declared.entry.Entry.TheVariants as entry
use Rattle.hv_history.specs.declared.entry.Cause.{Cause}
use Rattle.hv_history.specs.declared.entry.Cause.TheVariants as cause
use Rattle.hv_history.specs.declared.entry.JobCause.{JobCause}
use Rattle.hv_history.specs.declared.entry.JobCause.TheVariants as job_cause
use Rattle.hv_history.specs.declared.entry.JobKind.{JobKind}
use Rattle.hv_history.specs.declared.entry.JobKind.TheVariants as kind
use Rattle.hv_history.specs.declared.entry.FilePlace.{FilePlace}
use Rattle.hv_history.specs.Spelling.{touch_spelling, touches_spelling, row_spelling, place_spelling, kind_spelling, cause_spelling, job_cause_spelling, entry_spelling, TouchHasSpelling, TouchesHaveSpelling, RowHasSpelling, PlaceHasSpelling, CauseHasSpelling, JobCauseHasSpelling, HasSpelling}
use Rattle.hv_history.specs.Journal.{record_of, HasRecord}
use Rattle.hv_journal.specs.Reading.{touch_at, touches_at, row_at, place_at, kind_at, refused_at, conflict_at, request_at, twice_at, blocked_at, read_fault_at, write_fault_at, damaged_at, cause_at, job_read_fault_at, job_write_fault_at, job_damaged_at, job_cause_at, boot_at, opened_at, start_at, given_at, commit_at, abort_at, create_at, drop_at as dropped_at, asked_at, picked_at, published_at, empty_at, cleaned_at, failed_at, forgot_at, next_at, did_at, alter_at, entry_at, whole_of, record_at}

pub touch_again : (t : Touch) (rest : List ℕ) → TouchHasSpelling t → touch_at (touch_spelling t ++ rest) ≡ Some (t, rest)
unfolding touch_at touch_spelling
touch_again t rest h = simp append_assoc (rw (eight_again t.table.0 _ h.table, text_again t.partition _ h.partition, eight_again t.inserted _ h.inserted, eight_again t.deleted _ h.deleted) refl)

pub row_again : (r : RowId) (rest : List ℕ) → RowHasSpelling r → row_at (row_spelling r ++ rest) ≡ Some (r, rest)
unfolding row_at row_spelling
row_again r rest h = simp append_assoc (rw (eight_again r.write.0 _ h.write, four_again r.statement _ h.statement, four_again r.bucket _ h.bucket, eight_again r.row _ h.row) refl)

pub place_again : (p : FilePlace) (rest : List ℕ) → PlaceHasSpelling p → place_at (place_spelling p ++ rest) ≡ Some (p, rest)
unfolding place_at place_spelling
place_again p rest h = simp append_assoc (rw (eight_again p.table.0 _ h.table, text_again p.partition _ h.partition, text_again p.dir _ h.dir, four_again p.bucket _ h.bucket, eight_again p.at _ h.at) refl)

pub kind_again : (k : JobKind) (rest : List ℕ) → kind_at (kind_spelling k ++ rest) ≡ Some (k, rest)
unfolding kind_at
kind_again kind.Minor rest = refl
kind_again kind.Major rest = refl

pub touches_again : (ts : List Touch) (rest : List ℕ) → TouchesHaveSpelling ts → touches_at (touches_spelling ts ++ rest) ≡ Some (ts, rest)
unfolding touches_at touches_spelling
touches_again ts rest h = rw (append_assoc, four_again (length ts) _ h.short) (items_again touch_at touch_spelling TouchHasSpelling touch_again ts rest h.each)

conflict_again : (by : ℕ) (table : ℕ) (partition : List ℕ) (rest : List ℕ) → IsU64 by → IsU64 table → IsText partition → conflict_at ((eight_bytes by ++ eight_bytes table ++ text_spelling partition) ++ rest) ≡ Some (cause.Conflict (record { 0 = by }) (record { 0 = table }) partition, rest)
unfolding conflict_at
conflict_again by table partition rest h0 h1 h2 = simp append_assoc (rw (eight_again by _ h0, eight_again table _ h1, text_again partition _ h2) refl)

twice_again : (partition : List ℕ) (row : RowId) (rest : List ℕ) → IsText partition → RowHasSpelling row → twice_at ((text_spelling partition ++ row_spelling row) ++ rest) ≡ Some (cause.Twice partition row, rest)
unfolding twice_at
twice_again partition row rest h0 h1 = simp append_assoc (rw (text_again partition _ h0, row_again row _ h1) refl)

pub cause_again : (e : Cause) (rest : List ℕ) → CauseHasSpelling e → cause_at (cause_spelling e ++ rest) ≡ Some (e, rest)
unfolding cause_at refused_at request_at blocked_at read_fault_at write_fault_at damaged_at
cause_again (cause.Refused number) rest h = rw (four_again number rest h) refl
cause_again (cause.Conflict by table partition) rest h = conflict_again by.0 table.0 partition rest h.0 h.1 h.2
cause_again (cause.Request by) rest h = rw (eight_again by.0 rest h) refl
cause_again cause.Full rest h = refl
cause_again (cause.Twice partition row) rest h = twice_again partition row rest h.0 h.1
cause_again (cause.Blocked holder) rest h = rw (eight_again holder.0 rest h) refl
cause_again (cause.ReadFault count) rest h = rw (eight_again count rest h) refl
cause_again (cause.WriteFault count) rest h = rw (eight_again count rest h) refl
cause_again (cause.Damaged place) rest h = rw (place_again place rest h) refl
cause_again cause.RowLimit rest h = refl
cause_again cause.PartitionLimit rest h = refl
cause_again cause.Memory rest h = refl
cause_again cause.Lost rest h = refl
cause_again cause.Rollback rest h = refl

pub job_cause_again : (e : JobCause) (rest : List ℕ) → JobCauseHasSpelling e → job_cause_at (job_cause_spelling e ++ rest) ≡ Some (e, rest)
unfolding job_cause_at job_read_fault_at job_write_fault_at job_damaged_at
job_cause_again (job_cause.ReadFault count) rest h = rw (eight_again count rest h) refl
job_cause_again (job_cause.WriteFault count) rest h = rw (eight_again count rest h) refl
job_cause_again (job_cause.Damaged place) rest h = rw (place_again place rest h) refl
job_cause_again job_cause.Memory rest h = refl
job_cause_again job_cause.Lost rest h = refl
job_cause_again job_cause.Gone rest h = refl

opened_again : (txn : ℕ) (session : List ℕ) (number : ℕ) (said : List ℕ) (rest : List ℕ) → IsU64 txn → IsText session → IsU64 number → IsText said → opened_at ((eight_bytes txn ++ text_spelling session ++ eight_bytes number ++ text_spelling said) ++ rest) ≡ Some (entry.Opened (record { 0 = txn }) session number said, rest)
unfolding opened_at
opened_again txn session number said rest h0 h1 h2 h3 = simp append_assoc (rw (eight_again txn _ h0, text_again session _ h1, eight_again number _ h2, text_again said _ h3) refl)

start_again : (txn : ℕ) (statement : ℕ) (rest : List ℕ) → IsU64 txn → IsU32 statement → start_at ((eight_bytes txn ++ four_bytes statement) ++ rest) ≡ Some (entry.Start (record { 0 = txn }) statement, rest)
unfolding start_at
start_again txn statement rest h0 h1 = simp append_assoc (rw (eight_again txn _ h0, four_again statement _ h1) refl)

given_again : (txn : ℕ) (table : ℕ) (write : ℕ) (rest : List ℕ) → IsU64 txn → IsU64 table → IsU64 write → given_at ((eight_bytes txn ++ eight_bytes table ++ eight_bytes write) ++ rest) ≡ Some (entry.Given (record { 0 = txn }) (record { 0 = table }) (record { 0 = write }), rest)
unfolding given_at
given_again txn table write rest h0 h1 h2 = simp append_assoc (rw (eight_again txn _ h0, eight_again table _ h1, eight_again write _ h2) refl)

commit_again : (txn : ℕ) (wrote : List Touch) (rest : List ℕ) → IsU64 txn → TouchesHaveSpelling wrote → commit_at ((eight_bytes txn ++ touches_spelling wrote) ++ rest) ≡ Some (entry.Commit (record { 0 = txn }) wrote, rest)
unfolding commit_at
commit_again txn wrote rest h0 h1 = simp append_assoc (rw (eight_again txn _ h0, touches_again wrote _ h1) refl)

abort_again : (txn : ℕ) (cause : Cause) (rest : List ℕ) → IsU64 txn → CauseHasSpelling cause → abort_at ((eight_bytes txn ++ cause_spelling cause) ++ rest) ≡ Some (entry.Abort (record { 0 = txn }) cause, rest)
unfolding abort_at
abort_again txn cause rest h0 h1 = simp append_assoc (rw (eight_again txn _ h0, cause_again cause _ h1) refl)

create_again : (txn : ℕ) (table : ℕ) (rest : List ℕ) → IsU64 txn → IsU64 table → create_at ((eight_bytes txn ++ eight_bytes table) ++ rest) ≡ Some (entry.Create (record { 0 = txn }) (record { 0 = table }), rest)
unfolding create_at
create_again txn table rest h0 h1 = simp append_assoc (rw (eight_again txn _ h0, eight_again table _ h1) refl)

dropped_again : (txn : ℕ) (table : ℕ) (rest : List ℕ) → IsU64 txn → IsU64 table → dropped_at ((eight_bytes txn ++ eight_bytes table) ++ rest) ≡ Some (entry.Drop (record { 0 = txn }) (record { 0 = table }), rest)
unfolding dropped_at
dropped_again txn table rest h0 h1 = simp append_assoc (rw (eight_again txn _ h0, eight_again table _ h1) refl)

asked_again : (job : ℕ) (table : ℕ) (partition : List ℕ) (kind : JobKind) (by : ℕ) (rest : List ℕ) → IsU64 job → IsU64 table → IsText partition → IsU64 by → asked_at ((eight_bytes job ++ eight_bytes table ++ text_spelling partition ++ kind_spelling kind ++ eight_bytes by) ++ rest) ≡ Some (entry.Asked (record { 0 = job }) (record { 0 = table }) partition kind by, rest)
unfolding asked_at
asked_again job table partition kind by rest h0 h1 h2 h3 = simp append_assoc (rw (eight_again job _ h0, eight_again table _ h1, text_again partition _ h2, kind_again kind _, eight_again by _ h3) refl)

picked_again : (job : ℕ) (watermark : ℕ) (rest : List ℕ) → IsU64 job → IsU64 watermark → picked_at ((eight_bytes job ++ eight_bytes watermark) ++ rest) ≡ Some (entry.Picked (record { 0 = job }) (record { 0 = watermark }), rest)
unfolding picked_at
picked_again job watermark rest h0 h1 = simp append_assoc (rw (eight_again job _ h0, eight_again watermark _ h1) refl)

published_again : (job : ℕ) (low : ℕ) (high : ℕ) (mark : ℕ) (rest : List ℕ) → IsU64 job → IsU64 low → IsU64 high → IsU64 mark → published_at ((eight_bytes job ++ eight_bytes low ++ eight_bytes high ++ eight_bytes mark) ++ rest) ≡ Some (entry.Published (record { 0 = job }) (record { 0 = low }) (record { 0 = high }) (record { 0 = mark }), rest)
unfolding published_at
published_again job low high mark rest h0 h1 h2 h3 = simp append_assoc (rw (eight_again job _ h0, eight_again low _ h1, eight_again high _ h2, eight_again mark _ h3) refl)

failed_again : (job : ℕ) (cause : JobCause) (rest : List ℕ) → IsU64 job → JobCauseHasSpelling cause → failed_at ((eight_bytes job ++ job_cause_spelling cause) ++ rest) ≡ Some (entry.Failed (record { 0 = job }) cause, rest)
unfolding failed_at
failed_again job cause rest h0 h1 = simp append_assoc (rw (eight_again job _ h0, job_cause_again cause _ h1) refl)

forgot_again : (table : ℕ) (write : ℕ) (rest : List ℕ) → IsU64 table → IsU64 write → forgot_at ((eight_bytes table ++ eight_bytes write) ++ rest) ≡ Some (entry.Forgot (record { 0 = table }) (record { 0 = write }), rest)
unfolding forgot_at
forgot_again table write rest h0 h1 = simp append_assoc (rw (eight_again table _ h0, eight_again write _ h1) refl)

next_again : (txn : ℕ) (statement : ℕ) (number : ℕ) (said : List ℕ) (rest : List ℕ) → IsU64 txn → IsU32 statement → IsU64 number → IsText said → next_at ((eight_bytes txn ++ four_bytes statement ++ eight_bytes number ++ text_spelling said) ++ rest) ≡ Some (entry.Next (record { 0 = txn }) statement number said, rest)
unfolding next_at
next_again txn statement number said rest h0 h1 h2 h3 = simp append_assoc (rw (eight_again txn _ h0, four_again statement _ h1, eight_again number _ h2, text_again said _ h3) refl)

did_again : (txn : ℕ) (statement : ℕ) (wrote : List Touch) (rest : List ℕ) → IsU64 txn → IsU32 statement → TouchesHaveSpelling wrote → did_at ((eight_bytes txn ++ four_bytes statement ++ touches_spelling wrote) ++ rest) ≡ Some (entry.Did (record { 0 = txn }) statement wrote, rest)
unfolding did_at
did_again txn statement wrote rest h0 h1 h2 = simp append_assoc (rw (eight_again txn _ h0, four_again statement _ h1, touches_again wrote _ h2) refl)

alter_again : (txn : ℕ) (table : ℕ) (rest : List ℕ) → IsU64 txn → IsU64 table → alter_at ((eight_bytes txn ++ eight_bytes table) ++ rest) ≡ Some (entry.Alter (record { 0 = txn }) (record { 0 = table }), rest)
unfolding alter_at
alter_again txn table rest h0 h1 = simp append_assoc (rw (eight_again txn _ h0, eight_again table _ h1) refl)

pub entry_again : (e : Entry) (rest : List ℕ) → HasSpelling e → entry_at (entry_spelling e ++ rest) ≡ Some (e, rest)
unfolding entry_at boot_at empty_at cleaned_at
entry_again (entry.Boot run) rest h = rw (eight_again run rest h) refl
entry_again (entry.Opened txn session number said) rest h = opened_again txn.0 session number said rest h.0 h.1 h.2 h.3
entry_again (entry.Start txn statement) rest h = start_again txn.0 statement rest h.0 h.1
entry_again (entry.Given txn table write) rest h = given_again txn.0 table.0 write.0 rest h.0 h.1 h.2
entry_again (entry.Commit txn wrote) rest h = commit_again txn.0 wrote rest h.0 h.1
entry_again (entry.Abort txn cause) rest h = abort_again txn.0 cause rest h.0 h.1
entry_again (entry.Create txn table) rest h = create_again txn.0 table.0 rest h.0 h.1
entry_again (entry.Drop txn table) rest h = dropped_again txn.0 table.0 rest h.0 h.1
entry_again (entry.Asked job table partition kind by) rest h = asked_again job.0 table.0 partition kind by rest h.0 h.1 h.2 h.3
entry_again (entry.Picked job watermark) rest h = picked_again job.0 watermark.0 rest h.0 h.1
entry_again (entry.Published job low high mark) rest h = published_again job.0 low.0 high.0 mark.0 rest h.0 h.1 h.2 h.3
entry_again (entry.Empty job) rest h = rw (eight_again job.0 rest h) refl
entry_again (entry.Cleaned job) rest h = rw (eight_again job.0 rest h) refl
entry_again (entry.Failed job cause) rest h = failed_again job.0 cause rest h.0 h.1
entry_again (entry.Forgot table write) rest h = forgot_again table.0 write.0 rest h.0 h.1
entry_again (entry.Next txn statement number said) rest h = next_again txn.0 statement number said rest h.0 h.1 h.2 h.3
entry_again (entry.Did txn statement wrote) rest h = did_again txn.0 statement wrote rest h.0 h.1 h.2
entry_again (entry.Alter txn table) rest h = alter_again txn.0 table.0 rest h.0 h.1

pub whole_again : (e : Entry) → HasSpelling e → whole_of (entry_spelling e) ≡ Some e
unfolding whole_of
whole_again e h =
    let read : entry_at (entry_spelling e) ≡ Some (e, []) = ap entry_at (sym (append-nil (entry_spelling e))) ∙ entry_again e [] h in
    rw read refl

pub record_again : (e : Entry) (rest : List ℕ) → HasRecord e → record_at (record_of e ++ rest) ≡ Some (e, rest)
unfolding record_at record_of
record_again e rest h =
    let body = entry_spelling e in
    let front = take_at body rest (length body) refl in
    let long : ltb (length (body ++ rest)) (length body) ≡ false = le-ltb _ _ (omega (arith, length-append body rest)) in
    let read : four_at ((four_bytes (length body) ++ body) ++ rest) ≡ Some (length body, body ++ rest) = ap four_at (append_assoc (four_bytes (length body)) body rest) ∙ four_again (length body) (body ++ rest) h.short in
    rw (read, long, front, drop_at body rest (length body) refl, whole_again e h.spelling) refl
