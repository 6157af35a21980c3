-- Compaction jobs in a book: how far each has come, what one would merge, and which is due. Everything is counted by what commits say
-- that they wrote, and by the entries of the jobs themselves.
-- Source: Hive Transactions, compactor (initiator, worker), and its thresholds; the exact counts are this project's profile.
use Rattle.std.specs.Prelude.{if◌then◌else◌, ℕ, ◌+◌, ◌-◌, ◌*◌, ◌==◌, ◌&&◌, ◌||◌, nat_eq, nat_lt, nat_le, Bool, true, false, not, is_none, is_some, Option, Some, None, List, [], ◌∷◌, ◌++◌, map, filter, fold, find, sum_by}
use Rattle.std.specs.Cmp.Lexicographic.{pointwise}
use Rattle.std.specs.List.{list_any}
use Rattle.hv_base.specs.declared.ids.Touch.{Touch}
use Rattle.hv_history.specs.declared.entry.JobKind.{JobKind}
use Rattle.hv_history.specs.declared.entry.JobKind.TheVariants as kind
use Rattle.hv_history.specs.declared.state.Table.{Table}
use Rattle.hv_history.specs.declared.state.Ending.{Ending}
use Rattle.hv_history.specs.declared.state.Ending.TheVariants.{Committed}
use Rattle.hv_history.specs.declared.state.Transaction.{Transaction}
use Rattle.hv_history.specs.State.{State, Job, numbered}
use Rattle.hv_history.specs.Standing.{is_open}
pub use Rattle.hv_history.specs.Standing.{first_open, if_below}
use Rattle.hv_history.specs.Load.{is_working, one_if}
use Rattle.hv_history.specs.Thresholds.{delta_threshold, percent_threshold, is_behind_place}

-- ---- how far a job has come

-- it was asked for, and nobody took it up
abbrev pub is_initiated : Job → Bool
is_initiated job = is_none job.watermark && is_none job.ended

abbrev pub is_failed : Job → Bool
is_failed job = is_some job.failure

-- its directories stand, and those that it covers weren't all removed
abbrev pub is_ready : Job → Bool
is_ready job = is_some job.published && not job.is_cleaned

abbrev pub has_succeeded : Job → Bool
has_succeeded job = job.is_empty || (is_some job.published && job.is_cleaned)

abbrev pub is_busy : Job → Bool
is_busy job = is_initiated job || is_working job

-- ---- the jobs of a partition, in the order in which they were asked for

abbrev pub is_job_of : ℕ → List ℕ → Job → Bool
is_job_of table partition job = (job.table == table) && pointwise nat_eq job.partition partition

abbrev pub jobs_of : ℕ → List ℕ → List Job → List Job
jobs_of table partition jobs = filter (is_job_of table partition) jobs

abbrev pub jobs_in : State → ℕ → List ℕ → List Job
jobs_in state table partition = jobs_of table partition state.jobs

abbrev pub has_busy : State → ℕ → List ℕ → Bool
has_busy state table partition = list_any is_busy (jobs_in state table partition)

-- ---- what is published: the greatest write id that jobs of a kind, or of either kind, reached

abbrev pub is_kind : JobKind → JobKind → Bool
is_kind kind.Minor kind.Minor = true
is_kind kind.Minor kind.Major = false
is_kind kind.Major kind.Minor = false
is_kind kind.Major kind.Major = true

abbrev pub high_by : Option (ℕ × ℕ × ℕ) → ℕ
high_by None = 0
high_by (Some range) = range.1

abbrev pub high_of : Job → ℕ
high_of job = high_by job.published

abbrev pub larger : ℕ → ℕ → ℕ
larger a b = if nat_lt a b then b else a

abbrev pub greatest : List ℕ → ℕ
greatest [] = 0
greatest (n ∷ ns) = larger n (greatest ns)

-- by major ones: the number of the last base
abbrev pub base_high : List Job → ℕ
base_high jobs = greatest (map high_of (filter (λ (job : Job). is_kind kind.Major job.kind) jobs))

abbrev pub any_high : List Job → ℕ
any_high jobs = greatest (map high_of jobs)

-- ---- what commits wrote in a partition, by write id

pub record Events : Type 0 where
  pub write : ℕ
  pub inserted : ℕ
  pub deleted : ℕ

abbrev pub is_touch_of : ℕ → List ℕ → Touch → Bool
is_touch_of table partition touch = (touch.table.0 == table) && pointwise nat_eq touch.partition partition

abbrev pub events_of : ℕ → Touch → Events
events_of write touch = record { write = write; inserted = touch.inserted; deleted = touch.deleted }

abbrev pub events_if : ℕ → Option Touch → List Events
events_if write None = []
events_if write (Some touch) = events_of write touch ∷ []

-- the touches of a commit rise, so that one at most is of a partition
abbrev pub events_by : ℕ → List ℕ → ℕ → Option Ending → List Events
events_by table partition write (Some (Committed place wrote)) = events_if write (find (is_touch_of table partition) wrote)
events_by table partition write _ = []

abbrev pub events_at : ℕ → List ℕ → ℕ → Option Transaction → List Events
events_at table partition write None = []
events_at table partition write (Some transaction) = events_by table partition write transaction.ending

-- of the write ids from this one on, each given to the transaction of that number
abbrev pub events_from : List Transaction → ℕ → List ℕ → ℕ → List ℕ → List Events
events_from transactions table partition write [] = []
events_from transactions table partition write (txn ∷ owners) =
    events_at table partition write (numbered transactions txn) ++ events_from transactions table partition (write + 1) owners

abbrev pub ids_of : Option Table → List ℕ
ids_of None = []
ids_of (Some table) = table.owners

-- of each committed write id with a touch there, rising
abbrev pub events_in : State → ℕ → List ℕ → List Events
events_in state table partition = events_from state.transactions table partition 1 (ids_of (numbered state.tables table))

-- ---- the watermark of a table: the greatest write id such that none up to it is of an open transaction

abbrev pub is_open_one : Option Transaction → Bool
is_open_one None = false
is_open_one (Some transaction) = is_open transaction

abbrev pub ended_front : List Transaction → List ℕ → ℕ
ended_front transactions [] = 0
ended_front transactions (txn ∷ owners) = if is_open_one (numbered transactions txn) then 0 else ended_front transactions owners + 1

abbrev pub watermark : State → ℕ → ℕ
watermark state table = ended_front state.transactions (ids_of (numbered state.tables table))

-- ---- what a job would merge, of the write ids up to a mark

-- the deltas and the delete deltas, whether there is a base, and the range that it would have
pub record Pieces : Type 0 where
  pub ins : ℕ
  pub del : ℕ
  pub base : Bool
  pub low : ℕ
  pub high : ℕ

abbrev pub is_up_to : ℕ → Events → Bool
is_up_to mark events = nat_le events.write mark

abbrev pub inserts : Events → Bool
inserts events = nat_lt 0 events.inserted

abbrev pub deletes : Events → Bool
deletes events = nat_lt 0 events.deleted

abbrev pub is_above : ℕ → Events → Bool
is_above low events = nat_lt low events.write

-- above one number, and not above another
abbrev pub is_between : ℕ → ℕ → Events → Bool
is_between low high events = nat_lt low events.write && nat_le events.write high

abbrev pub count_if : (Events → Bool) → List Events → ℕ
count_if test [] = 0
count_if test (events ∷ more) = one_if (test events) + count_if test more

-- one directory for each id above what was compacted last, and one for those that a minor compaction merged above the last base
abbrev pub pieces_of : (Events → Bool) → ℕ → ℕ → List Events → ℕ
pieces_of test base compacted ids =
    count_if (λ (events : Events). is_above compacted events && test events) ids
    + one_if (list_any (λ (events : Events). is_between base compacted events && test events) ids)

abbrev pub write_of : Events → ℕ
write_of events = events.write

-- the first of these that is above a number, or 0
abbrev pub first_above : ℕ → List Events → ℕ
first_above low [] = 0
first_above low (events ∷ more) = if nat_lt low events.write then events.write else first_above low more

-- the range of the last minor job that was published with an end above the last base
abbrev pub low_by : ℕ → ℕ → Option (ℕ × ℕ × ℕ) → ℕ
low_by base low None = low
low_by base low (Some range) = if nat_lt base range.1 then range.0 else low

abbrev pub low_after : ℕ → ℕ → Job → ℕ
low_after base low job = if is_kind kind.Minor job.kind then low_by base low job.published else low

abbrev pub minor_low : ℕ → List Job → List Events → ℕ
minor_low base jobs ids = fold (low_after base) (first_above base ids) jobs

abbrev pub low_for : JobKind → ℕ → List Job → List Events → ℕ
low_for kind.Minor base jobs ids = minor_low base jobs ids
low_for kind.Major base jobs ids = 1

abbrev pub pieces_among : JobKind → List Job → List Events → Pieces
pieces_among kind jobs ids = record {
  ins = pieces_of inserts (base_high jobs) (any_high jobs) ids;
  del = pieces_of deletes (base_high jobs) (any_high jobs) ids;
  base = nat_lt 0 (base_high jobs);
  low = low_for kind (base_high jobs) jobs ids;
  high = greatest (map write_of ids);
}

abbrev pub pieces_up_to : State → ℕ → List ℕ → JobKind → ℕ → Pieces
pieces_up_to state table partition kind mark =
    pieces_among kind (jobs_in state table partition) (filter (is_up_to mark) (events_in state table partition))

-- under its own watermark, which is that of its Picked
abbrev pub mark_by : Option ℕ → ℕ
mark_by None = 0
mark_by (Some mark) = mark

abbrev pub pieces_for : State → Job → Pieces
pieces_for state job = pieces_up_to state job.table job.partition job.kind (mark_by job.watermark)

-- it would merge nothing: one directory of either kind at most, or one in all
abbrev pub is_empty_of : JobKind → Pieces → Bool
is_empty_of kind.Minor pieces = nat_le pieces.ins 1 && nat_le pieces.del 1
is_empty_of kind.Major pieces = nat_lt (pieces.ins + pieces.del + one_if pieces.base) 2

-- ---- who still needs what a published job covers: the open transactions below its mark

-- the lowest open transaction below a mark
abbrev pub holder : State → ℕ → Option ℕ
holder state mark = if_below mark (first_open 1 state.transactions)

abbrev pub is_past_by : State → Option (ℕ × ℕ × ℕ) → Bool
is_past_by state None = false
is_past_by state (Some range) = is_none (holder state range.2)

-- it is published, and no transaction below its mark is open
abbrev pub is_past : State → Job → Bool
is_past state job = is_past_by state job.published

-- ---- what is due

-- the rows up to the last base, and what was written above it
abbrev pub base_rows : ℕ → List Events → ℕ
base_rows base ids =
    sum_by (λ (events : Events). events.inserted) (filter (is_up_to base) ids) - sum_by (λ (events : Events). events.deleted) (filter (is_up_to base) ids)

abbrev pub delta_rows : ℕ → List Events → ℕ
delta_rows base ids = sum_by (λ (events : Events). events.inserted + events.deleted) (filter (is_above base) ids)

-- much was written above the base, in thousandths of its rows
abbrev pub is_much : ℕ → ℕ → List Events → Bool
is_much percent base ids = nat_lt 0 base && nat_lt (percent * base_rows base ids) (1000 * delta_rows base ids)

abbrev pub kind_over : ℕ → JobKind
kind_over base = if nat_lt 0 base then kind.Minor else kind.Major

-- the kind that the thresholds ask for: how many deltas, and how much was written
abbrev pub asked_kind : ℕ → ℕ → ℕ → Pieces → List Events → Option JobKind
asked_kind number percent base pieces ids =
    if is_much percent base ids then Some kind.Major
    else if nat_lt number (pieces.ins + pieces.del) then Some (kind_over base) else None

abbrev pub unless_empty : Pieces → Option JobKind → Option JobKind
unless_empty pieces None = None
unless_empty pieces (Some kind) = if is_empty_of kind pieces then None else Some kind

abbrev pub due_among : ℕ → ℕ → List Job → List Events → Option JobKind
due_among number percent jobs ids =
    unless_empty (pieces_among kind.Major jobs ids)
    (asked_kind number percent (base_high jobs) (pieces_among kind.Major jobs ids) ids)

abbrev pub last_job : List Job → Option Job
last_job [] = None
last_job (job ∷ []) = Some job
last_job (job ∷ next ∷ more) = last_job (next ∷ more)

abbrev pub failed_behind : Option ℕ → Option Job → Bool
failed_behind opening None = false
failed_behind opening (Some job) = is_failed job && is_some job.ended && is_behind_place opening (mark_by job.ended)

abbrev pub is_live_one : Option Table → Bool
is_live_one None = false
is_live_one (Some table) = table.is_live

-- nothing is asked for in a partition of a dropped table, where a job is busy, or where the last one failed since the store was opened
abbrev pub may_ask : State → ℕ → List ℕ → Bool
may_ask state table partition =
    is_live_one (numbered state.tables table)
    && (not (has_busy state table partition) && not (failed_behind state.openings.last (last_job (jobs_in state table partition))))

unfoldable pub due : State → ℕ → List ℕ → Option JobKind
due state table partition =
    if may_ask state table partition
    then due_among (delta_threshold state) (percent_threshold state) (jobs_in state table partition)
    (filter (is_up_to (watermark state table)) (events_in state table partition))
    else None
