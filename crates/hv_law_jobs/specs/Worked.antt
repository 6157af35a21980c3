-- Books with compaction jobs, worked out by hand: what a job would merge, what makes it empty, and when one is due.
use Rattle.std.specs.Prelude.{◌≡◌, ℕ, ◌+◌, Bool, true, false, Option, Some, None, List, [], ◌∷◌, ◌++◌, filter, codes}
use Rattle.std.specs.Option.{option_map}
use Rattle.hv_base.specs.declared.ids.Touch.{Touch}
use Rattle.hv_history.specs.declared.entry.Entry.{Entry}
use Rattle.hv_history.specs.declared.entry.Entry.TheVariants as entry
use Rattle.hv_history.specs.declared.entry.Cause.TheVariants as cause
use Rattle.hv_history.specs.declared.entry.JobCause.TheVariants as job_cause
use Rattle.hv_history.specs.declared.entry.JobKind.{JobKind}
use Rattle.hv_history.specs.declared.entry.JobKind.TheVariants.{Minor, Major}
use Rattle.hv_history.specs.State.{state_of}
use Rattle.hv_history.specs.Thresholds.{count_in, thousandths_in}
use Rattle.hv_history.specs.Jobs.{Events, Pieces, events_in, watermark, pieces_up_to, is_empty_of, is_up_to, jobs_in, due_among, has_busy, has_succeeded, holder, failed_behind, last_job}
use Rattle.hv_history.specs.JobsTrue.{Ask, was_busy, has_asked}

-- ---- entries

abbrev pub north : List ℕ
north = codes "n"

abbrev pub south : List ℕ
south = codes "s"

abbrev pub opened : ℕ → Entry
opened txn = entry.Opened (record { 0 = txn }) (codes "main") txn []

abbrev pub given : ℕ → ℕ → Entry
given txn write = entry.Given (record { 0 = txn }) (record { 0 = 1 }) (record { 0 = write })

abbrev pub touch : List ℕ → ℕ → ℕ → Touch
touch partition inserted deleted = record { table = record { 0 = 1 }; partition = partition; inserted = inserted; deleted = deleted }

abbrev pub committed : ℕ → List Touch → Entry
committed txn wrote = entry.Commit (record { 0 = txn }) wrote

-- the store is opened, and transaction 1 makes table 1
abbrev pub made : List Entry
made = entry.Boot 0 ∷ opened 1 ∷ entry.Create (record { 0 = 1 }) (record { 0 = 1 }) ∷ []

-- transaction n + 1 commits under write id n
abbrev pub writes : ℕ → List Touch → List Entry
writes n wrote = opened (n + 1) ∷ given (n + 1) n ∷ committed (n + 1) wrote ∷ []

-- so many rows are inserted in the north, or deleted there
abbrev pub inserts : ℕ → ℕ → List Entry
inserts n rows = writes n (touch north rows 0 ∷ [])

abbrev pub deletes : ℕ → ℕ → List Entry
deletes n rows = writes n (touch north 0 rows ∷ [])

abbrev pub is_open : ℕ → List Entry
is_open n = opened (n + 1) ∷ given (n + 1) n ∷ []

abbrev pub is_aborted : ℕ → List Entry
is_aborted n = opened (n + 1) ∷ given (n + 1) n ∷ entry.Abort (record { 0 = n + 1 }) cause.Memory ∷ []

abbrev pub asked_by : ℕ → JobKind → ℕ → Entry
asked_by job kind by = entry.Asked (record { 0 = job }) (record { 0 = 1 }) north kind by

abbrev pub asked : ℕ → JobKind → Entry
asked job kind = asked_by job kind 0

abbrev pub picked : ℕ → ℕ → Entry
picked job mark = entry.Picked (record { 0 = job }) (record { 0 = mark })

abbrev pub published : ℕ → ℕ → ℕ → ℕ → Entry
published job low high mark = entry.Published (record { 0 = job }) (record { 0 = low }) (record { 0 = high }) (record { 0 = mark })

-- a job of the north that was asked for, picked and published
abbrev pub ran : ℕ → JobKind → ℕ → ℕ → ℕ → List Entry
ran job kind low high mark = asked job kind ∷ picked job high ∷ published job low high mark ∷ []

-- ---- what is asked

abbrev pub events : ℕ → ℕ → ℕ → Events
events write inserted deleted = record { write = write; inserted = inserted; deleted = deleted }

abbrev pub pieces : ℕ → ℕ → Bool → ℕ → ℕ → Pieces
pieces ins del base low high = record { ins = ins; del = del; base = base; low = low; high = high }

-- of a job of the north that is picked behind these entries
abbrev pub would : List Entry → JobKind → Pieces
would book kind = pieces_up_to (state_of book) 1 north kind (watermark (state_of book) 1)

abbrev pub would_be_empty : List Entry → JobKind → Bool
would_be_empty book kind = is_empty_of kind (would book kind)

-- what a statement asks for, in the north
abbrev pub asking : JobKind → Ask
asking kind = record { table = 1; partition = north; kind = kind }

-- what is due in the north under these thresholds
abbrev pub asks : ℕ → ℕ → List Entry → Option JobKind
asks number percent book =
    due_among number percent (jobs_in (state_of book) 1 north) (filter (is_up_to (watermark (state_of book) 1)) (events_in (state_of book) 1 north))

-- ---- books

-- three inserts and a delete of rows of the first of them
abbrev pub four : List Entry
four = made ++ inserts 1 2 ++ inserts 2 1 ++ inserts 3 1 ++ deletes 4 1

-- the first two ids are in a base, then there are two inserts and a delete of a row below them
abbrev pub above_a_base : List Entry
above_a_base = made ++ inserts 1 2 ++ inserts 2 1 ++ ran 1 Major 1 2 4 ++ inserts 3 1 ++ inserts 4 1 ++ deletes 5 1

-- an aborted id between two others, and an open one
abbrev pub with_aborted : List Entry
with_aborted = made ++ inserts 1 1 ++ is_aborted 2 ++ inserts 3 1

abbrev pub with_open : List Entry
with_open = made ++ inserts 1 1 ++ is_open 2 ++ inserts 3 1

-- an open one above two others, and one behind it
abbrev pub below_open : List Entry
below_open = made ++ inserts 1 1 ++ inserts 2 1 ++ is_open 3 ++ inserts 4 1

-- one commit touches both partitions, another the south alone
abbrev pub two_partitions : List Entry
two_partitions = made ++ writes 1 (touch north 1 0 ∷ touch south 2 0 ∷ []) ++ writes 2 (touch south 1 1 ∷ []) ++ inserts 3 1

-- a minor job of two ids, and behind it three inserts and a delete of a row that they are above
abbrev pub three_behind : List Entry
three_behind = made ++ inserts 1 1 ++ inserts 2 1 ++ ran 1 Minor 1 2 4 ++ inserts 3 1 ++ inserts 4 1 ++ inserts 5 1 ++ deletes 6 1

-- a minor job, and an insert behind it
abbrev pub behind_a_minor : List Entry
behind_a_minor = made ++ inserts 1 1 ++ inserts 2 1 ++ ran 1 Minor 1 2 4 ++ inserts 3 1

-- a minor job and then a base over more, and an insert behind it
abbrev pub behind_both : List Entry
behind_both = behind_a_minor ++ ran 2 Major 1 3 5 ++ inserts 4 1 ++ inserts 5 1

abbrev pub one : List Entry
one = made ++ inserts 1 1

-- a job that had nothing to merge
abbrev pub one_and_nothing : List Entry
one_and_nothing = one ++ asked 1 Minor ∷ picked 1 1 ∷ entry.Empty (record { 0 = 1 }) ∷ []

-- ten and eleven inserts of one row
abbrev pub ten : List Entry
ten = made ++ inserts 1 1 ++ inserts 2 1 ++ inserts 3 1 ++ inserts 4 1 ++ inserts 5 1 ++ inserts 6 1 ++ inserts 7 1 ++ inserts 8 1 ++ inserts 9 1 ++ inserts 10 1

abbrev pub eleven : List Entry
eleven = ten ++ inserts 11 1

-- a base of ten rows, and what is written above it
abbrev pub based : List Entry
based = made ++ inserts 1 4 ++ inserts 2 6 ++ ran 1 Major 1 2 4

abbrev pub based_and_one : List Entry
based_and_one = based ++ inserts 3 1

abbrev pub based_and_two : List Entry
based_and_two = based ++ inserts 3 1 ++ inserts 4 1

-- eleven inserts above a base of a thousand rows
abbrev pub based_and_many : List Entry
based_and_many =
    made ++ inserts 1 500 ++ inserts 2 500 ++ ran 1 Major 1 2 4
    ++ inserts 3 1 ++ inserts 4 1 ++ inserts 5 1 ++ inserts 6 1 ++ inserts 7 1 ++ inserts 8 1 ++ inserts 9 1 ++ inserts 10 1 ++ inserts 11 1 ++ inserts 12 1 ++ inserts 13 1

-- what a job would merge
pub record MergedByHand : Type 0 where
  -- without a job
  pub events_four : events_in (state_of four) 1 north ≡ events 1 2 0 ∷ events 2 1 0 ∷ events 3 1 0 ∷ events 4 0 1 ∷ []
  pub minor_four : would four Minor ≡ pieces 3 1 false 1 4
  pub major_four : would four Major ≡ pieces 3 1 false 1 4
  -- a minor job above a base: its range begins behind the base
  pub minor_above : would above_a_base Minor ≡ pieces 2 1 true 3 5
  pub minor_full : would_be_empty above_a_base Minor ≡ false
  pub major_above : would above_a_base Major ≡ pieces 2 1 true 1 5
  -- an aborted id has no events; the watermark goes over it
  pub aborted_mark : watermark (state_of with_aborted) 1 ≡ 3
  pub aborted_major : would with_aborted Major ≡ pieces 2 0 false 1 3
  pub aborted_full : would_be_empty with_aborted Major ≡ false
  -- no job goes past an open id
  pub open_mark : watermark (state_of with_open) 1 ≡ 1
  pub open_major : would with_open Major ≡ pieces 1 0 false 1 1
  pub open_empty : would_be_empty with_open Major ≡ true
  pub below_mark : watermark (state_of below_open) 1 ≡ 2
  pub below_major : would below_open Major ≡ pieces 2 0 false 1 2
  pub below_full : would_be_empty below_open Major ≡ false
  pub below_due : asks 1 100 below_open ≡ Some Major
  -- each partition has its own
  pub north_events : events_in (state_of two_partitions) 1 north ≡ events 1 1 0 ∷ events 3 1 0 ∷ []
  pub south_events : events_in (state_of two_partitions) 1 south ≡ events 1 2 0 ∷ events 2 1 1 ∷ []
  pub north_pieces : would two_partitions Minor ≡ pieces 2 0 false 1 3
  -- a second minor job takes the first one's directory in, with its range
  pub second_minor : would behind_a_minor Minor ≡ pieces 2 0 false 1 3
  -- and so it does with three ids and a delete of a row below them
  pub three_more : would three_behind Minor ≡ pieces 4 1 false 1 6
  -- a minor job below the last base counts for nothing
  pub minor_behind_both : would behind_both Minor ≡ pieces 2 0 true 4 5

-- what makes it empty
pub record EmptyByHand : Type 0 where
  -- one directory is nothing to merge, neither for a minor job nor for a major one
  pub one_minor : would_be_empty one Minor ≡ true
  pub one_major : would_be_empty one Major ≡ true
  -- a base and one delta are two for a major job, and one of each kind are nothing for a minor one
  pub based_major : would_be_empty based_and_one Major ≡ false
  pub based_minor : would_be_empty based_and_one Minor ≡ true
  pub nothing_above : would_be_empty based Major ≡ true

-- when one is due
pub record DueByHand : Type 0 where
  -- due at eleven deltas and not at ten, under the threshold of ten
  pub at_ten : asks 10 100 ten ≡ None
  pub at_eleven : asks 10 100 eleven ≡ Some Major
  -- under a threshold of 0 at two, since one is nothing to merge; at a threshold nothing, one past it a job
  pub at_one_over_none : asks 0 100 one ≡ None
  pub at_two_over_none : asks 0 100 (one ++ inserts 2 1) ≡ Some Major
  pub at_threshold : asks 4 100 four ≡ None
  pub past_threshold : asks 3 100 four ≡ Some Major
  -- above a base many deltas ask for a minor job, and many rows for a major one
  pub many_deltas : asks 10 100 based_and_many ≡ Some Minor
  pub few_rows : asks 10 100 based_and_one ≡ None
  pub many_rows : asks 10 100 based_and_two ≡ Some Major
  pub fewer_thousandths : asks 10 99 based_and_one ≡ Some Major
  -- nothing is due up to an open id
  pub open_due : asks 0 100 with_open ≡ None

-- what SET may say
pub record ValuesByHand : Type 0 where
  -- values of SET
  pub six_digits : count_in (codes "123456") ≡ Some 123456
  pub seven_digits : count_in (codes "1234567") ≡ None
  pub no_digits : count_in [] ≡ None
  pub no_count : count_in (codes "-1") ≡ None
  pub tenth : thousandths_in (codes "0.1") ≡ Some 100
  pub two_and_half : thousandths_in (codes "2.5") ≡ Some 2500
  pub fine : thousandths_in (codes "12.345") ≡ Some 12345
  pub whole : thousandths_in (codes "3") ≡ Some 3000
  pub point_last : thousandths_in (codes "2.") ≡ None
  pub too_wide : thousandths_in (codes "1000") ≡ None

-- how far the jobs of a partition have come
pub record StatesByHand : Type 0 where
  -- a job that is busy, one that failed since the store was opened, and one that failed before
  pub busy : has_busy (state_of (four ++ asked 1 Major ∷ [])) 1 north ≡ true
  pub elsewhere : has_busy (state_of (four ++ asked 1 Major ∷ [])) 1 south ≡ false
  pub at_work : has_busy (state_of (four ++ asked 1 Major ∷ picked 1 4 ∷ [])) 1 north ≡ true
  pub ended : has_busy (state_of (four ++ ran 1 Major 1 4 6)) 1 north ≡ false
  pub failed : failed_behind (state_of (four ++ asked 1 Major ∷ picked 1 4 ∷ entry.Failed (record { 0 = 1 }) job_cause.Memory ∷ [])).openings.last
      (last_job (jobs_in (state_of (four ++ asked 1 Major ∷ picked 1 4 ∷ entry.Failed (record { 0 = 1 }) job_cause.Memory ∷ [])) 1 north)) ≡ true
  pub failed_before : failed_behind (state_of (four ++ asked 1 Major ∷ picked 1 4 ∷ entry.Failed (record { 0 = 1 }) job_cause.Memory ∷ entry.Boot 1 ∷ [])).openings.last
      (last_job (jobs_in (state_of (four ++ asked 1 Major ∷ picked 1 4 ∷ entry.Failed (record { 0 = 1 }) job_cause.Memory ∷ entry.Boot 1 ∷ [])) 1 north)) ≡ false
  -- one that had nothing to merge has succeeded, and the next one may be asked for
  pub done : option_map has_succeeded (last_job (jobs_in (state_of one_and_nothing) 1 north)) ≡ Some true
  pub over : has_busy (state_of one_and_nothing) 1 north ≡ false
  pub failed_never : failed_behind (state_of one_and_nothing).openings.last (last_job (jobs_in (state_of one_and_nothing) 1 north)) ≡ false
  -- whether a job was busy behind a place, where one was asked for at 15 and published at 17
  pub busy_before : was_busy (state_of (four ++ ran 1 Major 1 4 6)) 16 (asking Major) ≡ true
  pub busy_after : was_busy (state_of (four ++ ran 1 Major 1 4 6)) 17 (asking Major) ≡ false
  pub busy_still : was_busy (state_of (four ++ asked 1 Major ∷ [])) 100 (asking Minor) ≡ true
  pub busy_never : was_busy (state_of four) 0 (asking Minor) ≡ false
  -- whether a transaction has asked for a compaction of that kind
  pub has_it : has_asked (state_of (four ++ asked_by 1 Major 7 ∷ [])) 7 (asking Major) ≡ true
  pub has_other : has_asked (state_of (four ++ asked_by 1 Major 7 ∷ [])) 8 (asking Major) ≡ false
  pub has_kind : has_asked (state_of (four ++ asked_by 1 Major 7 ∷ [])) 7 (asking Minor) ≡ false
  -- the lowest open transaction below a mark
  pub held : holder (state_of with_open) 4 ≡ Some 3
  pub free : holder (state_of with_open) 3 ≡ None

pub record JobsByHand : Type 0 where
  pub merged : MergedByHand
  pub empty : EmptyByHand
  pub due : DueByHand
  pub values : ValuesByHand
  pub states : StatesByHand
