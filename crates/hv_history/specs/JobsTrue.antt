-- What is true of a statement that asks for a compaction, and of its Asked; specs/Legal has it among all entries.
-- Source: Hive Language Manual, DDL (ALTER TABLE COMPACT); that it leaves a partition alone where a job is busy is this project's
-- profile.
use Rattle.std.specs.Prelude.{◌≡◌, ◌⊎◌, ℕ, ◌==◌, ◌&&◌, ◌||◌, Bool, is_none, IsFalse, Option, Some, None, List}
use Rattle.std.specs.List.{list_any}
use Rattle.hv_meaning.specs.hv_typing.specs.hv_logic.specs.hv_ast.specs.declared.table.CompactionKind.{CompactionKind}
use Rattle.hv_meaning.specs.hv_typing.specs.hv_logic.specs.hv_ast.specs.declared.table.CompactionKind.TheVariants as compaction
use Rattle.hv_base.specs.declared.ids.TableId.{TableId}
use Rattle.hv_meaning.specs.hv_typing.specs.hv_logic.specs.declared.meaning.Meaning.{Meaning}
use Rattle.hv_meaning.specs.hv_typing.specs.hv_logic.specs.declared.meaning.Meaning.TheVariants as means
use Rattle.hv_history.specs.declared.entry.JobKind.{JobKind}
use Rattle.hv_history.specs.declared.entry.JobKind.TheVariants as kind
use Rattle.hv_history.specs.declared.state.Transaction.{Transaction}
use Rattle.hv_history.specs.State.{State, Job, meaning}
use Rattle.hv_history.specs.Load.{Of, place_of_snapshot}
use Rattle.hv_history.specs.Thresholds.{is_behind_place}
use Rattle.hv_history.specs.Jobs.{is_kind, jobs_in, mark_by}

-- a partition of a table, and the kind of the compaction
pub record Ask : Type 0 where
  pub table : ℕ
  pub partition : List ℕ
  pub kind : JobKind

abbrev pub kind_of : CompactionKind → JobKind
kind_of compaction.Minor = kind.Minor
kind_of compaction.Major = kind.Major

abbrev pub ask_of : TableId → List ℕ → CompactionKind → Ask
ask_of table partition kind = record { table = table.0; partition = partition; kind = kind_of kind }

-- what a statement of this meaning asks for, and what a transaction does
abbrev pub asks_by : Option Meaning → Option Ask
asks_by (Some (means.Ask table partition kind)) = Some (ask_of table partition kind)
asks_by _ = None

abbrev pub asks_of : Transaction → Option Ask
asks_of transaction = asks_by (meaning transaction)

-- ---- what stands of it in a book

-- the job was initiated or working somewhere behind that place
abbrev pub is_busy_behind : ℕ → Job → Bool
is_busy_behind place job = is_none job.ended || is_behind_place (Some place) (mark_by job.ended)

-- and so was some job of the partition
abbrev pub was_busy : State → ℕ → Ask → Bool
was_busy state place ask = list_any (is_busy_behind place) (jobs_in state ask.table ask.partition)

abbrev pub is_asked_by : ℕ → JobKind → Job → Bool
is_asked_by txn kind job = (job.by == txn) && is_kind kind job.kind

-- the transaction has asked for it
abbrev pub has_asked : State → ℕ → Ask → Bool
has_asked state txn ask = list_any (is_asked_by txn ask.kind) (jobs_in state ask.table ask.partition)

-- ---- what is true

-- A statement asks where no job of the partition was busy behind its snapshot, and commits where one was. Its own one is: it was asked for
-- behind it. So whether it asks or commits next is a function of the book.
abbrev pub stands_for : State → Transaction → Ask → Bool
stands_for state transaction ask = was_busy state (place_of_snapshot transaction.snapshot) ask

-- it asks for this now
pub record AsksNow (state : State) (ask : Ask) (transaction : Transaction) : Type 0 where
  pub asks : asks_of transaction ≡ Some ask
  pub now : IsFalse (stands_for state transaction ask)

-- The initiator asks for what is due at that time, which no entry says; a transaction for what its statement asks for.
abbrev pub IsAskedFor : State → Ask → ℕ → Type 0
IsAskedFor state ask by = (by ≡ 0) ⊎ Of state by (AsksNow state ask)
