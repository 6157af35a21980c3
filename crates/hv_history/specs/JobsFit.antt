-- Which of the entries of compaction and of forgetting fit a book; specs/Legal has them among all entries.
-- Source: Hive Transactions, compactor and cleaner.
use Rattle.std.specs.Prelude.{if◌then◌else◌, ◌≡◌, ◌⊎◌, ◌↔◌, ℕ, ◌+◌, ◌==◌, ◌&&◌, nat_eq, Bool, true, false, IsTrue, IsFalse, IsSomeAnd, Option, Some, None, List, [], ◌∷◌, length}
use Rattle.std.specs.Cmp.Lexicographic.{pointwise}
use Rattle.std.specs.List.{list_any}
use Rattle.hv_base.specs.declared.ids.Limits.{Limits}
use Rattle.hv_meaning.specs.hv_typing.specs.hv_logic.specs.hv_ast.specs.declared.table.CompactionKind.{CompactionKind}
use Rattle.hv_meaning.specs.hv_typing.specs.hv_logic.specs.hv_ast.specs.declared.table.CompactionKind.TheVariants as compaction
use Rattle.hv_meaning.specs.hv_typing.specs.hv_logic.specs.hv_ast.specs.declared.statement.Stmt.{Stmt}
use Rattle.hv_meaning.specs.hv_typing.specs.hv_logic.specs.hv_ast.specs.declared.statement.Stmt.TheVariants as stmt
use Rattle.hv_history.specs.declared.entry.JobKind.{JobKind}
use Rattle.hv_history.specs.declared.entry.JobKind.TheVariants as kind
use Rattle.hv_history.specs.declared.entry.JobCause.{JobCause}
use Rattle.hv_history.specs.declared.entry.JobCause.TheVariants as job_cause
use Rattle.hv_history.specs.declared.state.Ending.{Ending}
use Rattle.hv_history.specs.declared.state.Ending.TheVariants.{Aborted}
use Rattle.hv_history.specs.declared.state.Table.{Table}
use Rattle.hv_history.specs.declared.state.Transaction.{Transaction}
use Rattle.hv_history.specs.State.{State, Job, numbered, opening_tree}
use Rattle.hv_history.specs.Load.{HasRoom, IsRunning, Of, is_working}
use Rattle.hv_history.specs.Jobs.{is_initiated, is_ready, is_past, has_busy, watermark, pieces_for, is_empty_of, is_live_one}

-- the job of that number is there, and the fact holds of it
abbrev pub OfJob : State → ℕ → (Job → Type 0) → Type 0
OfJob state job P = IsSomeAnd (numbered state.jobs job) P

abbrev pub is_live_job : State → Job → Bool
is_live_job state job = is_live_one (numbered state.tables job.table)

-- ---- asking

abbrev pub is_of_kind : JobKind → CompactionKind → Bool
is_of_kind kind.Minor compaction.Minor = true
is_of_kind kind.Minor compaction.Major = false
is_of_kind kind.Major compaction.Minor = false
is_of_kind kind.Major compaction.Major = true

abbrev pub name_in : Option Table → List ℕ
name_in None = []
name_in (Some table) = table.info.shape.name

-- The text asks for a compaction of that kind of the table of that name. Which partition it means is what is true of it, and no
-- matter of what fits.
abbrev pub asks_to_compact : List ℕ → JobKind → Option Stmt → Bool
asks_to_compact name kind (Some (stmt.Compact compact)) = pointwise nat_eq name compact.table && is_of_kind kind compact.kind
asks_to_compact name kind _ = false

pub record IsAsker (name : List ℕ) (kind : JobKind) (transaction : Transaction) : Type 0 where
  pub running : IsRunning transaction
  pub asks : IsTrue (asks_to_compact name kind (opening_tree transaction))

pub record AskedFits (limits : Limits) (state : State) (job table : ℕ) (partition : List ℕ) (kind : JobKind) (by : ℕ) : Type 0 where
  pub live : IsTrue (is_live_one (numbered state.tables table))
  pub next : job ≡ length state.jobs + 1
  pub free : IsFalse (has_busy state table partition)
  pub asker : (by ≡ 0) ⊎ Of state by (IsAsker (name_in (numbered state.tables table)) kind)
  pub room : HasRoom limits state 1

-- ---- work

-- the first of these that is initiated, of a live table, where the first one's number is given
abbrev pub first_initiated : State → ℕ → List Job → Option ℕ
first_initiated state number [] = None
first_initiated state number (job ∷ jobs) =
    if is_initiated job && is_live_job state job then Some number else first_initiated state (number + 1) jobs

pub record PickedFits (limits : Limits) (state : State) (number mark : ℕ) (job : Job) : Type 0 where
  pub lowest : first_initiated state 1 state.jobs ≡ Some number
  pub mark_is : mark ≡ watermark state job.table
  pub room : HasRoom limits state 2

pub record PublishedFits (state : State) (low high mark : ℕ) (job : Job) : Type 0 where
  pub working : IsTrue (is_working job)
  pub live : IsTrue (is_live_job state job)
  pub some : IsFalse (is_empty_of job.kind (pieces_for state job))
  pub low_is : low ≡ (pieces_for state job).low
  pub high_is : high ≡ (pieces_for state job).high
  pub mark_is : mark ≡ length state.transactions + 1

pub record EmptyFits (state : State) (job : Job) : Type 0 where
  pub working : IsTrue (is_working job)
  pub nothing : IsTrue (is_empty_of job.kind (pieces_for state job))

-- a fault's count is kept once behind an opening, and Gone is just of a dropped table
abbrev pub JobCauseFits : State → JobCause → Type 0
JobCauseFits state (job_cause.ReadFault count) = IsFalse (list_any (λ other. other == count) state.openings.kept)
JobCauseFits state (job_cause.WriteFault count) = IsFalse (list_any (λ other. other == count) state.openings.kept)
JobCauseFits state _ = Unit {0}

abbrev pub is_gone_cause : JobCause → Bool
is_gone_cause job_cause.Gone = true
is_gone_cause _ = false

pub record FailedFits (state : State) (cause : JobCause) (job : Job) : Type 0 where
  pub working : IsTrue (is_working job)
  pub gone : IsTrue (is_gone_cause cause) ↔ IsFalse (is_live_job state job)
  pub cause_fits : JobCauseFits state cause

-- ---- cleaning

pub record CleanedFits (limits : Limits) (state : State) (job : Job) : Type 0 where
  pub ready : IsTrue (is_ready job)
  pub past : IsTrue (is_past state job)
  pub room : HasRoom limits state 1

abbrev pub is_aborted_by : Option Ending → Bool
is_aborted_by (Some (Aborted place cause)) = true
is_aborted_by _ = false

abbrev pub is_aborted_one : Option Transaction → Bool
is_aborted_one None = false
is_aborted_one (Some transaction) = is_aborted_by transaction.ending

-- the transaction of that write id was aborted
abbrev pub is_aborted_id : List Transaction → Option ℕ → Bool
is_aborted_id transactions None = false
is_aborted_id transactions (Some txn) = is_aborted_one (numbered transactions txn)

pub record ForgotFits (limits : Limits) (state : State) (write : ℕ) (table : Table) : Type 0 where
  pub live : IsTrue table.is_live
  pub aborted : IsTrue (is_aborted_id state.transactions (numbered table.owners write))
  pub kept : IsFalse (list_any (λ other. other == write) table.forgotten)
  pub room : HasRoom limits state 1
