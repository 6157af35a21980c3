-- What SHOW lists: tables of texts and numbers that are read off the whole book at the statement's Start, so off the state that the
-- entries before it leave. Their rows come in row order, each once. Names, texts of partitions, states and modes are strings, so
-- they are escaped as strings are; the numbers of transactions are BIGINTs. A statement sees its own transaction open, and not yet
-- started. Source: Hive Language Manual, DDL (Show Tables, Show Partitions, Show Transactions, Show Locks, Show Compactions), and Hive
-- Transactions (locks: shared, exclusive; aborted transactions stay until what they wrote is cleaned; a compaction's states). Which
-- columns are shown, that a partition is listed once a row was inserted in it, and that a job of a dropped table has failed, is this
-- project's profile.
use Rattle.std.specs.Prelude.{ℕ, ◌+◌, ◌==◌, ◌&&◌, ◌||◌, nat_lt, nat_eq, pos, Bool, true, false, not, is_some, if◌then◌else◌, Option, Some, None, List, [], ◌∷◌, ◌++◌, map, codes}
use Rattle.std.specs.List.{flat_map, list_any, dedup}
use Rattle.std.specs.Ordering.{eq_by_cmp}
use Rattle.std.specs.Cmp.Lexicographic.{pointwise}
use Rattle.hv_base.specs.Sorting.{sorted_by}
use Rattle.hv_base.specs.declared.ids.Touch.{Touch}
use Rattle.hv_meaning.specs.hv_typing.specs.hv_logic.specs.hv_ast.specs.declared.statement.Show.{Show}
use Rattle.hv_meaning.specs.hv_typing.specs.hv_logic.specs.hv_ast.specs.declared.statement.Show.TheVariants as show
use Rattle.hv_meaning.specs.hv_typing.specs.hv_logic.specs.hv_ast.specs.declared.statement.Stmt.{Stmt}
use Rattle.hv_meaning.specs.hv_typing.specs.hv_logic.specs.hv_ast.specs.declared.statement.Stmt.TheVariants as stmt
use Rattle.hv_locks.specs.declared.table.Lock.{Lock}
use Rattle.hv_value.specs.declared.row.Row.{Row}
use Rattle.hv_value.specs.declared.value.Value.{Value}
use Rattle.hv_value.specs.declared.value.Value.TheVariants as value
use Rattle.hv_value.specs.Order.{row_cmp}
use Rattle.hv_meaning.specs.hv_typing.specs.hv_logic.specs.declared.meaning.Meaning.{Meaning}
use Rattle.hv_meaning.specs.hv_typing.specs.hv_logic.specs.declared.meaning.Meaning.TheVariants.{Listing, Plain}
use Rattle.hv_history.specs.declared.entry.JobKind.{JobKind}
use Rattle.hv_history.specs.declared.entry.JobKind.TheVariants as kind
use Rattle.hv_history.specs.declared.state.Table.{Table}
use Rattle.hv_history.specs.declared.state.Ending.{Ending}
use Rattle.hv_history.specs.declared.state.Ending.TheVariants.{Committed, Aborted}
use Rattle.hv_history.specs.declared.state.Transaction.{Transaction}
use Rattle.hv_history.specs.declared.shown.Shown.{Shown}
use Rattle.hv_history.specs.States.{State, Job, numbered}
use Rattle.hv_history.specs.Standing.{is_open, is_started, locks_of, is_named, first_open, if_below}

-- ---- rows in row order, each once

abbrev pub in_order : List Row → List Row
in_order rows = dedup (eq_by_cmp row_cmp) (sorted_by row_cmp rows)

abbrev pub text_row : List ℕ → Row
text_row text = record { values = value.Str text ∷ [] }

-- what each of these gives, behind its number, where the first one's is given
abbrev pub each_from : (ℕ → Transaction → List Row) → ℕ → List Transaction → List Row
each_from rows number [] = []
each_from rows number (transaction ∷ transactions) = rows number transaction ++ each_from rows (number + 1) transactions

-- ---- SHOW TABLES: the names of the live tables

abbrev pub name_rows : Table → List Row
name_rows table = if table.is_live then text_row table.info.shape.name ∷ [] else []

abbrev pub table_rows : List Table → List Row
table_rows tables = flat_map name_rows tables

-- ---- SHOW PARTITIONS: the texts of the partitions in which some commit inserted rows of the live table of that name

abbrev pub number_named : List ℕ → List Table → Option ℕ
number_named name [] = None
number_named name (table ∷ tables) = if is_named name table then Some table.info.table.0 else number_named name tables

abbrev pub inserted_row : ℕ → Touch → List Row
inserted_row table touch =
    if (touch.table.0 == table) && nat_lt 0 touch.inserted then text_row touch.partition ∷ [] else []

abbrev pub inserted_by : ℕ → Option Ending → List Row
inserted_by table (Some (Committed place wrote)) = flat_map (inserted_row table) wrote
inserted_by table _ = []

abbrev pub inserted_of : ℕ → ℕ → Transaction → List Row
inserted_of table number transaction = inserted_by table transaction.ending

abbrev pub partition_rows : Option ℕ → List Transaction → List Row
partition_rows None transactions = []
partition_rows (Some table) transactions = each_from (inserted_of table) 1 transactions

-- ---- SHOW TRANSACTIONS: the open ones, and the aborted ones that have a write id of a live table which isn't forgotten

-- a write id, behind the number of its table
abbrev pub is_kept_in : ℕ → Option Table → Bool
is_kept_in write None = false
is_kept_in write (Some table) = table.is_live && not (list_any (λ other. other == write) table.forgotten)

abbrev pub is_kept : List Table → ℕ × ℕ → Bool
is_kept tables given = is_kept_in given.1 (numbered tables given.0)

abbrev pub has_kept : List Table → Transaction → Bool
has_kept tables transaction = list_any (is_kept tables) transaction.given

abbrev pub transaction_row : ℕ → List ℕ → List ℕ → Row
transaction_row number state session =
    record { values = value.Big (pos number) ∷ value.Str state ∷ value.Str session ∷ [] }

abbrev pub stood_rows : ℕ → List ℕ → Bool → Option Ending → List Row
stood_rows number session kept None = transaction_row number (codes "open") session ∷ []
stood_rows number session kept (Some (Aborted place cause)) =
    if kept then transaction_row number (codes "aborted") session ∷ [] else []
stood_rows number session kept (Some ending) = []

abbrev pub transaction_rows : List Table → ℕ → Transaction → List Row
transaction_rows tables number transaction =
    stood_rows number transaction.session (has_kept tables transaction) transaction.ending

-- ---- SHOW LOCKS: the names that open started transactions lock, each exclusive where one of its locks on it is

abbrev pub is_exclusive_on : List ℕ → Lock → Bool
is_exclusive_on name lock = lock.exclusive && pointwise nat_eq lock.name name

abbrev pub mode_text : Bool → List ℕ
mode_text exclusive = if exclusive then codes "exclusive" else codes "shared"

abbrev pub lock_row : ℕ → List Lock → Lock → Row
lock_row number locks lock = record {
  values =
      value.Str lock.name ∷ value.Big (pos number)
      ∷ value.Str (mode_text (list_any (is_exclusive_on lock.name) locks)) ∷ [];
}

abbrev pub held_rows : ℕ → List Lock → List Row
held_rows number locks = map (lock_row number locks) locks

abbrev pub lock_rows : ℕ → Transaction → List Row
lock_rows number transaction =
    if is_open transaction && is_started transaction then held_rows number (locks_of transaction) else []

-- ---- SHOW COMPACTIONS: the jobs, and of one that is ready for cleaning the lowest open transaction below its mark

abbrev pub kind_text : JobKind → List ℕ
kind_text kind.Minor = codes "minor"
kind_text kind.Major = codes "major"

-- what happened to a job
pub record JobSteps : Type 0 where
  pub picked : Bool
  pub published : Bool
  pub nothing : Bool
  pub cleaned : Bool
  pub failed : Bool

abbrev pub steps_of : Job → JobSteps
steps_of job = record {
  picked = is_some job.watermark;
  published = is_some job.published;
  nothing = job.is_empty;
  cleaned = job.is_cleaned;
  failed = is_some job.failure;
}

-- its directories stand, and those that it covers weren't all removed, of a live table
abbrev pub stands_ready : Bool → JobSteps → Bool
stands_ready live steps = live && (not steps.failed && (not steps.nothing && (steps.published && not steps.cleaned)))

abbrev pub has_ended_well : JobSteps → Bool
has_ended_well steps = steps.nothing || (steps.published && steps.cleaned)

abbrev pub unended_text : JobSteps → List ℕ
unended_text steps =
    if steps.published then codes "ready for cleaning"
    else if steps.picked then codes "working" else codes "initiated"

abbrev pub stage_text : Bool → JobSteps → List ℕ
stage_text live steps =
    if steps.failed then codes "failed"
    else if has_ended_well steps then codes "succeeded"
    else if live then unended_text steps else codes "failed"

-- whom a job that was published under this mark waits for, by the lowest open transaction
abbrev pub needed_by : Option ℕ → Bool → Option ℕ → Option ℕ
needed_by lowest ready None = None
needed_by lowest ready (Some mark) = if ready then if_below mark lowest else None

abbrev pub number_or_null : Option ℕ → Value
number_or_null None = value.Null
number_or_null (Some number) = value.Big (pos number)

-- of a job of that number: its table's name, its partition, its kind, and what is told of it
abbrev pub job_row : ℕ → List ℕ → List ℕ → JobKind → List ℕ → Option ℕ → Row
job_row number name partition kind stage needed = record {
  values =
      value.Big (pos number) ∷ value.Str name ∷ value.Str partition ∷ value.Str (kind_text kind) ∷ value.Str stage
      ∷ number_or_null needed ∷ [];
}

abbrev pub mark_of_range : Option (ℕ × ℕ × ℕ) → Option ℕ
mark_of_range None = None
mark_of_range (Some range) = Some range.2

abbrev pub shown_name : Option Table → List ℕ
shown_name None = []
shown_name (Some table) = table.info.shape.name

abbrev pub shown_live : Option Table → Bool
shown_live None = false
shown_live (Some table) = table.is_live

-- of a job of this table
abbrev pub row_of_job : Option Table → Option ℕ → ℕ → Job → Row
row_of_job table lowest number job =
    job_row number (shown_name table) job.partition job.kind (stage_text (shown_live table) (steps_of job))
    (needed_by lowest (stands_ready (shown_live table) (steps_of job)) (mark_of_range job.published))

abbrev pub row_in : List Table → Option ℕ → ℕ → Job → Row
row_in tables lowest number job = row_of_job (numbered tables job.table) lowest number job

-- of these jobs, where the first one's number is given
abbrev pub job_rows : List Table → Option ℕ → ℕ → List Job → List Row
job_rows tables lowest number [] = []
job_rows tables lowest number (job ∷ jobs) = row_in tables lowest number job ∷ job_rows tables lowest (number + 1) jobs

-- ---- the tables

abbrev pub one_name : List ℕ → List (List ℕ)
one_name name = name ∷ []

abbrev pub transaction_names : List (List ℕ)
transaction_names = codes "txnid" ∷ codes "state" ∷ codes "session" ∷ []

abbrev pub lock_names : List (List ℕ)
lock_names = codes "table" ∷ codes "txnid" ∷ codes "mode" ∷ []

abbrev pub job_names : List (List ℕ)
job_names =
    codes "id" ∷ codes "table" ∷ codes "partition" ∷ codes "type" ∷ codes "state" ∷ codes "held_by" ∷ []

abbrev pub shows : List (List ℕ) → List Row → Option Shown
shows names rows = Some (record { names = names; rows = in_order rows })

unfoldable pub show_listed : State → Show → Option Shown
show_listed state show.Tables = shows (one_name (codes "tab_name")) (table_rows state.tables)
show_listed state (show.Partitions name) =
    shows (one_name (codes "partition")) (partition_rows (number_named name state.tables) state.transactions)
show_listed state show.Transactions = shows transaction_names (each_from (transaction_rows state.tables) 1 state.transactions)
show_listed state show.Locks = shows lock_names (each_from lock_rows 1 state.transactions)
show_listed state show.Compactions =
    shows job_names (job_rows state.tables (first_open 1 state.transactions) 1 state.jobs)

abbrev pub show_of : Stmt → Option Show
show_of (stmt.Show what) = Some what
show_of _ = None

abbrev pub listed_by : State → Option Show → Option Shown
listed_by state None = None
listed_by state (Some what) = show_listed state what

abbrev pub listed_for : State → Stmt → Option Shown
listed_for state tree = listed_by state (show_of tree)

-- nothing is said of it over its tables
abbrev pub is_plain : Meaning → Bool
is_plain Plain = true
is_plain meaning = false

-- what a statement comes to over its tables is filled with what it lists of the book; one that is refused lists nothing
abbrev pub filled : Option Shown → Option Meaning → Option Meaning
filled None meaning = meaning
filled (Some shown) None = None
filled (Some shown) (Some Plain) = Some (Listing shown.names shown.rows)
filled (Some shown) (Some meaning) = Some meaning
