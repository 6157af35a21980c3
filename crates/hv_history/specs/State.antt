-- What a book means: one fold over its entries, from the left. An entry changes the state by what it says and
-- by the state before it, and by nothing else.
-- Source: the Hive manual, Hive Transactions, and Hive Transactions: Basic Design.
use Rattle.std.specs.Prelude.{if◌then◌else◌, ◌≡◌, ℕ, zero, suc, ◌+◌, ◌==◌, Bool, true, false, not, IsFalse, Option, Some, None, List, [], ◌∷◌, ◌++◌, map, filter, fold, slice_get, length}
use Rattle.std.specs.Ordering.{is_eq}
use Rattle.std.specs.List.{flat_map, list_any, AllByRecursion}
use Rattle.std.specs.Option.{option_map, option_to_list}
use Rattle.hv_base.specs.declared.ids.Touch.{Touch}
use Rattle.hv_meaning.specs.hv_typing.specs.hv_logic.specs.hv_ast.specs.declared.statement.Stmt.{Stmt}
use Rattle.hv_meaning.specs.hv_typing.specs.hv_logic.specs.hv_ast.specs.declared.statement.Stmt.TheVariants as stmt
use Rattle.hv_built.specs.hv_grammar.specs.Texts.{tree_of}
use Rattle.hv_meaning.specs.hv_typing.specs.hv_logic.specs.declared.catalog.Shape.{Shape}
use Rattle.hv_meaning.specs.hv_typing.specs.hv_logic.specs.declared.catalog.TableInfo.{TableInfo}
use Rattle.hv_meaning.specs.hv_typing.specs.hv_logic.specs.declared.effect.Effect.{Effect}
use Rattle.hv_meaning.specs.hv_typing.specs.hv_logic.specs.declared.effect.Found.{Found}
use Rattle.hv_meaning.specs.hv_typing.specs.hv_logic.specs.declared.meaning.Meaning.{Meaning}
use Rattle.hv_meaning.specs.hv_typing.specs.hv_logic.specs.declared.seen.Seen.{Seen}
use Rattle.hv_meaning.specs.hv_typing.specs.hv_logic.specs.declared.meaning.Meaning.TheVariants.{Change}
use Rattle.hv_meaning.specs.hv_typing.specs.hv_logic.specs.Shapes.{shape_of}
use Rattle.hv_base.specs.Sorting.{sorted_by}
use Rattle.hv_meaning.specs.hv_typing.specs.hv_logic.specs.Rows.{found_cmp}
use Rattle.hv_meaning.specs.Meaning.{meaning_of}
use Rattle.hv_meaning.specs.hv_route.specs.Routes.{numbered_rows}
use Rattle.hv_history.specs.declared.entry.Entry.{Entry}
use Rattle.hv_history.specs.declared.entry.Entry.TheVariants as entry
use Rattle.hv_history.specs.declared.entry.JobKind.{JobKind}
use Rattle.hv_history.specs.declared.entry.Cause.{Cause}
use Rattle.hv_history.specs.declared.entry.Cause.TheVariants as cause
use Rattle.hv_history.specs.declared.entry.JobCause.{JobCause}
use Rattle.hv_history.specs.declared.entry.JobCause.TheVariants as job_cause
pub use Rattle.hv_history.specs.declared.state.Written.{Written}
pub use Rattle.hv_history.specs.declared.state.Statement.{Statement}
pub use Rattle.hv_history.specs.declared.state.Table.{Table}
pub use Rattle.hv_history.specs.declared.state.Snapshot.{Snapshot}
pub use Rattle.hv_history.specs.declared.state.Ending.{Ending}
pub use Rattle.hv_history.specs.declared.state.Ending.TheVariants.{Committed, Aborted, Made, Dropped}
pub use Rattle.hv_history.specs.declared.state.Transaction.{Transaction}
pub use Rattle.hv_history.specs.States.{Job, Openings, State, no_openings, nothing_yet, numbered}
use Rattle.hv_history.specs.Shown.{listed_for, filled}

-- the one at a place changed
abbrev pub changed_at : {A : Type 0} → (A → A) → List A → ℕ → List A
changed_at f [] n = []
changed_at f (x ∷ xs) zero = f x ∷ xs
changed_at f (x ∷ xs) (suc n) = x ∷ changed_at f xs n

-- the one of that number, from 1, changed
abbrev pub changed : {A : Type 0} → (A → A) → List A → ℕ → List A
changed f xs zero = xs
changed f xs (suc n) = changed_at f xs n

-- ---- the rows that stand in a table: what its writes inserted, without what its writes deleted, by partition
-- and identifier

abbrev pub is_deleted : List Written → Found → Bool
is_deleted writes found = list_any (λ (other : Found). is_eq (found_cmp other found)) (flat_map (λ (written : Written). written.deletes) writes)

unfoldable pub content_of : List Written → List Found
content_of writes = sorted_by found_cmp (filter (λ found. not (is_deleted writes found)) (flat_map (λ (written : Written). written.inserts) writes))

abbrev pub seen_table : Table → Seen
seen_table table = record { info = table.info; rows = content_of table.writes }

-- the live tables with their rows, which is what a statement sees
abbrev pub seen_tables : List Table → List Seen
seen_tables tables = map seen_table (filter (λ (table : Table). table.is_live) tables)

-- ---- what a statement comes to in a state: over its tables, and a SHOW over the whole of it; one of a form that isn't built, and a
-- text that is no statement, have no meaning

abbrev pub means : State → Option Stmt → Option Meaning
means state None = None
means state (Some tree) = filled (listed_for state tree) (meaning_of (seen_tables state.tables) tree)

unfoldable pub meaning_in : State → List ℕ → Option Meaning
meaning_in state text = means state (tree_of text)

-- ---- the effect of a statement on a table of this shape: its inserted rows in row order, numbered from 0 in each
-- partition and bucket, with the write id and the number of the statement in its transaction

abbrev pub written_by : Shape → ℕ → ℕ → Effect → Written
written_by shape write statement effect =
    record {
      write = write;
      statement = statement;
      inserts = numbered_rows shape write statement effect.inserts;
      deletes = effect.deletes;
    }

-- the write id that a transaction was given in a table
abbrev pub given_in : ℕ → List (ℕ × ℕ) → Option ℕ
given_in table [] = None
given_in table (given ∷ more) = if given.0 == table then Some given.1 else given_in table more

-- what a statement of this meaning and number writes to its table, under the ids of its transaction
abbrev pub writes_of : Option Meaning → ℕ → List (ℕ × ℕ) → List (ℕ × Written)
writes_of (Some (Change info effect)) statement given =
    option_to_list (option_map (λ write. (info.table.0, written_by info.shape write statement effect)) (given_in info.table.0 given))
writes_of _ statement given = []

-- ---- a transaction's statements

-- the statement of that number in a transaction: the one that opened it is number 0
abbrev pub statement_of : Transaction → ℕ → Option Statement
statement_of transaction number = slice_get transaction.statements number

abbrev pub statement_meaning : Option Statement → Option Meaning
statement_meaning None = None
statement_meaning (Some statement) = statement.meaning

-- what the statement that opened it came to at its Start
abbrev pub meaning : Transaction → Option Meaning
meaning transaction = statement_meaning (statement_of transaction 0)

abbrev pub statement_tree : Option Statement → Option Stmt
statement_tree None = None
statement_tree (Some statement) = tree_of statement.text

-- the tree of the text that opened it
abbrev pub opening_tree : Transaction → Option Stmt
opening_tree transaction = statement_tree (statement_of transaction 0)

-- all that its statements wrote, each behind the number of its table
abbrev pub all_written : Transaction → List (ℕ × Written)
all_written transaction = flat_map (λ (statement : Statement). statement.wrote) transaction.statements

-- ---- one entry

-- this happens once: what comes later changes nothing
abbrev pub first_of : {A : Type 0} → Option A → A → Option A
first_of None now = Some now
first_of (Some before) now = Some before

abbrev pub first_known : {A : Type 0} → Option A → Option A → Option A
first_known None now = now
first_known (Some before) now = Some before

abbrev pub opened : List ℕ → ℕ → List ℕ → Transaction
opened session number text =
    record {
      session = session;
      statements = record { number = number; text = text; meaning = None; wrote = [] } ∷ [];
      snapshot = None;
      given = [];
      ending = None;
    }

-- a statement means from its Start on what it comes to there
abbrev pub meant_in : State → Statement → Statement
meant_in state statement = record statement { meaning = first_known statement.meaning (meaning_in state statement.text) }

abbrev pub started : State → ℕ → Transaction → Transaction
started state number transaction =
    record transaction {
      statements = changed_at (meant_in state) transaction.statements number;
      snapshot = first_of transaction.snapshot (record { place = state.entries; tables = state.tables; opened = length state.transactions });
    }

abbrev pub given_id : ℕ → ℕ → Transaction → Transaction
given_id table write transaction = record transaction { given = transaction.given ++ (table, write) ∷ [] }

-- a statement has written what it means
abbrev pub wrote_as : List (ℕ × ℕ) → ℕ → Statement → Statement
wrote_as given number statement = record statement { wrote = writes_of statement.meaning number given }

abbrev pub did : ℕ → Transaction → Transaction
did number transaction =
    record transaction { statements = changed_at (wrote_as transaction.given number) transaction.statements number }

abbrev pub ended : Ending → Transaction → Transaction
ended ending transaction = record transaction { ending = Some ending }

-- a commit is the end of the statement that opened the transaction, which writes what it means
abbrev pub committed : ℕ → List Touch → Transaction → Transaction
committed place wrote transaction = ended (Committed place wrote) (did 0 transaction)

-- a transaction that has ended changes no more
abbrev pub unless_ended : Option Ending → Transaction → Transaction → Transaction
unless_ended None transaction next = next
unless_ended (Some ending) transaction next = transaction

abbrev pub while_open : (Transaction → Transaction) → Transaction → Transaction
while_open f transaction = unless_ended transaction.ending transaction (f transaction)

abbrev pub owned : ℕ → Table → Table
owned txn table = record table { owners = table.owners ++ txn ∷ [] }

abbrev pub written_to : Written → Table → Table
written_to written table = record table { writes = table.writes ++ written ∷ [] }

-- the tables behind these writes, one after another
abbrev pub tables_behind : List (ℕ × Written) → List Table → List Table
tables_behind [] tables = tables
tables_behind (written ∷ more) tables = tables_behind more (changed (written_to written.1) tables written.0)

abbrev pub commits : Option Transaction → List (ℕ × Written)
commits None = []
commits (Some transaction) = all_written (did 0 transaction)

abbrev pub new_table : TableInfo → Table
new_table info = record { info = info; is_live = true; owners = []; writes = []; forgotten = [] }

-- the shape where no text gives one
abbrev pub no_shape : Shape
no_shape = record { name = []; columns = []; parts = []; bucketed = []; buckets = 0 }

-- a Create makes a table of the shape that its text gives, and so there are as many tables as Creates
abbrev pub created_shape : Option Stmt → Shape
created_shape (Some (stmt.CreateTable create)) = shape_of create
created_shape _ = no_shape

abbrev pub made_shape : Option Transaction → Shape
made_shape None = no_shape
made_shape (Some transaction) = created_shape (opening_tree transaction)

abbrev pub made_by : ℕ → Option Transaction → Table
made_by table transaction = new_table (record { table = record { 0 = table }; shape = made_shape transaction })

abbrev pub dropped : Table → Table
dropped table = record table { is_live = false }

abbrev pub forgot : ℕ → Table → Table
forgot write table = record table { forgotten = table.forgotten ++ write ∷ [] }

-- a job that is asked for at this place
abbrev pub asked_job : ℕ → ℕ → List ℕ → JobKind → ℕ → Job
asked_job place table partition kind by = record {
  table = table;
  partition = partition;
  kind = kind;
  by = by;
  asked = place;
  watermark = None;
  published = None;
  is_empty = false;
  is_cleaned = false;
  failure = None;
  ended = None;
}

-- its steps, each once: what comes later changes nothing
abbrev pub picked : ℕ → Job → Job
picked watermark job = record job { watermark = first_of job.watermark watermark }

-- as ended at this place
abbrev pub published_at : ℕ → ℕ × ℕ × ℕ → Job → Job
published_at place range job = record job { published = first_of job.published range; ended = first_of job.ended place }

abbrev pub empty_at : ℕ → Job → Job
empty_at place job = record job { is_empty = true; ended = first_of job.ended place }

abbrev pub failed_at : ℕ → JobCause → Job → Job
failed_at place cause job = record job { failure = first_of job.failure cause; ended = first_of job.ended place }

abbrev pub cleaned : Job → Job
cleaned job = record job { is_cleaned = true }

abbrev pub with_transaction : (Transaction → Transaction) → State → ℕ → State
with_transaction f state txn = record state { transactions = changed (while_open f) state.transactions txn }

abbrev pub with_job : (Job → Job) → State → ℕ → State
with_job f state job = record state { jobs = changed f state.jobs job }

-- ---- the openings

abbrev pub not_lost : Openings → Openings
not_lost openings = record openings { only_lost = false }

abbrev pub keeping : ℕ → Openings → Openings
keeping count openings = record openings { only_lost = false; kept = openings.kept ++ count ∷ [] }

abbrev pub aborting : Cause → Openings → Openings
aborting cause.Lost openings = openings
aborting (cause.ReadFault count) openings = keeping count openings
aborting (cause.WriteFault count) openings = keeping count openings
aborting _ openings = not_lost openings

abbrev pub failing : JobCause → Openings → Openings
failing (job_cause.ReadFault count) openings = keeping count openings
failing (job_cause.WriteFault count) openings = keeping count openings
failing _ openings = not_lost openings

-- the openings behind an entry that stands at this place
abbrev pub openings_behind : ℕ → Entry → Openings → Openings
openings_behind place (entry.Boot run) openings =
    record { count = openings.count + 1; last = Some place; only_lost = true; kept = [] }
openings_behind place (entry.Abort txn cause) openings = aborting cause openings
openings_behind place (entry.Failed job cause) openings = failing cause openings
openings_behind place _ openings = not_lost openings

-- ---- what an entry does to all but the number of entries and the openings

unfoldable pub acted : State → Entry → State
acted state (entry.Boot run) = state
acted state (entry.Opened txn session number text) =
    record state { transactions = state.transactions ++ opened session number text ∷ [] }
acted state (entry.Start txn statement) = with_transaction (started state statement) state txn.0
acted state (entry.Given txn table write) =
    record (with_transaction (given_id table.0 write.0) state txn.0) { tables = changed (owned txn.0) state.tables table.0 }
acted state (entry.Commit txn wrote) =
    record (with_transaction (committed state.entries wrote) state txn.0) {
      tables = tables_behind (commits (numbered state.transactions txn.0)) state.tables;
    }
acted state (entry.Abort txn cause) = with_transaction (ended (Aborted state.entries cause)) state txn.0
acted state (entry.Create txn table) =
    record (with_transaction (ended (Made state.entries table.0)) state txn.0) {
      tables = state.tables ++ made_by table.0 (numbered state.transactions txn.0) ∷ [];
    }
acted state (entry.Drop txn table) =
    record (with_transaction (ended (Dropped state.entries table.0)) state txn.0) { tables = changed dropped state.tables table.0 }
acted state (entry.Asked job table partition kind by) =
    record state { jobs = state.jobs ++ asked_job state.entries table.0 partition kind by ∷ [] }
acted state (entry.Picked job watermark) = with_job (picked watermark.0) state job.0
acted state (entry.Published job low high mark) =
    with_job (published_at state.entries (low.0, high.0, mark.0)) state job.0
acted state (entry.Empty job) = with_job (empty_at state.entries) state job.0
acted state (entry.Cleaned job) = with_job cleaned state job.0
acted state (entry.Failed job cause) = with_job (failed_at state.entries cause) state job.0
acted state (entry.Forgot table write) = record state { tables = changed (forgot write.0) state.tables table.0 }
-- no book that fits has one of these yet
acted state (entry.Next txn statement number text) = state
acted state (entry.Did txn statement wrote) = state
acted state (entry.Alter txn table) = state

abbrev pub after : State → Entry → State
after state event = record (acted state event) { entries = state.entries + 1; openings = openings_behind state.entries event state.openings }

-- the state that a book leaves
abbrev pub state_of : List Entry → State
state_of book = fold after nothing_yet book

-- ---- the rows of a table

abbrev pub content_in : Option Table → List Found
content_in None = []
content_in (Some table) = content_of table.writes

-- the rows that stand in the table of that number
abbrev pub content : State → ℕ → List Found
content state table = content_in (numbered state.tables table)

abbrev pub IsNoCommit : Entry → Type 0
IsNoCommit (entry.Commit txn wrote) = ⊥
IsNoCommit _ = Unit {0}

-- ---- identifiers

abbrev pub Carry : ℕ → List Found → Type 0
Carry write rows = AllByRecursion (λ (found : Found). found.id.write.0 ≡ write) rows

-- no two of these rows are one by partition and identifier: rows are numbered anew in each partition and bucket
abbrev pub Differ : List Found → Type 0
Differ [] = Unit {0}
Differ (found ∷ rows) = AllByRecursion (λ (other : Found). IsFalse (is_eq (found_cmp found other))) rows × Differ rows
