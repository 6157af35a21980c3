-- How the transactions of a book stood before a place of it, by what the notes beside the whole book say, and what each gave there.
use Rattle.std.specs.Prelude.{◌≡◌, ℕ, ◌&&◌, Bool, true, false, if◌then◌else◌, Option, Some, None, List, [], ◌∷◌, length, take, codes}
use Rattle.std.specs.List.{flat_map}
use Rattle.hv_base.specs.declared.ids.Touch.{Touch}
use Rattle.hv_ast.specs.declared.statement.Stmt.{Stmt}
use Rattle.hv_logic.specs.Names.{names_in}
use Rattle.hv_logic.specs.declared.catalog.TableInfo.{TableInfo}
use Rattle.hv_value.specs.declared.row.Row.{Row}
use Rattle.hv_history.specs.declared.entry.Entry.{Entry}
use Rattle.hv_history.specs.declared.state.Table.{Table}
use Rattle.hv_history.specs.declared.state.Transaction.{Transaction}
use Rattle.hv_history.specs.State.{state_of, numbered}
use Rattle.hv_history.specs.Legal.{is_open, is_started}
use Rattle.hv_history.specs.Shown.{text_row, inserted_row, transaction_row, held_rows}
use Rattle.hv_book.specs.declared.notes.TransactionNote.{TransactionNote}
use Rattle.hv_book.specs.Past.{is_before}
use Rattle.hv_earlier.specs.declared.fates.Fate.{Fate}
use Rattle.hv_earlier.specs.declared.fates.Fate.TheVariants as fate
use Rattle.hv_showing.specs.declared.fronts.Front.{Front}

-- ---- the state before a place

abbrev pub transactions_then : List Entry → ℕ → List Transaction
transactions_then entries position = (state_of (take position entries)).transactions

abbrev pub tables_then : List Entry → ℕ → List Table
tables_then entries position = (state_of (take position entries)).tables

abbrev pub then_at : List Entry → ℕ → ℕ → Option Transaction
then_at entries position txn = numbered (transactions_then entries position) txn

-- so many transactions were opened before it
pub record IsFrontOf (entries : List Entry) (front : Front) : Type 0 where
  pub opened : front.opened ≡ length (transactions_then entries front.position)

-- what the transaction of a number gives
abbrev pub rows_at : (ℕ → Transaction → List Row) → ℕ → Option Transaction → List Row
rows_at rows number None = []
rows_at rows number (Some transaction) = rows number transaction

-- ---- by notes

-- its Start is noted before the place
abbrev pub started_in : ℕ → Option TransactionNote → Bool
started_in position None = false
started_in position (Some note) = is_before position note.started

abbrev pub runs_so : Option Fate → Bool → Bool
runs_so None started = false
runs_so (Some fate.Open) started = started
runs_so (Some fate.Committed) started = false
runs_so (Some fate.Aborted) started = false

-- it is open and started
abbrev pub is_running_in : Option Transaction → Bool
is_running_in None = false
is_running_in (Some transaction) = is_open transaction && is_started transaction

abbrev pub is_done : Option Fate → Bool
is_done None = false
is_done (Some fate.Open) = false
is_done (Some fate.Committed) = true
is_done (Some fate.Aborted) = false

-- ---- rows

abbrev pub inserted_in : ℕ → Option (List Touch) → List Row
inserted_in table None = []
inserted_in table (Some wrote) = flat_map (inserted_row table) wrote

-- the row of a transaction, for its session
abbrev pub shows_open : ℕ → Option (List ℕ) → List ℕ → List Row
shows_open number None state = []
shows_open number (Some session) state = transaction_row number state session ∷ []

-- where it stood so
abbrev pub shown_so : ℕ → Option Fate → Bool → Option (List ℕ) → List Row
shown_so number None kept session = []
shown_so number (Some fate.Open) kept session = shows_open number session (codes "open")
shown_so number (Some fate.Committed) kept session = []
shown_so number (Some fate.Aborted) kept session = if kept then shows_open number session (codes "aborted") else []

abbrev pub info_row : TableInfo → Row
info_row info = text_row info.shape.name

abbrev pub info_number : TableInfo → ℕ
info_number info = info.table.0

abbrev pub held_in : ℕ → Option Stmt → List Row
held_in number None = []
held_in number (Some tree) = held_rows number (names_in tree)
