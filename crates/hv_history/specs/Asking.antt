-- What ABORT TRANSACTIONS asks for: of the numbers that its text lists, in their order, those of other transactions that had been opened at its
-- Start and are still open. So what it asks for next is a function of the book, and one that is opened later is left alone. Source: Hive
-- Language Manual, DDL (Abort Transactions), and Hive Transactions; that the order and the Start decide is this project's profile.
use Rattle.std.specs.Prelude.{ℕ, ◌==◌, ◌&&◌, nat_lt, Bool, false, not, if◌then◌else◌, Option, Some, None, List, [], ◌∷◌, length}
use Rattle.hv_meaning.specs.hv_typing.specs.hv_logic.specs.hv_ast.specs.declared.statement.Stmt.{Stmt}
use Rattle.hv_meaning.specs.hv_typing.specs.hv_logic.specs.hv_ast.specs.declared.statement.Stmt.TheVariants as stmt
use Rattle.hv_history.specs.declared.state.Snapshot.{Snapshot}
use Rattle.hv_history.specs.declared.state.Transaction.{Transaction}
use Rattle.hv_history.specs.Standing.{is_open}
use Rattle.hv_history.specs.State.{State, numbered, opening_tree}

-- the numbers that a text lists
abbrev pub numbers_in : Option Stmt → List ℕ
numbers_in (Some (stmt.AbortTransactions txns)) = txns
numbers_in _ = []

abbrev pub listed_in : Option Transaction → ℕ
listed_in None = 0
listed_in (Some transaction) = length (numbers_in (opening_tree transaction))

-- how many transactions had been opened at a snapshot
abbrev pub opened_before : Option Snapshot → ℕ
opened_before None = 0
opened_before (Some snapshot) = snapshot.opened

abbrev pub is_there_open : Option Transaction → Bool
is_there_open None = false
is_there_open (Some transaction) = is_open transaction

-- another transaction, of those opened so far, that is open
abbrev pub is_asked : List Transaction → ℕ → ℕ → ℕ → Bool
is_asked transactions own opened number =
    not (number == own) && (not (nat_lt opened number) && is_there_open (numbered transactions number))

-- the first of these numbers that is asked for
abbrev pub first_asked : List Transaction → ℕ → ℕ → List ℕ → Option ℕ
first_asked transactions own opened [] = None
first_asked transactions own opened (number ∷ numbers) =
    if is_asked transactions own opened number then Some number else first_asked transactions own opened numbers

-- the one for whose abort a started transaction asks next
abbrev pub asked_by : State → ℕ → Transaction → Option ℕ
asked_by state own transaction =
    first_asked state.transactions own (opened_before transaction.snapshot) (numbers_in (opening_tree transaction))
