-- How a transaction stands, which locks it asks for, and which table has a name: what is asked of one of them alone. Source: Hive
-- Transactions (a transaction's states, locks).
use Rattle.std.specs.Prelude.{ℕ, ◌+◌, ◌&&◌, Bool, if◌then◌else◌, is_none, is_some, nat_eq, nat_lt, Option, Some, None, List, [], ◌∷◌}
use Rattle.std.specs.Cmp.Lexicographic.{pointwise}
use Rattle.std.specs.List.{flat_map}
use Rattle.hv_locks.specs.declared.table.Lock.{Lock}
use Rattle.hv_meaning.specs.hv_typing.specs.hv_logic.specs.hv_ast.specs.declared.statement.Stmt.{Stmt}
use Rattle.hv_built.specs.hv_grammar.specs.Texts.{tree_of}
use Rattle.hv_meaning.specs.hv_typing.specs.hv_logic.specs.Names.{names_in}
use Rattle.hv_history.specs.declared.state.Statement.{Statement}
use Rattle.hv_history.specs.declared.state.Table.{Table}
use Rattle.hv_history.specs.declared.state.Transaction.{Transaction}

-- ---- a transaction's state

abbrev pub is_open : Transaction → Bool
is_open transaction = is_none transaction.ending

abbrev pub is_started : Transaction → Bool
is_started transaction = is_some transaction.snapshot

-- the number of the first one that is open, where the first one's is given
abbrev pub first_open : ℕ → List Transaction → Option ℕ
first_open number [] = None
first_open number (transaction ∷ transactions) =
    if is_open transaction then Some number else first_open (number + 1) transactions

abbrev pub if_below : ℕ → Option ℕ → Option ℕ
if_below mark None = None
if_below mark (Some txn) = if nat_lt txn mark then Some txn else None

-- ---- locks: a statement's lock set is a function of its text, and a transaction's that of its statements

abbrev pub locks_of_tree : Option Stmt → List Lock
locks_of_tree None = []
locks_of_tree (Some tree) = names_in tree

abbrev pub locks_of : Transaction → List Lock
locks_of transaction = flat_map (λ (statement : Statement). locks_of_tree (tree_of statement.text)) transaction.statements

-- a live table of that name
abbrev pub is_named : List ℕ → Table → Bool
is_named name table = table.is_live && pointwise nat_eq table.info.shape.name name
