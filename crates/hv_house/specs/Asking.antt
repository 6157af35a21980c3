-- What a house is asked before a statement begins: who holds a lock against it, and whether it can begin. Who holds which locks is a
-- function of the book: each open started transaction those of its text.
use Rattle.std.specs.Prelude.{◌≡◌, ℕ, Option, Some, None, List}
use Rattle.hv_base.specs.declared.ids.Limits.{Limits}
use Rattle.hv_ast.specs.declared.statement.Stmt.{Stmt}
use Rattle.hv_locks.specs.declared.table.LockState.{LockState}
use Rattle.hv_locks.specs.declared.table.LockState.TheVariants.{Granted, Waiting}
use Rattle.hv_logic.specs.Names.{names_in}
use Rattle.hv_history.specs.declared.entry.Entry.{Entry}
use Rattle.hv_history.specs.State.{state_of}
use Rattle.hv_history.specs.Legal.{HasRoom, first_holder}

-- the lowest open started transaction that holds a lock against a statement of this tree
abbrev pub holder_against : List Entry → Stmt → Option ℕ
holder_against book tree = first_holder (names_in tree) 1 (state_of book).transactions

-- what it is told of its locks: it has to wait for that one, where there is one
abbrev pub lock_state : Option ℕ → LockState
lock_state None = Granted
lock_state (Some txn) = Waiting (record { 0 = txn })

-- a statement of this tree can be opened and started at once: there is room for both and for its end, and no lock is held against it
abbrev pub CanBegin : Limits → List Entry → Stmt → Type 0
CanBegin limits book tree = HasRoom limits (state_of book) 3 × (holder_against book tree ≡ None)
