-- What a replay keeps of a book's state, and what an entry does to it.
use Rattle.std.specs.Prelude.{ℕ, Option, Some, None, List, []}
use Rattle.hv_logic.specs.declared.meaning.Meaning.{Meaning}
use Rattle.hv_history.specs.declared.entry.Entry.{Entry}
use Rattle.hv_history.specs.declared.entry.Entry.TheVariants as entry
use Rattle.hv_history.specs.declared.state.Statement.{Statement}
use Rattle.hv_history.specs.declared.state.Transaction.{Transaction}
use Rattle.hv_history.specs.declared.state.Table.{Table}
use Rattle.hv_history.specs.declared.state.Ending.TheVariants.{Aborted, Made, Dropped}
use Rattle.hv_history.specs.State.{State, no_openings, statement_of, meaning_in, first_of, first_known, changed_at, given_id, committed, ended, owned, dropped, forgot}

-- no job is replayed: the entry asks for no compaction
abbrev pub AsksNothing : Entry → Type 0
AsksNothing (entry.Asked job table partition kind by) = ⊥
AsksNothing _ = Unit {0}

-- the state behind so many entries, as far as answers rest on it
abbrev pub state_at : ℕ → List Transaction → List Table → State
state_at place transactions tables =
    record { entries = place; openings = no_openings; transactions = transactions; tables = tables; jobs = [] }

-- as what a statement comes to rests on it
abbrev pub state_now : List Transaction → List Table → State
state_now transactions tables = state_at 0 transactions tables

-- ---- a Start rests on its place, on the transactions and on the tables

-- what a statement comes to now
abbrev pub comes_to : State → Option Statement → Option Meaning
comes_to state None = None
comes_to state (Some statement) = meaning_in state statement.text

-- the one of that number of a transaction
abbrev pub comes_at : State → ℕ → Option Transaction → Option Meaning
comes_at state number None = None
comes_at state number (Some transaction) = comes_to state (statement_of transaction number)

abbrev pub said_of : Option Meaning → Statement → Statement
said_of meaning statement = record statement { meaning = first_known statement.meaning meaning }

abbrev pub begun : ℕ → ℕ → List Table → ℕ → Option Meaning → Transaction → Transaction
begun place opened_ tables number meaning transaction =
    record transaction {
      statements = changed_at (said_of meaning) transaction.statements number;
      snapshot = first_of transaction.snapshot (record { place = place; tables = tables; opened = opened_ });
    }

-- ---- what an entry that is no Start does at this place to the transaction that it names

abbrev pub moved : ℕ → Entry → Transaction → Transaction
moved place (entry.Given txn table write) transaction = given_id table.0 write.0 transaction
moved place (entry.Commit txn wrote) transaction = committed place wrote transaction
moved place (entry.Abort txn cause) transaction = ended (Aborted place cause) transaction
moved place (entry.Create txn table) transaction = ended (Made place table.0) transaction
moved place (entry.Drop txn table) transaction = ended (Dropped place table.0) transaction
moved place _ transaction = transaction

-- ---- and to the table

abbrev pub kept : Entry → Table → Table
kept (entry.Given txn table write) t = owned txn.0 t
kept (entry.Drop txn table) t = dropped t
kept (entry.Forgot table write) t = forgot write.0 t
kept _ t = t
