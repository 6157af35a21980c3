-- How far a transaction has come. Source: Hive Transactions (open, committed, aborted).
use Rattle.std.specs.Prelude.{ℕ, ◌+◌, ◌==◌, ◌&&◌, Bool, true, false, is_none, is_some, Option, None, Some, List, []}
use Rattle.hv_ast.specs.declared.statement.Stmt.{Stmt}
use Rattle.hv_ast.specs.declared.statement.Stmt.TheVariants as stmt
use Rattle.hv_ast.specs.declared.table.ColumnDefinition.{ColumnDefinition}
use Rattle.hv_ast.specs.declared.types.TypeName.{TypeName}
use Rattle.hv_ast.specs.declared.types.TypeName.TheVariants as type_name
use Rattle.hv_book.specs.hv_history.specs.declared.state.Table.{Table}
use Rattle.hv_book.specs.hv_history.specs.declared.state.Transaction.{Transaction}
use Rattle.hv_book.specs.hv_history.specs.declared.state.Ending.{Ending}
use Rattle.hv_book.specs.hv_history.specs.declared.state.Ending.TheVariants.{Committed, Aborted, Made, Dropped}
use Rattle.hv_book.specs.hv_history.specs.State.{State, numbered, given_in}
use Rattle.hv_book.specs.hv_history.specs.Legal.{is_started, is_named_there}
use Rattle.hv_book.specs.declared.notes.End.{End}
use Rattle.hv_book.specs.declared.notes.TransactionNote.{TransactionNote}
use Rattle.hv_book.specs.declared.notes.TableNote.{TableNote}
use Rattle.hv_meta.specs.declared.facts.TxnState.{TxnState}
use Rattle.hv_meta.specs.declared.facts.TxnState.TheVariants.{Unknown, Running, Ended}

abbrev pub ending_place : Ending → ℕ
ending_place (Committed place wrote) = place
ending_place (Aborted place cause) = place
ending_place (Made place table) = place
ending_place (Dropped place table) = place

abbrev pub state_by : Option Ending → Bool → TxnState
state_by None started = Running started
state_by (Some ending) started = Ended (ending_place ending)

abbrev pub transaction_state : Option Transaction → TxnState
transaction_state None = Unknown
transaction_state (Some transaction) = state_by transaction.ending (is_started transaction)

-- the state of the transaction of that number
abbrev pub state_in : State → ℕ → TxnState
state_in state txn = transaction_state (numbered state.transactions txn)

-- the same by a transaction's note
abbrev pub noted_by : Option End → Bool → TxnState
noted_by None started = Running started
noted_by (Some end) started = Ended end.at

abbrev pub noted_state : Option TransactionNote → TxnState
noted_state None = Unknown
noted_state (Some note) = noted_by note.ending (is_some note.started)

abbrev pub is_unended_note : Option TransactionNote → Bool
is_unended_note None = false
is_unended_note (Some note) = is_none note.ending

abbrev pub is_running_note : Option TransactionNote → Bool
is_running_note None = false
is_running_note (Some note) = is_none note.ending && is_some note.started

-- the table is live, and this is its next write id
abbrev pub is_next_note : ℕ → Option TableNote → Bool
is_next_note write None = false
is_next_note write (Some note) = note.is_live && (write == note.high + 1)

-- a write id of this table is among these
abbrev pub is_held : ℕ → List (ℕ × ℕ) → Bool
is_held table given = is_some (given_in table given)

-- the column is no ARRAY
abbrev pub is_flat_name : TypeName → Bool
is_flat_name (type_name.Array scalar) = false
is_flat_name (type_name.Scalar scalar) = true

abbrev pub is_flat_definition : ColumnDefinition → Bool
is_flat_definition column = is_flat_name column.kind

-- the partition columns of the table that a text makes
abbrev pub made_parts : Option Stmt → List ColumnDefinition
made_parts (Some (stmt.CreateTable create)) = create.partitions
made_parts _ = []

-- ---- a table that is dropped

abbrev pub is_live_note : Option TableNote → Bool
is_live_note None = false
is_live_note (Some note) = note.is_live

-- the text is a DROP TABLE of the name that this table has, which is live
abbrev pub drops_table : List Table → ℕ → Option Stmt → Bool
drops_table tables table (Some (stmt.DropTable drop)) = is_named_there drop.table (numbered tables table)
drops_table tables table _ = false
