-- What is kept of a text's tree: all of it but the rows that an INSERT writes out. These are most of what a journal
-- holds, and nobody asks a book for them: what an entry rests on is the names, the kind and the words of the texts that
-- opened transactions.
use Rattle.std.specs.Prelude.{ℕ, Option, None, Some, List, [], option_and_then}
use Rattle.std.specs.Option.{option_map}
use Rattle.std.specs.List.{slice_get}
use Rattle.hv_ast.specs.declared.change.Insert.{Insert}
use Rattle.hv_ast.specs.declared.change.Rows.{Rows}
use Rattle.hv_ast.specs.declared.change.Rows.TheVariants as source_rows
use Rattle.hv_ast.specs.declared.statement.Stmt.{Stmt}
use Rattle.hv_ast.specs.declared.statement.Stmt.TheVariants as stmt
use Rattle.hv_grammar.specs.Texts.{tree_of}
use Rattle.hv_history.specs.declared.entry.Entry.{Entry}
use Rattle.hv_history.specs.declared.entry.Entry.TheVariants as entry

abbrev pub said_rows : Rows → Rows
said_rows (source_rows.Values values) = source_rows.Values []
said_rows (source_rows.Query query) = source_rows.Query query

abbrev pub said_insert : Insert → Insert
said_insert insert = record insert { rows = said_rows insert.rows }

abbrev pub said : Stmt → Stmt
said (stmt.Insert insert) = stmt.Insert (said_insert insert)
said tree = tree

-- beside an entry
abbrev pub said_of_entry : Entry → Option Stmt
said_of_entry (entry.Opened txn session number text) = option_map said (tree_of text)
said_of_entry _ = None

-- beside the entry at a place, None where there is none
abbrev pub said_at : List Entry → ℕ → Option Stmt
said_at entries at = option_and_then said_of_entry (slice_get entries at)

-- beside the entry at the place of a text, where there is one
abbrev pub said_text : List Entry → Option ℕ → Option Stmt
said_text entries None = None
said_text entries (Some place) = said_at entries place
