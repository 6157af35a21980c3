-- What contracts see of a book.
use Rattle.std.specs.Prelude.{ℕ, Option, None, List, slice_get, option_and_then}
use Rattle.hv_meaning.specs.hv_typing.specs.hv_logic.specs.hv_ast.specs.declared.statement.Stmt.{Stmt}
use Rattle.hv_built.specs.hv_grammar.specs.Texts.{tree_of}
use Rattle.hv_history.specs.declared.entry.Entry.{Entry}
use Rattle.hv_history.specs.declared.entry.Entry.TheVariants as entry

-- the entries, and how many more fit without asking for memory
pub record Kept : Type 0 where
  pub entries : List Entry
  pub spare : ℕ

-- the tree beside an entry: that of its text, where it has one
abbrev pub tree_of_entry : Entry → Option Stmt
tree_of_entry (entry.Opened txn session number text) = tree_of text
tree_of_entry _ = None

-- the tree beside the entry at a place, None where there is none
abbrev pub tree_at : List Entry → ℕ → Option Stmt
tree_at entries at = option_and_then tree_of_entry (slice_get entries at)
