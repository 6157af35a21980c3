-- What is kept of a tree answers what is asked of it as the whole tree does.
use Rattle.std.proofs.Common.{◌≡◌, ℕ, Option, Some, None, List, ◌∷◌, refl, sym, ap}
use Rattle.std.specs.Prelude.{option_and_then}
use Rattle.std.specs.Option.{option_map}
use Rattle.std.specs.List.{slice_get}
use Rattle.hv_ast.specs.declared.change.Rows.{Rows}
use Rattle.hv_ast.specs.declared.change.Rows.TheVariants as source_rows
use Rattle.hv_ast.specs.declared.statement.Stmt.{Stmt}
use Rattle.hv_ast.specs.declared.statement.Stmt.TheVariants as stmt
use Rattle.hv_history.specs.hv_meaning.specs.hv_typing.specs.hv_logic.specs.Names.{names_in, rows_names, shared}
use Rattle.hv_history.specs.declared.entry.Entry.{Entry}
use Rattle.hv_history.specs.declared.entry.Entry.TheVariants as entry
use Rattle.hv_history.specs.declared.state.Transaction.{Transaction}
use Rattle.hv_history.specs.Book.{tree_of_entry, tree_at}
use Rattle.hv_history.specs.State.{opening_tree, created_shape, made_shape}
use Rattle.hv_book.specs.Briefs.{tree_in, text_tree}
use Rattle.hv_book.specs.Said.{said, said_rows, said_of_entry, said_at, said_text}

-- ---- beside the entries

pub said-entry : (event : Entry) → option_map said (tree_of_entry event) ≡ said_of_entry event
said-entry (entry.Opened txn session number text) = refl
said-entry event = refl

said-found : (found : Option Entry) → option_and_then said_of_entry found ≡ option_map said (option_and_then tree_of_entry found)
said-found None = refl
said-found (Some event) = sym (said-entry event)

pub said-there : (xs : List Entry) (place : ℕ) → said_at xs place ≡ option_map said (tree_at xs place)
said-there xs place = said-found (slice_get xs place)

pub said-where : (xs : List Entry) (text : Option ℕ) → said_text xs text ≡ option_map said (text_tree xs text)
said-where xs None = refl
said-where xs (Some place) = said-there xs place

-- ---- the names, and the table that is made

rows-said : (rows : Rows) → rows_names (said_rows rows) ≡ rows_names rows
rows-said (source_rows.Values values) = refl
rows-said (source_rows.Query query) = refl

pub names-said : (tree : Stmt) → names_in (said tree) ≡ names_in tree
names-said (stmt.Insert insert) = ap (λ locks. shared insert.table ∷ locks) (rows-said insert.rows)
names-said tree = refl

pub created-said : (tree : Option Stmt) → created_shape (option_map said tree) ≡ created_shape tree
created-said None = refl
created-said (Some (stmt.Insert insert)) = refl
created-said (Some tree) = refl

pub made-said : (opened : Option Transaction) → created_shape (tree_in opened) ≡ made_shape opened
made-said None = refl
made-said (Some transaction) = created-said (opening_tree transaction)
