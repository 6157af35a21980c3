-- Parts of a text of which a value is written there, though none is given.
use Rattle.std.proofs.Common.{◌≡◌, ℕ, true, false, List, [], ◌∷◌, ◌++◌, refl, ap}
use Rattle.hv_ast.specs.declared.expr.Literal.{Literal}
use Rattle.hv_ast.specs.declared.expr.Literal.TheVariants as l
use Rattle.hv_ast.specs.declared.expr.Expr.{Expr}
use Rattle.hv_ast.specs.declared.expr.Expr.TheVariants as e
use Rattle.hv_ast.specs.declared.change.PartitionItem.{PartitionItem}
use Rattle.hv_ast.specs.declared.change.Insert.{Insert}
use Rattle.hv_ast.specs.declared.change.Rows.TheVariants as source_rows
use Rattle.hv_ast.specs.declared.statement.Stmt.{Stmt}
use Rattle.hv_ast.specs.declared.statement.Stmt.TheVariants as stmt
use Rattle.hv_ast.specs.Tokens.{Text}
use Rattle.std.proofs.Common.{codes}
use Rattle.hv_grammar.specs.declared.kind.Kind.TheVariants as kind
use Rattle.hv_grammar.specs.Rules.{Rule, separated}
use Rattle.hv_grammar.specs.Grammar as grammar
use Rattle.hv_grammar.specs.StatementGrammar as statement
use Rattle.hv_values_text.specs.Bare.{HasQuoted, HasPart, HasInsert, SpellsWithout}
use Rattle.hv_values_text.specs.Fronts.{after_spaces, sees_word, IsMark, IsNumber}
use Rattle.hv_values_text.specs.Parts.{IsPart, flat, flat_query}
use Rattle.hv_values_text.proofs.Known.{number_part, quoted_part, list_first, list_more, rows_first, rows_more, row_part}
use Rattle.hv_values_text.proofs.Spelled.{text_spelled}

pub has : {A : Type 0} {levels : ℕ} {rule : Rule A} {value : A} {text rest : Text} → IsPart levels rule value text rest → HasPart levels rule text rest
has {value = value} part = record { value = value; part = part }

pub number_there : {text rest : Text} → (literal : Literal) → IsNumber literal text rest → HasPart 0 flat text rest
number_there literal is = record { value = e.Literal literal; part = number_part is }

pub quoted_there : {text rest : Text} → HasQuoted text rest → HasPart 0 flat text rest
quoted_there found = record { value = e.Literal (l.Str found.content); part = quoted_part found.stands }

-- ---- values with commas between them

pub first_value : {text rest : Text} → HasPart 0 flat text rest → HasPart 0 (grammar.list flat) text rest
first_value one = record { value = one.value ∷ []; part = list_first one.part refl }

pub next_value : {text mid next rest : Text} → HasPart 0 (grammar.list flat) text mid → IsMark 44 mid next → HasPart 0 flat next rest
    → HasPart 0 (grammar.list flat) text rest
next_value all mark one = record { value = all.value ++ one.value ∷ []; part = list_more all.part mark one.part refl }

-- ---- rows

pub row_there : {text inner last rest : Text} → IsMark 40 text inner → HasPart 0 (grammar.list flat) inner last → IsMark 41 last rest
    → HasPart 1 (statement.row flat flat_query) text rest
row_there opens values closes = record { value = values.value; part = row_part opens values.part closes }

pub first_row : {text rest : Text} → HasPart 1 (statement.row flat flat_query) text rest
    → HasPart 1 (separated kind.Comma (statement.row flat flat_query)) text rest
first_row one = record { value = one.value ∷ []; part = rows_first one.part refl }

pub next_row : {text mid next rest : Text} → HasPart 1 (separated kind.Comma (statement.row flat flat_query)) text mid → IsMark 44 mid next
    → HasPart 1 (statement.row flat flat_query) next rest → HasPart 1 (separated kind.Comma (statement.row flat flat_query)) text rest
next_row all mark one = record { value = all.value ++ one.value ∷ []; part = rows_more all.part mark one.part refl }

-- ---- the INSERT

pub insert_there : {table : Text} {items : List PartitionItem} {names : List Text} {rows : List (List Expr)} {text rest : Text}
    → (none : List (List Expr)) → none ≡ []
    → IsPart 1 (statement.statement_over flat flat_query)
    (stmt.Insert (record { overwrite = false; table = table; partition = items; columns = names; rows = source_rows.Values rows })) text rest
    → HasInsert (stmt.Insert (record { overwrite = false; table = table; partition = items; columns = names; rows = source_rows.Values none })) text rest
insert_there {table = table} {items = items} {names = names} {rows = rows} none same part =
    let insert : Insert = record { overwrite = false; table = table; partition = items; columns = names; rows = source_rows.Values rows } in
    record {
      insert = insert;
      bare = record {
        rows = rows;
        rows_are = refl;
        tree_is = ap (λ (left : List (List Expr)). stmt.Insert (record insert { rows = source_rows.Values left })) same;
      };
      part = part;
    }

pub text_without : (text rest : Text) (tree : Stmt) → sees_word (codes "insert") text ≡ true → HasInsert tree text rest → after_spaces rest ≡ []
    → SpellsWithout text tree
text_without text rest tree seen there none = record {
  insert = there.insert;
  bare = there.bare;
  spelled = text_spelled text rest (stmt.Insert there.insert) seen there.part none;
}
