-- A text that was passed over as an INSERT of values runs.
use Rattle.std.proofs.Common.{◌≡◌, List, ap}
use Rattle.hv_ast.specs.declared.expr.Expr.{Expr}
use Rattle.hv_ast.specs.declared.change.Insert.{Insert}
use Rattle.hv_ast.specs.declared.change.Rows.TheVariants as source_rows
use Rattle.hv_ast.specs.declared.statement.Stmt.{Stmt}
use Rattle.hv_ast.specs.declared.statement.Stmt.TheVariants as stmt
use Rattle.hv_ast.specs.Tokens.{Text}
use Rattle.hv_built.specs.Built.{IsBuilt}
use Rattle.hv_typing.specs.Analysis.{is_form, are_windowless}
use Rattle.hv_parse_stmt.proofs.Texts.{tree_spelled}
use Rattle.hv_values_text.specs.Bare.{SpellsWithout}
use Rattle.hv_reading.specs.Without.{RunsWithout}

values-built : (insert : Insert) (rows : List (List Expr)) → insert.rows ≡ source_rows.Values rows → IsBuilt (stmt.Insert insert)
unfolding is_form
values-built insert rows same = ap are_windowless same

pub skimmed : (text : Text) (tree : Stmt) → SpellsWithout text tree → RunsWithout text tree
skimmed text tree found = record {
  insert = found.insert;
  bare = found.bare;
  runs = record {
    read = (tree_spelled text (stmt.Insert found.insert)).1 found.spelled;
    built = values-built found.insert found.bare.rows found.bare.rows_are;
  };
}
