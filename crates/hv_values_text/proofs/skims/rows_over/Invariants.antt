-- What was passed over is written there, one behind another with commas between them, and what further turns take is what comes after it.
use Rattle.std.proofs.Common.{◌≡◌, ◌-◌}
use Rattle.hv_grammar.specs.declared.kind.Kind.TheVariants as k
use Rattle.hv_grammar.specs.Rules.{separated}
use Rattle.hv_grammar.specs.StatementGrammar as statement
use Rattle.hv_values_text.specs.Bare.{HasPart}
use Rattle.hv_values_text.specs.Parts.{flat, flat_query}
use Rattle.hv_values_text.specs.Ways.{more, row, rows}
use Rattle.hv_values_text.proofs.skims.rows_over.Given as goal

abbrev pub invariant-loop-turn : goal.invariant-loop-turn
invariant-loop-turn l = record {
  part : HasPart 1 (separated k.Comma (statement.row flat flat_query)) l.fn.cursor l.cursor;
  known : rows l.fn.cursor ≡ more row (l._turn-end - l._turn) l.cursor;
}
