-- The items so far are written one after another, with commas between them, and what further turns take is what comes after them.
use Rattle.std.proofs.Common.{◌≡◌, ◌-◌}
use Rattle.hv_grammar.specs.StatementGrammar as statement
use Rattle.hv_values_text.specs.Parts.{IsPart}
use Rattle.hv_values_text.specs.Ways.{more, name, names}
use Rattle.hv_values_text.proofs.columns.names.Given as goal

abbrev pub invariant-loop-turn : goal.invariant-loop-turn
invariant-loop-turn l = record {
  part : IsPart 0 statement.names l.found.items l.fn.cursor l.cursor;
  known : names l.fn.cursor ≡ more name (l._turn-end - l._turn) l.cursor;
}
