-- The items so far are written one after another, with commas between them, and what further turns take is what comes after them.
use Rattle.std.proofs.Common.{◌≡◌, ◌-◌}
use Rattle.hv_grammar.specs.Grammar as grammar
use Rattle.hv_values_text.specs.Parts.{IsPart, flat}
use Rattle.hv_values_text.specs.Ways.{literal, more, values}
use Rattle.hv_values_text.proofs.rows.values.Given as goal

abbrev pub invariant-loop-turn : goal.invariant-loop-turn
invariant-loop-turn l = record {
  part : IsPart 0 (grammar.list flat) l.found.items l.fn.cursor l.cursor;
  known : values l.fn.cursor ≡ more literal (l._turn-end - l._turn) l.cursor;
}
