-- What was passed over is written there, one behind another with commas between them, and what further turns take is what comes after it.
use Rattle.std.proofs.Common.{◌≡◌, ◌-◌}
use Rattle.hv_grammar.specs.Grammar as grammar
use Rattle.hv_values_text.specs.Bare.{HasPart}
use Rattle.hv_values_text.specs.Parts.{flat}
use Rattle.hv_values_text.specs.Ways.{literal, more, values}
use Rattle.hv_values_text.proofs.skims.values_over.Given as goal

abbrev pub invariant-loop-turn : goal.invariant-loop-turn
invariant-loop-turn l = record {
  part : HasPart 0 (grammar.list flat) l.fn.cursor l.cursor;
  known : values l.fn.cursor ≡ more literal (l._turn-end - l._turn) l.cursor;
}
