-- None of the rows before the index begins the text.
use Rattle.std.proofs.Common.{◌≡◌, drop, map}
use Rattle.std.specs.Prelude.{find}
use Rattle.hv_lex.specs.Lexed.{begins, row_of}
use Rattle.hv_lex.proofs.symbols.first_row.Given as goal

abbrev pub invariant-loop-row : goal.invariant-loop-row
invariant-loop-row l = find (begins l.text) (map row_of l.rows) ≡ find (begins l.text) (map row_of (drop l.row-index l.rows))
