-- The tokens that were read, and those of what is left, are the text's.
use Rattle.hv_lex.proofs.Reading.{IsReadUpTo}
use Rattle.std.proofs.Common.{◌-◌, length}
use Rattle.hv_lex.proofs.tokens.lex.Given as goal

abbrev pub invariant-loop-at : goal.invariant-loop-at
invariant-loop-at l = IsReadUpTo l.bytes l.at l.tokens.items

abbrev pub decreases-loop-at : goal.decreases-loop-at
decreases-loop-at l = length l.bytes - l.at
