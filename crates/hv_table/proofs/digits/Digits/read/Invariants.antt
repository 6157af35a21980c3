use Rattle.hv_table.proofs.DecimalLemmas.{IsReadUpTo}
use Rattle.hv_table.proofs.digits.Digits.read.Given as goal

abbrev pub invariant-loop-byte : goal.invariant-loop-byte
invariant-loop-byte g l = IsReadUpTo l.byte-index l.bytes l.value
