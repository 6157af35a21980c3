use Rattle.std.proofs.Common.{◌<◌, length, IsPermutation}
use Rattle.hv_order.specs.Parts.{rows_in}
use Rattle.hv_order.proofs.parts.dealt.Given as goal

abbrev pub invariant-loop-row : goal.invariant-loop-row
invariant-loop-row l = IsPermutation l.yielded (rows_in l.lists.items) × (0 < length l.lists.items)
