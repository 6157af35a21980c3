use Rattle.std.proofs.Common.{arith}
use Rattle.std.proofs.lemmas.List.Sorted.{IsPermutation-trans}
use Rattle.hv_order.proofs.sort_ties.Goals as goal

pub ties-preserved : goal.ties-preserved
ties-preserved c = (
  IsPermutation-trans _ _ _ c.ties.invariant.0 c.close_part-start.ensures.moves,
  omega (arith, c.close_part-start.ensures.within),
)

pub returns : goal.returns
returns c = IsPermutation-trans _ _ _ c.ties.invariant.0 c.sort_part.ensures
