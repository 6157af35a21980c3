use Rattle.std.proofs.Common.{[], sym, subst, arith, IsPermutation}
use Rattle.std.proofs.lemmas.List.Sorted.{IsPermutation-refl}
use Rattle.hv_order.proofs.Seams.{dealt_more}
use Rattle.hv_order.proofs.parts.dealt.Goals as goal

pub loop-row-init : goal.loop-row-init
loop-row-init c = (
  subst (IsPermutation []) (sym c.in_ok-lists.ensures.none) (IsPermutation-refl []),
  omega (arith, c.in_ok-lists.ensures.count, c.requires),
)

pub loop-row-preserved : goal.loop-row-preserved
loop-row-preserved c = (
  dealt_more c.loop-row.yielded c.loop-row.lists.items c.put_into.new.lists.items c.in-Some.row c.loop-row.invariant.0 c.in_ok-put_into.ensures.moves,
  omega (arith, c.in_ok-put_into.ensures.count, c.loop-row.invariant.1),
)
