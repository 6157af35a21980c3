use Rattle.std.proofs.Common.{IsTrue, IsSorted}
use Rattle.hv_typing.specs.Order.{order_cmp}
use Rattle.hv_shuffle.specs.Calls.{JoinsTo}
use Rattle.hv_order.specs.Parts.{AllSorted}
use Rattle.hv_order.proofs.parts.put_together.Given as goal

abbrev pub invariant-loop-answer : goal.invariant-loop-answer
invariant-loop-answer l = record {
  joined : JoinsTo l.yielded l.rows.items;
  sorted : IsTrue l.in_order → AllSorted l.keys l.yielded → IsSorted (order_cmp l.keys) l.rows.items;
}
