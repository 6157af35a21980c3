use Rattle.std.proofs.Common.{◌≡◌, drop}
use Rattle.std.specs.List.{list_all}
use Rattle.hv_rewrite.specs.Wide.{union_has_items}
use Rattle.hv_rewrite.proofs.widths.unions_have_items.Given as goal

abbrev pub invariant-loop-next : goal.invariant-loop-next
invariant-loop-next l = list_all (union_has_items l.width) (drop l.next-index l.unions) ≡ list_all (union_has_items l.width) l.unions
