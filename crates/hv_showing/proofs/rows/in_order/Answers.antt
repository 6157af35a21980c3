use Rattle.std.proofs.Common.{ap, ◌∙◌}
use Rattle.std.specs.Ordering.{eq_by_cmp}
use Rattle.std.specs.List.{dedup}
use Rattle.std.proofs.lemmas.List.Filters.{dedup_is}
use Rattle.hv_base.proofs.SortingLaws.{sorted_is}
use Rattle.hv_value.specs.Order.{row_cmp}
use Rattle.hv_value.specs.OrderLaws.{row_cmp_total, row_cmp-IsAntisymmetric}
use Rattle.hv_showing.proofs.rows.in_order.Goals as goal

pub returns : goal.returns
returns c =
    dedup_is (eq_by_cmp row_cmp) c.sort.new.self.items c.dedup.new.self.items c.dedup.ensures.filtered
    ∙ ap (dedup (eq_by_cmp row_cmp))
    (sorted_is row_cmp_total row_cmp-IsAntisymmetric c.args.rows.items c.sort.new.self.items c.in_ok-sort.ensures.permutation c.in_ok-sort.ensures.sorted)
