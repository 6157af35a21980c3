use Rattle.std.proofs.Common.{ap, ◌∙◌}
use Rattle.std.specs.Prelude.{nat_eq}
use Rattle.std.specs.Cmp.Lexicographic.{pointwise, nat_list_cmp_total}
use Rattle.std.specs.FinMap.{nat_cmp-IsAntisymmetric, slice_cmp-IsAntisymmetric}
use Rattle.std.specs.List.{dedup}
use Rattle.std.proofs.lemmas.List.Filters.{dedup_is}
use Rattle.hv_base.proofs.SortingLaws.{sorted_is}
use Rattle.hv_job_acts.proofs.asking.in_order.Goals as goal

pub returns : goal.returns
returns c =
    dedup_is (pointwise nat_eq) c.sort.new.self.items c.dedup.new.self.items c.dedup.ensures.filtered
    ∙ ap (dedup (pointwise nat_eq))
    (sorted_is nat_list_cmp_total (slice_cmp-IsAntisymmetric nat_cmp-IsAntisymmetric) c.args.texts.items c.sort.new.self.items
    c.in_ok-sort.ensures.permutation c.in_ok-sort.ensures.sorted)
