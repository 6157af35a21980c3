use Rattle.std.proofs.Common.{rules, sym, ◌∙◌}
use Rattle.std.specs.Prelude.{nat_lt}
use Rattle.std.proofs.lemmas.List.Sorted.{IsPartitionPoint-from_clause}
use Rattle.hv_earlier.proofs.WalkLaws.{places-parted, places-before}
use Rattle.hv_counts.proofs.spot.opened_at.Goals as goal

pub returns : goal.returns
returns c =
    let places = c.opened.result.now in
    let point =
    IsPartitionPoint-from_clause (λ at. nat_lt at c.args.position) _ _ c.partition_point.ensures.partitioned
    (places-parted c.args.position places c.opened.ensures.opened.rising) (λ a r q k. search rules)
    in
    sym (places-before c.args.position places c.partition_point.result c.partition_point.ensures.bound point) ∙ c.opened.ensures.opened.count c.args.position
