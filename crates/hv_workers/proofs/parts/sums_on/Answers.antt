use Rattle.std.proofs.Common.{rules}
use Rattle.hv_partial.proofs.MergeLaws.{sums_none}
use Rattle.hv_workers.proofs.Parted.{of_standing, summed_both, summed_of}
use Rattle.hv_workers.proofs.parts.sums_on.Goals as goal

pub returns : goal.returns
returns g c =
    let condition = c.args.condition.now in
    let sums = c.args.sums.now in
    of_standing (summed_of condition sums) (sums_none sums) (summed_both condition sums) c.args.standing.now _ c.len.result
    c.in_ok-answers.answers.items c.in_ok-parts.parts.items c.len.ensures c.in_ok-answers.ensures.ranges (λ from count answer says. search rules) c.in_ok-parts.ensures
