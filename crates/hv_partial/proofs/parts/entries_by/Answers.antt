use Rattle.std.proofs.Common.{◌∷◌, ◌∙◌}
use Rattle.hv_partial.proofs.MergeLaws.{entries_are_groups, entries_met}
use Rattle.hv_partial.proofs.parts.entries_by.Goals as goal

pub returns : goal.returns
returns c =
    let keys = c.args.first.now ∷ c.args.more.now in
    entries_are_groups c.args.sums.now keys c.args.rows.now c.in_ok-found.found.items
    (c.in_ok-found.ensures ∙ entries_met c.args.sums.now keys c.args.rows.now)
