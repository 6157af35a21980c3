use Rattle.std.proofs.Common.{◌≡◌, ◌∷◌, List, IfOk, filter, flat_map, map, ap, subst, ◌∙◌}
use Rattle.hv_value.specs.declared.row.Row.{Row}
use Rattle.hv_typing.specs.Grouped.{groups}
use Rattle.hv_typing.specs.Rows.{is_met, key_of, same_row}
use Rattle.hv_order.specs.First.{IsEnough}
use Rattle.hv_partial.specs.declared.sum.Sum.{Sum}
use Rattle.hv_partial.specs.Kept.{rows_shown, shown_by, summed}
use Rattle.hv_partial.proofs.KeptLaws.{rows_are_shown}
use Rattle.hv_workers.specs.Standing.{frames_standing}
use Rattle.hv_workers.proofs.parts.by_keys_on.Goals as goal

pub returns : goal.returns
returns g c = λ items having is.
    let lifted = c.args.lifted.now in
    let rows = filter (is_met c.args.condition.now) (frames_standing c.args.standing.now) in
    let all = groups same_row (key_of (c.args.first.now ∷ c.args.more.now)) rows in
    let kept : c.as_slice-all.result.now ≡ map (summed lifted.sums) all =
    c.as_slice-all.ensures.value ∙ c.in_ok-groups.ensures rows c.in_ok-found.ensures ∙ ap (λ (sums : List Sum). map (summed sums) all) c.as_slice-sums.ensures in
    subst (λ (made : List Row). IfOk c.rows_shown.result (λ shown. IsEnough c.args.front shown.items made))
    (ap (flat_map (λ group. rows_shown (shown_by lifted group))) kept ∙ rows_are_shown items having lifted is all)
    c.rows_shown.ensures
