use Rattle.std.proofs.Common.{◌≡◌, ◌∷◌, List, IfOk, flat_map, map, ap, subst, ◌∙◌}
use Rattle.hv_value.specs.declared.row.Row.{Row}
use Rattle.hv_typing.specs.Grouped.{groups}
use Rattle.hv_typing.specs.Rows.{key_of, same_row}
use Rattle.hv_eval.specs.Frames.{frames_values}
use Rattle.hv_order.specs.First.{IsEnough}
use Rattle.hv_partial.specs.declared.sum.Sum.{Sum}
use Rattle.hv_partial.specs.Kept.{rows_shown, shown_by, summed}
use Rattle.hv_partial.proofs.KeptLaws.{rows_are_shown}
use Rattle.hv_exec.proofs.groups.summed_rows.Goals as goal

pub returns : goal.returns
returns c = λ items having is.
    let lifted = c.args.lifted.now in
    let all = groups same_row (key_of (c.args.first.now ∷ c.args.more.now)) (frames_values c.args.frames.now) in
    let kept : c.as_slice-all.result.now ≡ map (summed lifted.sums) all =
    c.as_slice-all.ensures.value ∙ c.in_ok-groups.ensures ∙ ap (λ (sums : List Sum). map (summed sums) all) c.as_slice-sums.ensures in
    subst (λ (rows : List Row). IfOk c.rows_shown.result (λ made. IsEnough c.args.front made.items rows))
    (ap (flat_map (λ group. rows_shown (shown_by lifted group))) kept ∙ rows_are_shown items having lifted is all)
    c.rows_shown.ensures
