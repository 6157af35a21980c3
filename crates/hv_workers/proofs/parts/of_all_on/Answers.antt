use Rattle.std.proofs.Common.{◌≡◌, ◌∷◌, [], List, Option, IfOk, filter, flat_map, map, sym, ap, subst, ◌∙◌}
use Rattle.hv_value.specs.declared.value.Value.{Value}
use Rattle.hv_value.specs.declared.row.Row.{Row}
use Rattle.hv_typing.specs.Rows.{Frame, is_met}
use Rattle.hv_order.specs.First.{IsEnough}
use Rattle.hv_partial.specs.declared.sum.Sum.{Sum}
use Rattle.hv_partial.specs.Kept.{rows_shown, shown_by, summed}
use Rattle.hv_partial.specs.Merged.{AreSumsOf}
use Rattle.hv_partial.proofs.KeptLaws.{rows_are_shown}
use Rattle.hv_workers.specs.Standing.{frames_standing}
use Rattle.hv_workers.proofs.parts.of_all_on.Goals as goal

pub returns : goal.returns
returns g c = λ items having is.
    let lifted = c.args.lifted.now in
    let rows = filter (is_met c.args.condition.now) (frames_standing c.args.standing.now) in
    let parts : AreSumsOf c.as_slice-sums.result.now rows c.as_slice.result.now =
    subst (λ (kept : List (Option Frame × List Value)). AreSumsOf c.as_slice-sums.result.now rows kept) (sym c.as_slice.ensures.value) c.in_ok-parts.ensures in
    let kept : c.as_slice-all.result.now ≡ map (summed lifted.sums) (rows ∷ []) =
    c.as_slice-all.ensures.value ∙ c.in_ok-groups.ensures rows parts ∙ ap (λ (sums : List Sum). summed sums rows ∷ []) c.as_slice-sums.ensures in
    subst (λ (made : List Row). IfOk c.rows_shown.result (λ shown. IsEnough c.args.front shown.items made))
    (ap (flat_map (λ group. rows_shown (shown_by lifted group))) kept ∙ rows_are_shown items having lifted is (rows ∷ []))
    c.rows_shown.ensures
