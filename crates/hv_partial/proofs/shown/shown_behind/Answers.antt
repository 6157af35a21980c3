use Rattle.std.proofs.Common.{◌≡◌, ◌++◌, IfOk, List, append_assoc, ap, subst, ◌∙◌}
use Rattle.hv_value.specs.declared.value.Value.{Value}
use Rattle.hv_expr.specs.Evaluation.{values_of}
use Rattle.hv_eval.specs.Frames.{parts_values, frame_values}
use Rattle.hv_partial.specs.Lifts.{maybe_of}
use Rattle.hv_partial.specs.Kept.{holds_if, shown_if}
use Rattle.hv_partial.proofs.shown.shown_behind.Goals as goal

pub returns : goal.returns
returns c =
    let values = c.args.values.now in
    let first = c.args.first.now in
    let lifted = c.args.lifted.now in
    let is : parts_values c.as_slice.result.now ++ first.last.now ≡ values ++ frame_values first =
    ap (λ l. parts_values l ++ first.last.now) c.as_slice.ensures.value ∙ ap (λ (l : List Value). l ++ first.last.now) c.in_ok-parts.ensures
    ∙ append_assoc values (parts_values first.before.now) first.last.now in
    subst (λ (row : List Value). IfOk c.shown_on.result (λ shown. shown ≡ shown_if (holds_if (maybe_of lifted.having row)) (values_of lifted.items row))) is c.shown_on.ensures
