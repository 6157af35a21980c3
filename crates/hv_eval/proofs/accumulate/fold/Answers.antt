use Rattle.std.proofs.Common.{◌≡◌, ◌+◌, ◌++◌, ◌∷◌, [], take, sym, ap, ◌∙◌}
use Rattle.std.proofs.lemmas.List.{take_more}
use Rattle.hv_expr.specs.Groups.{over_values}
use Rattle.hv_eval.specs.Accumulating.{merged, single}
use Rattle.hv_eval.proofs.Accumulators.{one_more}
use Rattle.hv_eval.proofs.accumulate.fold.Goals as goal

pub loop-value-preserved : goal.loop-value-preserved
loop-value-preserved c =
    let function = c.args.function in
    let values = c.args.values.now in
    let i = c.loop-value.value-index in
    let v = c.value-item.result in
    let more : take (i + 1) values ≡ take i values ++ v ∷ [] = take_more values i v c.loop-value-test.true ∙ ap (λ r. take i values ++ r ∷ []) (sym c.value-item.is) in
    c.step-kept.ensures
    ∙ (λ j. merged function (c.loop-value.invariant j) (single function (c.view.ensures j)))
    ∙ one_more function (take i values) v
    ∙ ap (over_values function) (sym more)
