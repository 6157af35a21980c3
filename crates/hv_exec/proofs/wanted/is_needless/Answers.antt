use Rattle.std.proofs.Common.{[], ◌∷◌, ◌++◌, sym, subst}
use Rattle.hv_typing.specs.Rows.{item_row}
use Rattle.hv_eval.specs.Frames.{frame_values}
use Rattle.hv_order.specs.First.{IsEnough}
use Rattle.hv_order.proofs.OrderKeys.{not_wanted}
use Rattle.hv_exec.proofs.wanted.is_needless.Goals as goal

pub returns-in-Some-last : goal.returns-in-Some-last
returns-in-Some-last c behind all enough =
    let front = c.in-Some.front in
    let row = item_row c.args.items.now (frame_values c.args.frame.now) in
    let kept = c.args.kept.now.rows.items in
    subst (λ f. IsEnough f kept (all ++ row ∷ [])) (sym c.in-Some.is)
    (not_wanted front.keys.now front.count row kept all (c.in-Some-last.ensures row (c.is_behind.ensures behind))
    (subst (λ f. IsEnough f kept all) c.in-Some.is enough))
