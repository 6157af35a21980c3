use Rattle.std.proofs.Common.{sym, ap, ◌∙◌}
use Rattle.hv_route.specs.Touching.{touches_of}
use Rattle.hv_effect.proofs.Limits.{touches-are}
use Rattle.hv_effect.proofs.changes.within_limits.Goals as goal

pub invariant_of-result : goal.invariant_of-result
invariant_of-result c =
    touches-are c.args.info.now c.args.effect c.touches.result c.in-Ok.touches c.in-Ok.is c.touches.ensures
    ∙ ap (λ info. touches_of info c.args.effect) (sym c.in_ok-duplicate-in-Ok.ensures.same)
