use Rattle.std.proofs.Common.{◌∙◌, inl, ap, sym}
use Rattle.std.specs.List.{list_all}
use Rattle.hv_route.specs.Touching.{stored_fits, within_limits}
use Rattle.hv_route.proofs.PlacedLemmas.{touched-fits, touched-over}
use Rattle.hv_route.proofs.counts.touches.Goals as goal

pub returns-in_ok-touches_of : goal.returns-in_ok-touches_of
returns-in_ok-touches_of c =
    let all = sym (ap (list_all (stored_fits c.args.info.now.shape)) c.as_slice.ensures) ∙ sym c.all_fit.ensures ∙ c.if-all_fit.true in
    inl (c.within_limits.ensures ∙ ap within_limits c.in_ok-touches_of.ensures ∙ touched-fits c.args.info.now c.args.effect.now all)

pub returns-else-all_fit : goal.returns-else-all_fit
returns-else-all_fit c =
    let all = sym (ap (list_all (stored_fits c.args.info.now.shape)) c.as_slice.ensures) ∙ sym c.all_fit.ensures ∙ c.if-all_fit.false in
    inl (touched-over c.args.info.now c.args.effect.now all)
