use Rattle.std.proofs.Common.{[], ◌∷◌, ◌++◌, sym, subst, ◌∙◌}
use Rattle.hv_order.specs.First.{IsEnough}
use Rattle.hv_order.proofs.OrderKeys.{put_last}
use Rattle.hv_order.proofs.Kept.push.Goals as goal

pub returns-in_ok-self-in-Some-clause-enough : goal.returns-in_ok-self-in-Some-clause-enough
returns-in_ok-self-in-Some-clause-enough c all enough =
    let front = c.in-Some.front in
    subst (λ f. IsEnough f c.add.new.kept.items (all ++ c.args.row ∷ [])) (sym c.in-Some.is)
    (c.in_ok-self-in-Some.ensures.same all (subst (λ f. IsEnough f c.args.self.now.rows.items all) c.in-Some.is enough)
    ∙ put_last front.keys.now front.count c.args.row all)
