use Rattle.std.proofs.Common.{ap, ◌∙◌, sym, arith}
use Rattle.hv_turn.proofs.Allowed.{draws_allowed}
use Rattle.hv_turn.proofs.turn.Turn.draw.Goals as goal

pub compare_exchange-found-requires : goal.compare_exchange-found-requires
compare_exchange-found-requires g c =
    let same = c.loop.invariant.2 in
    let words = c.self.invariant.0 in
    let parts = ap (λ m. m.0.parts) same in (
      c.loop.invariant.0 ∙ (c.requires.turn ∙ sym c.self.view_is),
      omega arith,
      draws_allowed g.S.Storied.items g.S.Storied.root g.S.Storied.later g.S.Storied.keeps _ _ _ _ _ (ap (λ m. m.0.stage) same ∙ c.requires.idle) (omega arith) (omega arith),
    )
