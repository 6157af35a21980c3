use Rattle.std.proofs.Common.{ap, ◌∙◌, sym, arith}
use Rattle.hv_turn.proofs.Allowed.{splits_allowed}
use Rattle.hv_turn.proofs.TokenLemmas.{free_seat}
use Rattle.hv_turn.proofs.turn.Turn.split.Goals as goal

pub split_seat-inner-requires : goal.split_seat-inner-requires
split_seat-inner-requires g c =
    let me = c.seat.inside.inner.me in
    let idle = free_seat me.1 me.0.stood c.seat.inside.length me.0.stage c.seat.invariant.slot (ap (λ t. t.has_turn) c.seat.view_is ∙ c.requires.free) in
    let parts = ap (λ t. t.parts) c.seat.view_is in
    let words = c.self.invariant.0 in (
      ap (λ t. t.turn) c.seat.view_is ∙ (c.requires.turn ∙ sym c.self.view_is),
      omega arith,
      splits_allowed g.S.Storied.items g.S.Storied.root g.S.Storied.later g.S.Storied.keeps _ _ _ idle.0 (omega arith),
    )
