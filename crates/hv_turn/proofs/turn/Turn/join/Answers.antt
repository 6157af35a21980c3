use Rattle.std.proofs.Common.{ap, ◌∙◌, sym, arith}
use Rattle.hv_turn.proofs.Allowed.{joins_allowed, settles_allowed}
use Rattle.hv_turn.proofs.TokenLemmas.{free_seat}
use Rattle.hv_turn.proofs.turn.Turn.join.Goals as goal

pub join_seat-requires : goal.join_seat-requires
join_seat-requires g c =
    let me = c.seat.inside.inner.me in
    let idle = free_seat me.1 me.0.stood c.seat.inside.length me.0.stage c.seat.invariant.slot (ap (λ t. t.has_turn) c.seat.view_is ∙ c.requires.free.0) in
    let words = c.self.invariant.0 in (
      ap (λ t. t.turn) c.seat.view_is ∙ (c.requires.turn.0 ∙ sym c.self.view_is),
      ap (λ t. t.turn) c.into_inner.ensures.token ∙ (c.requires.turn.1 ∙ sym c.self.view_is),
      c.into_inner.ensures.free.1,
      omega arith,
      joins_allowed g.S.Storied.items g.S.Storied.root g.S.Storied.later g.S.Storied.keeps _ _ _ _ _ idle.0 c.into_inner.ensures.free.0 c.seat.invariant.some_part c.into_inner.ensures.part g.met.S.Storied.begins,
    )

pub load-requires : goal.load-requires
load-requires g c =
    let me = c.seat.inside.inner.me in
    let idle = free_seat me.1 me.0.stood c.seat.inside.length me.0.stage c.seat.invariant.slot (ap (λ t. t.has_turn) c.seat.view_is ∙ c.requires.free.0) in
    let some_part = c.seat.invariant.some_part in
    let parts = ap (λ m. m.0.parts) c.join_seat.ensures.2 in
    let words = c.self.invariant.0 in (
      c.join_seat.ensures.0 ∙ (ap (λ t. t.turn) c.seat.view_is ∙ (c.requires.turn.0 ∙ sym c.self.view_is)),
      omega arith,
      settles_allowed g.S.Storied.items g.S.Storied.root g.S.Storied.later g.S.Storied.keeps _ _ _ _ (ap (λ m. m.0.stage) c.join_seat.ensures.2 ∙ idle.0) (omega arith),
    )
