use Rattle.std.proofs.Common.{◌∷◌, Some, ap, ◌∙◌, sym, subst}
use Rattle.atomic_table.specs.Table.{rest}
use Rattle.hv_turn.specs.Order.{Comes}
use Rattle.hv_turn.proofs.TokenLemmas.{free_seat}
use Rattle.hv_turn.proofs.turn.Turn.enter.Goals as goal

pub exchange-requires : goal.exchange-requires
exchange-requires g c =
    let me = c.seat.inside.inner.me in
    let idle = free_seat me.1 me.0.stood c.seat.inside.length me.0.stage c.seat.invariant.slot (ap (λ t. t.has_turn) c.seat.view_is ∙ c.requires.free) in
    let came = subst (λ m. Comes g.S.Storied.items g.S.Storied.root g.S.Storied.later g.S.Storied.keeps m c.draw-ticket.result c.wait_for.new.inner.me) c.draw-ticket.ensures.ticket c.wait_for.ensures.comes in
    let slots = came.slot ∙ ap (λ l. (0, Some came.value) ∷ l) idle.1 in (
      c.wait_for.ensures.turn.0 ∙ (c.draw-ticket.ensures.turn.0 ∙ (ap (λ t. t.turn) c.seat.view_is ∙ (c.requires.turn ∙ sym c.self.view_is))),
      (Some came.value, slots ∙ ap (λ l. (0, Some came.value) ∷ l) (sym (ap rest slots))),
    )
