use Rattle.std.proofs.Common.{ap, ◌∙◌, sym, subst, arith}
use Rattle.hv_turn.specs.Order.{Comes}
use Rattle.hv_turn.proofs.Allowed.{looks_allowed}
use Rattle.hv_turn.proofs.turn.Turn.wait_for.Goals as goal

pub load-serving-requires : goal.load-serving-requires
load-serving-requires g c =
    let same = c.loop.invariant.2 in
    let words = c.self.invariant.0 in
    let parts = ap (λ m. m.0.parts) same in (
      c.loop.invariant.0 ∙ (c.requires.turn ∙ sym c.self.view_is),
      omega arith,
      looks_allowed g.S.Storied.items g.S.Storied.root g.S.Storied.later g.S.Storied.keeps _ _ _ _ c.args.ticket (ap (λ m. m.0.stage) same ∙ c.requires.waits) (omega arith),
    )

pub loop-preserved : goal.loop-preserved
loop-preserved g c =
    let same = c.loop.invariant.2 in
    let step = c.load-serving.ensures in (
      step.0 ∙ c.loop.invariant.0,
      step.1 ∙ c.loop.invariant.1,
      (step.2 c.args.ticket (ap (λ m. m.0.stage) same ∙ c.requires.waits)).1 c.if-serving-ticket.false ∙ same,
    )

pub returns-then-serving-ticket-clause-comes : goal.returns-then-serving-ticket-clause-comes
returns-then-serving-ticket-clause-comes g c =
    let same = c.loop.invariant.2 in
    let comes = (c.load-serving.ensures.2 c.args.ticket (ap (λ m. m.0.stage) same ∙ c.requires.waits)).0 c.if-serving-ticket.true in
    subst (λ m. Comes g.S.Storied.items g.S.Storied.root g.S.Storied.later g.S.Storied.keeps m c.args.ticket c.load-serving.new.seat.me) same comes
