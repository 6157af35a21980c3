use Rattle.std.proofs.Common.{◌∷◌, length, Some, ap, ◌∙◌, sym, subst, arith}
use mathlib.Core.List.{IsPrefix}
use Rattle.atomic_table.specs.Table.{rest}
use Rattle.hv_turn.specs.Views.{GoesOn}
use Rattle.hv_turn.specs.Tokens.{stood_of, took_of}
use Rattle.hv_turn.proofs.Allowed.{tallies_allowed, hands_on_allowed}
use Rattle.hv_turn.proofs.Prefixes.{prefix_length}
use Rattle.hv_turn.proofs.TokenLemmas.{held_seat, more_begins}
use Rattle.hv_turn.proofs.turn.Turn.leave.Goals as goal

pub fetch_add-requires : goal.fetch_add-requires
fetch_add-requires g c =
    let me = c.seat.inside.inner.me in
    let value = c.args.held.value in
    let holds = held_seat me.1 me.0.stood c.seat.inside.length me.0.stage c.seat.invariant.slot (ap (λ t. t.has_turn) c.seat.view_is ∙ c.requires.has) in
    let e = c.exchange-empty.ensures.3 in
    let stood = sym (ap (λ t. t.stood) c.seat.view_is) ∙ ap (stood_of me.0.stood) holds.1 in
    let begins = subst (λ l. IsPrefix l (g.S.Storied.items value)) stood (more_begins _ _ c.requires.history) in
    let longer = prefix_length _ _ begins in
    let same = ap (λ m. length m.0.stood) e in
    let parts = ap (λ m. m.0.parts) e in
    let long = holds.3 in
    let took = sym (ap (λ t. t.took) c.seat.view_is) ∙ ap (took_of me.0.took) holds.1 in
    let went = subst (λ o. GoesOn g.S.Storied.later o value) took c.requires.later in
    let words = c.self.invariant.0 in (
      c.exchange-empty.ensures.0 ∙ (ap (λ t. t.turn) c.seat.view_is ∙ (c.requires.turn ∙ sym c.self.view_is)),
      omega arith,
      tallies_allowed g.S.Storied.items g.S.Storied.root g.S.Storied.later g.S.Storied.keeps _ _ _ _ _ value _ (ap (λ m. m.0.stage) e ∙ holds.1) (omega arith)
          (ap (λ m. m.1) e ∙ ap (λ l. (0, Some value) ∷ rest l) holds.2) (subst (λ l. IsPrefix l (g.S.Storied.items value)) (sym (ap (λ m. m.0.stood) e)) begins)
          (subst (λ o. GoesOn g.S.Storied.later o value) (sym (ap (λ m. m.0.took) e)) went) c.requires.keeps (g.met.S.Storied.reflexive value) g.met.S.Storied.transitive g.met.S.Storied.same_root (omega arith) (omega arith),
    )

pub fetch_add-requires-2 : goal.fetch_add-requires-2
fetch_add-requires-2 g c =
    let me = c.seat.inside.inner.me in
    let value = c.args.held.value in
    let holds = held_seat me.1 me.0.stood c.seat.inside.length me.0.stage c.seat.invariant.slot (ap (λ t. t.has_turn) c.seat.view_is ∙ c.requires.has) in
    let e = c.exchange-empty.ensures.3 in
    let out = ap (λ m. m.1) e ∙ ap (λ l. (0, Some value) ∷ rest l) holds.2 in
    let f = (c.fetch_add.ensures.2 value out).1 in
    let parts = ap (λ m. m.0.parts) e in
    let parts' = ap (λ m. m.0.parts) f in
    let words = c.self.invariant.0 in
    let slots = c.self.invariant.1 in (
      c.fetch_add.ensures.0 ∙ (c.exchange-empty.ensures.0 ∙ (ap (λ t. t.turn) c.seat.view_is ∙ (c.requires.turn ∙ sym c.self.view_is))),
      omega arith,
      hands_on_allowed g.S.Storied.items g.S.Storied.root g.S.Storied.later g.S.Storied.keeps _ _ _ _ _ value (ap (λ m. m.0.stage) f ∙ (ap (λ m. m.0.stage) e ∙ holds.1)) (omega arith)
          (ap (λ m. m.1) f ∙ out) (ap (λ m. m.0.took) f) (ap (λ m. m.0.saw) f) (g.met.S.Storied.reflexive value) (omega arith),
    )
