use Rattle.std.proofs.Common.{length, Some, refl, ap, ◌∙◌, sym, subst}
use Rattle.std.specs.Option.{IsSome}
use mathlib.Core.Option.{some-injective}
use Rattle.hv_turn.specs.Counts.{times, within}
use Rattle.hv_turn.proofs.Allowed.{closes, found_value}
use Rattle.hv_turn.proofs.turn.Turn.close.Goals as goal

pub unwrap-value-requires : goal.unwrap-value-requires
unwrap-value-requires g c =
    let all = ap (λ t. t.parts) c.into_inner.ensures.token ∙ c.requires.all in
    let end = closes g.S.Storied.items g.S.Storied.root g.S.Storied.later g.S.Storied.keeps _ _ _ _ _ c.close_with-closed.ensures.values.2 c.into_inner.ensures.free.0 all in
    subst IsSome (sym (some-injective _ _ (sym c.take.ensures.value ∙ end.home))) refl

pub returns-clause-root : goal.returns-clause-root
returns-clause-root g c =
    let all = ap (λ t. t.parts) c.into_inner.ensures.token ∙ c.requires.all in
    let end = closes g.S.Storied.items g.S.Storied.root g.S.Storied.later g.S.Storied.keeps _ _ _ _ _ c.close_with-closed.ensures.values.2 c.into_inner.ensures.free.0 all in
    let same = found_value _ _ _ _ c.take.ensures.value end.home c.unwrap-value.ensures in
    sym (ap (λ t. t.root) c.into_inner.ensures.token) ∙ (end.of_root ∙ ap (λ x. Some (g.S.Storied.root x)) same)

pub returns-clause-whole : goal.returns-clause-whole
returns-clause-whole g c =
    let all = ap (λ t. t.parts) c.into_inner.ensures.token ∙ c.requires.all in
    let end = closes g.S.Storied.items g.S.Storied.root g.S.Storied.later g.S.Storied.keeps _ _ _ _ _ c.close_with-closed.ensures.values.2 c.into_inner.ensures.free.0 all in
    let same = found_value _ _ _ _ c.take.ensures.value end.home c.unwrap-value.ensures in
    ap g.S.Storied.items (sym same) ∙ (end.whole ∙ ap (λ t. t.seen) c.into_inner.ensures.token)

pub returns-clause-keeps : goal.returns-clause-keeps
returns-clause-keeps g c =
    let all = ap (λ t. t.parts) c.into_inner.ensures.token ∙ c.requires.all in
    let end = closes g.S.Storied.items g.S.Storied.root g.S.Storied.later g.S.Storied.keeps _ _ _ _ _ c.close_with-closed.ensures.values.2 c.into_inner.ensures.free.0 all in
    let same = found_value _ _ _ _ c.take.ensures.value end.home c.unwrap-value.ensures in
    subst g.S.Storied.keeps same end.kept

pub returns-clause-value : goal.returns-clause-value
returns-clause-value g c =
    let all = ap (λ t. t.parts) c.into_inner.ensures.token ∙ c.requires.all in
    let end = closes g.S.Storied.items g.S.Storied.root g.S.Storied.later g.S.Storied.keeps _ _ _ _ _ c.close_with-closed.ensures.values.2 c.into_inner.ensures.free.0 all in
    let same = found_value _ _ _ _ c.take.ensures.value end.home c.unwrap-value.ensures in
    sym (ap (λ t. t.saw) c.into_inner.ensures.token) ∙ (end.last ∙ ap Some same)

pub returns-clause-places : goal.returns-clause-places
returns-clause-places g c p =
    let all = ap (λ t. t.parts) c.into_inner.ensures.token ∙ c.requires.all in
    let end = closes g.S.Storied.items g.S.Storied.root g.S.Storied.later g.S.Storied.keeps _ _ _ _ _ c.close_with-closed.ensures.values.2 c.into_inner.ensures.free.0 all in
    let same = found_value _ _ _ _ c.take.ensures.value end.home c.unwrap-value.ensures in
    let token = c.into_inner.ensures.token in
    sym (ap (λ t. times p t.own) token) ∙ (end.places p ∙ (ap (λ t. within t.start (length (g.S.Storied.items end.value)) p) token ∙ ap (λ x. within c.args.seat.start (length (g.S.Storied.items x)) p) same))
