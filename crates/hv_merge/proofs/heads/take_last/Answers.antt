use Rattle.std.proofs.Common.{◌≡◌, ◌∙◌, ap, sym, rules, false}
use Rattle.hv_merge.specs.Steps.{begins_at, behind_at, front_at, later}
use Rattle.hv_merge.proofs.Places.{place-behind, place-last, stay-behind, stay-last}
use Rattle.hv_merge.proofs.heads.take_last.Goals as goal

pub loop-place-preserved-then-not-begins_at : goal.loop-place-preserved-then-not-begins_at
loop-place-preserved-then-not-begins_at c =
    let d = c.index.result.now in
    let no : begins_at c.args.id c.index.result.now.items ≡ false = search rules in
    record {
      behind = stay-behind (λ head. head.items) c.args.list.now c.args.id c.loop-place.heads.items c.loop-place.place d _ (search rules)
          (ap (λ head. begins_at c.args.id head.items) (sym c.index.ensures) ∙ no) c.loop-place.invariant.behind;
      last = stay-last (λ head. head.items) c.args.list.now c.args.id c.loop-place.heads.items c.loop-place.place d c.loop-place.last _ (search rules)
          (ap (λ head. begins_at c.args.id head.items) (sym c.index.ensures) ∙ no) c.loop-place.invariant.last;
    }

pub loop-place-preserved : goal.loop-place-preserved
loop-place-preserved c =
    let d = c.index_mut.result.now in
    record {
      behind = place-behind (λ head. head.items) c.args.list.now c.args.id c.loop-place.heads.items c.loop-place.place d c.take_front-front.new.head _ (search rules)
          (c.take_front-front.ensures.behind ∙ ap (λ head. behind_at c.args.id head.items) c.index_mut.ensures.value) c.loop-place.invariant.behind;
      last = place-last (λ head. head.items) c.args.list.now c.args.id c.loop-place.heads.items c.loop-place.place d c.take_front-front.new.head c.loop-place.last c.later-last.result _ (search rules)
          (c.later-last.ensures ∙ ap (later c.loop-place.last) (c.take_front-front.ensures.front ∙ ap (λ head. front_at c.args.list.now c.args.id head.items) c.index_mut.ensures.value)) c.loop-place.invariant.last;
    }
