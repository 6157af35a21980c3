use Rattle.std.proofs.Common.{◌≡◌, ◌+◌, ◌++◌, [], ◌∷◌, List, take, ap, sym, ◌∙◌, subst, arith}
use Rattle.std.proofs.lemmas.List.{take_more, take_all}
use Rattle.hv_actor.specs.Acting.{among, known}
use Rattle.hv_job_acts.specs.declared.asking.PartAt.{PartAt}
use Rattle.hv_job_acts.specs.hv_acts.specs.Told.{trail_in}
use Rattle.hv_compact.specs.Initiating.{AsksSome}
use Rattle.hv_compact.proofs.Turns.{some-none, some-more, some-less, few-turn}
use Rattle.hv_compact.proofs.initiating.ask_each.Goals as goal

pub loop-part-init : goal.loop-part-init
loop-part-init g c = (
  c.requires.keeps,
  some-none g.D.Shelf.told g.D.Shelf.faults g.W.Actor.between g.W.Actor.meanwhile g.met.W.Actor.goes_on g.met.W.Actor.rows
      (known (g.W.Actor.own c.args.actor.now) (g.W.Actor.house c.args.actor.now)) c.requires.running,
  omega arith,
)

pub loop-part-preserved : goal.loop-part-preserved
loop-part-preserved g c =
    let parts = c.args.parts.now in
    let i = c.loop-part.part-index in
    let part = c.part-item.result in
    let a = known (g.W.Actor.own c.args.actor.now) (g.W.Actor.house c.args.actor.now) in
    let b = known (g.W.Actor.own c.loop-part.actor) (g.W.Actor.house c.loop-part.actor) in
    let e = known (g.W.Actor.own c.ask_part.new.actor) (g.W.Actor.house c.ask_part.new.actor) in
    let more : take (i + 1) parts ≡ take i parts ++ part ∷ [] =
    take_more parts i part c.loop-part-test.true ∙ ap (λ (f : PartAt). take i parts ++ f ∷ []) (sym c.part-item.is) in
    let turn = c.in-Ok.ensures.asks in
    let few = few-turn (trail_in b.house) (trail_in e.house) part turn.items turn.turn in
    let one = turn.count in
    let least = c.loop-part.invariant.2 in (
      c.ask_part.ensures.keeps,
      subst (λ (ps : List PartAt). AsksSome (among g.D.Shelf.told g.D.Shelf.faults g.W.Actor.between g.W.Actor.meanwhile) a e ps (c.loop-part.count + c.in-Ok.asked)) (sym more)
          (some-more g.D.Shelf.told g.D.Shelf.faults g.W.Actor.between g.W.Actor.meanwhile g.met.W.Actor.goes_on g.met.W.Actor.rows a b e (take i parts) part c.loop-part.count
          c.in-Ok.asked c.loop-part.invariant.1 turn),
      omega (arith, few, one, least),
    )

pub returns-in-Err-clause-less : goal.returns-in-Err-clause-less
returns-in-Err-clause-less g c =
    let i = c.loop-part.part-index in
    let part = c.part-item.result in
    let a = known (g.W.Actor.own c.args.actor.now) (g.W.Actor.house c.args.actor.now) in
    let b = known (g.W.Actor.own c.loop-part.actor) (g.W.Actor.house c.loop-part.actor) in
    let e = known (g.W.Actor.own c.ask_part.new.actor) (g.W.Actor.house c.ask_part.new.actor) in
    some-less g.D.Shelf.told g.D.Shelf.faults g.W.Actor.between g.W.Actor.meanwhile g.met.W.Actor.goes_on g.met.W.Actor.rows a b e c.args.parts.now part i c.loop-part.count
    c.in-Err.why c.loop-part.invariant.1 c.in-Err.ensures.asks

pub returns-clause-some : goal.returns-clause-some
returns-clause-some g c =
    let a = known (g.W.Actor.own c.args.actor.now) (g.W.Actor.house c.args.actor.now) in
    let b = known (g.W.Actor.own c.loop-part.actor) (g.W.Actor.house c.loop-part.actor) in
    subst (λ (ps : List PartAt). AsksSome (among g.D.Shelf.told g.D.Shelf.faults g.W.Actor.between g.W.Actor.meanwhile) a b ps c.loop-part.count)
    (take_all c.loop-part.part-index c.args.parts.now c.loop-part-test.false) c.loop-part.invariant.1
