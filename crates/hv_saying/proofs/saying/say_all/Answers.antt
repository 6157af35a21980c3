use Rattle.std.proofs.Common.{◌≡◌, List, length, ap, rules, arith}
use Rattle.hv_actor.specs.Acting.{among, known}
use Rattle.hv_session.specs.declared.asking.Asking.{Asking as Handed}
use Rattle.hv_saying.proofs.Sayings.{up-none, up-first, up-more, up-end, up-stops, empty-rest}
use Rattle.hv_saying.proofs.saying.say_all.Goals as goal

pub loop-asking-init : goal.loop-asking-init
loop-asking-init g c =
    let same : c.into_iter-asking-iterator.result.rest.items ≡ c.args.askings.items = search rules in
    let none = ap length c.requires.none in
    let count = ap (λ (hs : List Handed). length hs) same in
    let len = c.args.replies.now.ok.0 in
    let room = c.requires.room in (
      c.requires.keeps,
      up-none (among g.D.Shelf.told g.D.Shelf.faults g.W.Actor.between g.W.Actor.meanwhile)
          (known (g.W.Actor.own c.args.actor.now) (g.W.Actor.house c.args.actor.now))
          c.args.askings.items c.into_iter-asking-iterator.result.rest.items c.args.replies.now.items
          c.requires.running same c.requires.short c.requires.none,
      omega (arith, none, count, len, room),
    )

pub take_in_turn-requires-clause-short : goal.take_in_turn-requires-clause-short
take_in_turn-requires-clause-short g c κs _ =
    (up-first (among g.D.Shelf.told g.D.Shelf.faults g.W.Actor.between g.W.Actor.meanwhile)
    (known (g.W.Actor.own c.args.actor.now) (g.W.Actor.house c.args.actor.now)) (known (g.W.Actor.own c.loop-asking.actor) (g.W.Actor.house c.loop-asking.actor))
    c.args.askings.items c.loop-asking.asking-iterator.rest.items c.next.new.self.rest.items c.in-Some.asking c.loop-asking.replies.items
    c.in-Some.ensures.steps.0 c.loop-asking.invariant.1).text

pub take_in_turn-requires-clause-named : goal.take_in_turn-requires-clause-named
take_in_turn-requires-clause-named g c κs _ =
    (up-first (among g.D.Shelf.told g.D.Shelf.faults g.W.Actor.between g.W.Actor.meanwhile)
    (known (g.W.Actor.own c.args.actor.now) (g.W.Actor.house c.args.actor.now)) (known (g.W.Actor.own c.loop-asking.actor) (g.W.Actor.house c.loop-asking.actor))
    c.args.askings.items c.loop-asking.asking-iterator.rest.items c.next.new.self.rest.items c.in-Some.asking c.loop-asking.replies.items
    c.in-Some.ensures.steps.0 c.loop-asking.invariant.1).session

pub push_reserved-requires : goal.push_reserved-requires
push_reserved-requires g c =
    let count = ap length c.in-Some.ensures.steps.0 in
    let room = c.loop-asking.invariant.2 in omega (arith, count, room)

pub returns-in-Err-clause-stops : goal.returns-in-Err-clause-stops
returns-in-Err-clause-stops g c =
    up-stops (among g.D.Shelf.told g.D.Shelf.faults g.W.Actor.between g.W.Actor.meanwhile)
    (known (g.W.Actor.own c.args.actor.now) (g.W.Actor.house c.args.actor.now)) (known (g.W.Actor.own c.loop-asking.actor) (g.W.Actor.house c.loop-asking.actor))
    (known (g.W.Actor.own c.take_in_turn.new.actor) (g.W.Actor.house c.take_in_turn.new.actor))
    c.args.askings.items c.loop-asking.asking-iterator.rest.items c.next.new.self.rest.items c.in-Some.asking c.loop-asking.replies.items c.in-Err.why
    c.in-Some.ensures.steps.0 c.loop-asking.invariant.1 c.in-Err.ensures.halts

pub loop-asking-preserved : goal.loop-asking-preserved
loop-asking-preserved g c =
    let count = ap length c.in-Some.ensures.steps.0 in
    let room = c.loop-asking.invariant.2 in
    let len = c.push_reserved.ensures.len in
    let capacity = c.push_reserved.ensures.capacity in (
      c.take_in_turn.ensures.keeps,
      up-more (among g.D.Shelf.told g.D.Shelf.faults g.W.Actor.between g.W.Actor.meanwhile)
          (known (g.W.Actor.own c.args.actor.now) (g.W.Actor.house c.args.actor.now)) (known (g.W.Actor.own c.loop-asking.actor) (g.W.Actor.house c.loop-asking.actor))
          (known (g.W.Actor.own c.take_in_turn.new.actor) (g.W.Actor.house c.take_in_turn.new.actor))
          c.args.askings.items c.loop-asking.asking-iterator.rest.items c.next.new.self.rest.items c.in-Some.asking c.in-Ok.reply c.loop-asking.replies.items
          c.push_reserved.new.self.items c.in-Some.ensures.steps.0 c.push_reserved.ensures.items c.loop-asking.invariant.1 c.in-Ok.ensures.takes,
      omega (arith, count, room, len, capacity),
    )

pub returns-clause-says : goal.returns-clause-says
returns-clause-says g c =
    up-end (among g.D.Shelf.told g.D.Shelf.faults g.W.Actor.between g.W.Actor.meanwhile)
    (known (g.W.Actor.own c.args.actor.now) (g.W.Actor.house c.args.actor.now)) (known (g.W.Actor.own c.loop-asking.actor) (g.W.Actor.house c.loop-asking.actor))
    c.args.askings.items c.loop-asking.asking-iterator.rest.items c.loop-asking.replies.items
    (empty-rest c.loop-asking.asking-iterator.rest.len c.loop-asking.asking-iterator.rest.items c.loop-asking.asking-iterator.rest.ok.0 c.in-None.ensures.steps.0)
    c.loop-asking.invariant.1
