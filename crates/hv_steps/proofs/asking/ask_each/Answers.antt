use Rattle.std.proofs.Common.{◌≡◌, ◌+◌, ◌++◌, [], ◌∷◌, take, drop, get_or, ap, sym, ◌∙◌, subst}
use Rattle.std.proofs.lemmas.List.{take_more, take_all, drop_more, take-append-drop}
use Rattle.hv_table_reader.specs.hv_acts.specs.Told.{trail_in}
use Rattle.hv_table_reader.specs.hv_acts.specs.Passing.{AllPassed}
use Rattle.hv_table_reader.specs.hv_acts.proofs.Readings.{place-lasts}
use Rattle.hv_steps.proofs.Joining.{adds-front}
use Rattle.hv_steps.proofs.Requests.{asks-none, asks-more, asks-refused, passed-more}
use Rattle.hv_steps.proofs.asking.ask_each.Goals as goal

pub loop-number-init : goal.loop-number-init
loop-number-init g c = (
  c.requires.keeps,
  c.requires.running,
  c.requires.place,
  asks-none g.D.Shelf.faults g.W.Actor.between g.met.W.Actor.rows (g.W.Actor.own c.args.actor.now) (g.W.Actor.house c.args.actor.now) c.args.way c.args.numbers.now,
  tt,
)

pub returns-in-Err-clause-asks : goal.returns-in-Err-clause-asks
returns-in-Err-clause-asks g c =
    asks-refused g.D.Shelf.faults g.W.Actor.between g.met.W.Actor.rows (g.W.Actor.own c.args.actor.now) (g.W.Actor.own c.loop-number.actor) (g.W.Actor.own c.ask_one.new.actor)
    (g.W.Actor.house c.args.actor.now) (g.W.Actor.house c.loop-number.actor) (g.W.Actor.house c.ask_one.new.actor) c.args.way c.args.numbers.now
    c.loop-number.invariant.3 c.in-Err.ensures.adds

pub loop-number-preserved : goal.loop-number-preserved
loop-number-preserved g c =
    let numbers = c.args.numbers.now in
    let i = c.loop-number.number-index in
    let number = get_or numbers i 0 in
    let b = g.W.Actor.house c.loop-number.actor in
    let e = g.W.Actor.house c.ask_one.new.actor in
    let more : take (i + 1) numbers ≡ take i numbers ++ number ∷ [] = take_more numbers i 0 c.loop-number-test.true in
    let whole : take i numbers ++ number ∷ drop (i + 1) numbers ≡ numbers =
    ap (λ r. take i numbers ++ r) (sym (drop_more numbers i 0 c.loop-number-test.true)) ∙ take-append-drop i numbers in (
      c.ask_one.ensures.keeps,
      c.in_default.ensures.left,
      place-lasts (trail_in b) (trail_in e)
          (adds-front g.D.Shelf.faults g.W.Actor.between g.met.W.Actor.rows (g.W.Actor.own c.loop-number.actor) (g.W.Actor.own c.ask_one.new.actor) b e _ c.in_default.ensures.adds)
          c.args.way.place c.loop-number.invariant.2,
      asks-more g.D.Shelf.faults g.W.Actor.between g.met.W.Actor.rows (g.W.Actor.own c.args.actor.now) (g.W.Actor.own c.loop-number.actor) (g.W.Actor.own c.ask_one.new.actor)
          (g.W.Actor.house c.args.actor.now) b e c.args.way number (take i numbers) (drop (i + 1) numbers) numbers _ whole
          c.loop-number.invariant.3 c.loop-number.invariant.4 c.in_default.ensures.adds c.in_default.ensures.asked,
      subst (AllPassed (trail_in e) c.args.way.txn c.args.way.place) (sym more)
          (passed-more g.D.Shelf.faults g.W.Actor.between g.met.W.Actor.rows (g.W.Actor.own c.loop-number.actor) (g.W.Actor.own c.ask_one.new.actor) b e c.args.way number
          (take i numbers) _ c.loop-number.invariant.4 c.in_default.ensures.adds c.in_default.ensures.passed),
    )

pub returns-clause-passed : goal.returns-clause-passed
returns-clause-passed g c =
    subst (AllPassed (trail_in (g.W.Actor.house c.loop-number.actor)) c.args.way.txn c.args.way.place)
    (take_all c.loop-number.number-index c.args.numbers.now c.loop-number-test.false) c.loop-number.invariant.4
