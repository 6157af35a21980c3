use Rattle.hv_actor.specs.Acting.{known}
use Rattle.std.proofs.Common.{[], ◌∷◌, List, take, get_or, sym, subst}
use Rattle.std.proofs.lemmas.List.{take_all}
use Rattle.hv_actor.specs.Acting.{among}
use Rattle.hv_job_acts.specs.hv_acts.specs.Told.{trail_in}
use Rattle.hv_job_acts.specs.declared.asking.LostId.{LostId}
use Rattle.hv_clean.specs.Passing.{ForgetEach, ids_of}
use Rattle.hv_clean.proofs.Moved.{sweeps-none, ids-append, moves-ids, moves-front}
use Rattle.hv_clean.proofs.Came.{ids-stop}
use Rattle.hv_clean.proofs.Lasts.{all-lost}
use Rattle.hv_clean.proofs.Forgets.{lost-at, ids-next}
use Rattle.hv_clean.proofs.forgetting.forget_listed.Goals as goal

pub loop-id-init : goal.loop-id-init
loop-id-init g c = (
  c.requires.keeps,
  c.requires.running,
  c.requires.lost,
  sweeps-none g.D.Shelf.told g.D.Shelf.faults g.W.Actor.between g.met.W.Actor.rows g.W.Actor.meanwhile (known (g.W.Actor.own c.args.actor.now) (g.W.Actor.house c.args.actor.now)) c.args.swept.now c.requires.running,
)

pub forget_if-requires-clause-lost : goal.forget_if-requires-clause-lost
forget_if-requires-clause-lost g c =
    lost-at (trail_in (g.W.Actor.house c.loop-id.actor)) c.args.ids.now c.loop-id.id-index (record { table = record { 0 = 0 }; write = record { 0 = 0 } }) c.loop-id-test.true c.loop-id.invariant.2

pub returns-in-Err-clause-less : goal.returns-in-Err-clause-less
returns-in-Err-clause-less g c =
    ids-stop g.D.Shelf.told g.D.Shelf.faults g.W.Actor.between g.met.W.Actor.rows g.W.Actor.meanwhile (known (g.W.Actor.own c.args.actor.now) (g.W.Actor.house c.args.actor.now)) (known (g.W.Actor.own c.loop-id.actor) (g.W.Actor.house c.loop-id.actor)) (known (g.W.Actor.own c.forget_if.new.actor) (g.W.Actor.house c.forget_if.new.actor)) c.args.table c.args.ids.now c.loop-id.id-index c.args.swept.now c.loop-id.swept c.in-Err.why c.loop-id.invariant.3 c.in-Err.ensures.less

pub loop-id-preserved : goal.loop-id-preserved
loop-id-preserved g c =
    let ids = c.args.ids.now in
    let i = c.loop-id.id-index in
    let id : LostId = get_or ids i (record { table = record { 0 = 0 }; write = record { 0 = 0 } }) in
    let one = c.in_default.ensures.forgets in
    let moves = moves-ids g.D.Shelf.told g.D.Shelf.faults g.W.Actor.between g.met.W.Actor.rows g.W.Actor.meanwhile (known (g.W.Actor.own c.loop-id.actor) (g.W.Actor.house c.loop-id.actor)) (known (g.W.Actor.own c.forget_if.new.actor) (g.W.Actor.house c.forget_if.new.actor)) (ids_of c.args.table (id ∷ [])) c.loop-id.swept c.forget_if.new.swept one in (
      c.forget_if.ensures.keeps,
      moves.running,
      all-lost (trail_in (g.W.Actor.house c.loop-id.actor)) (trail_in (g.W.Actor.house c.forget_if.new.actor)) (moves-front g.D.Shelf.told g.D.Shelf.faults g.W.Actor.between g.met.W.Actor.rows g.W.Actor.meanwhile (known (g.W.Actor.own c.loop-id.actor) (g.W.Actor.house c.loop-id.actor)) (known (g.W.Actor.own c.forget_if.new.actor) (g.W.Actor.house c.forget_if.new.actor)) moves) ids c.loop-id.invariant.2,
      subst (λ (xs : List LostId). ForgetEach (among g.D.Shelf.told g.D.Shelf.faults g.W.Actor.between g.W.Actor.meanwhile) (known (g.W.Actor.own c.args.actor.now) (g.W.Actor.house c.args.actor.now)) (known (g.W.Actor.own c.forget_if.new.actor) (g.W.Actor.house c.forget_if.new.actor)) xs c.args.swept.now c.forget_if.new.swept)
          (sym (ids-next c.args.table ids i (record { table = record { 0 = 0 }; write = record { 0 = 0 } }) c.loop-id-test.true))
          (ids-append g.D.Shelf.told g.D.Shelf.faults g.W.Actor.between g.met.W.Actor.rows g.W.Actor.meanwhile (known (g.W.Actor.own c.args.actor.now) (g.W.Actor.house c.args.actor.now)) (known (g.W.Actor.own c.loop-id.actor) (g.W.Actor.house c.loop-id.actor)) (known (g.W.Actor.own c.forget_if.new.actor) (g.W.Actor.house c.forget_if.new.actor)) (ids_of c.args.table (take i ids)) (ids_of c.args.table (id ∷ [])) c.args.swept.now c.loop-id.swept
          c.forget_if.new.swept c.loop-id.invariant.3 one),
    )

pub returns-clause-forgets : goal.returns-clause-forgets
returns-clause-forgets g c =
    subst (λ (xs : List LostId). ForgetEach (among g.D.Shelf.told g.D.Shelf.faults g.W.Actor.between g.W.Actor.meanwhile) (known (g.W.Actor.own c.args.actor.now) (g.W.Actor.house c.args.actor.now)) (known (g.W.Actor.own c.loop-id.actor) (g.W.Actor.house c.loop-id.actor)) (ids_of c.args.table xs) c.args.swept.now c.loop-id.swept)
    (take_all c.loop-id.id-index c.args.ids.now c.loop-id-test.false) c.loop-id.invariant.3
