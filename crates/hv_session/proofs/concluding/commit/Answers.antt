use Rattle.hv_beginning.specs.hv_steps.specs.hv_table_reader.specs.hv_acts.specs.Told.{trail_in}
use Rattle.hv_beginning.specs.hv_steps.specs.hv_table_reader.specs.hv_acts.proofs.Lasting.{put-lasts, commit-lasts}
use Rattle.hv_beginning.specs.hv_steps.specs.hv_table_reader.specs.hv_acts.proofs.Mine.{commit-mine}
use Rattle.hv_beginning.specs.hv_steps.proofs.Joining.{reached-front, found-told, held-adds, act-left, act-risen, ends-rise}
use Rattle.hv_session.proofs.Commits.{commit-ends, commit-book, commit-names, commit-ended, commit-answered}
use Rattle.hv_session.proofs.concluding.commit.Goals as goal

pub hold-requires-clause-few : goal.hold-requires-clause-few
hold-requires-clause-few g c = g.met.W.Actor.one

pub hold-requires-clause-can : goal.hold-requires-clause-can
hold-requires-clause-can g c = λ house kept reached.
    let before = g.W.Actor.house c.args.actor.now in
    let front = reached-front g.D.Shelf.told g.D.Shelf.faults g.W.Actor.meanwhile g.met.W.Actor.goes_on before house reached in (
      c.requires.small,
      put-lasts (trail_in before) (trail_in house) front c.args.txn c.args.wrote c.args.put c.requires.can,
      λ told. commit-lasts (trail_in before) (trail_in house) front c.args.txn c.args.wrote c.args.put
          (c.requires.due (found-told g.D.Shelf.told g.D.Shelf.faults g.W.Actor.meanwhile g.met.W.Actor.goes_on before house house reached told)),
    )

pub returns-clause-adds : goal.returns-clause-adds
returns-clause-adds g c =
    held-adds g.D.Shelf.told g.D.Shelf.faults g.W.Actor.meanwhile g.met.W.Actor.goes_on (g.W.Actor.house c.args.actor.now) (g.W.Actor.house c.hold.new.self)
    g.W.Actor.between _ _ _ _ _ (g.W.Actor.own c.args.actor.now) (g.W.Actor.own c.hold.new.self) c.hold.ensures.held c.hold.ensures.went
    (commit-book c.args.txn c.args.wrote c.hold.result)
    (ends-rise c.hold.result _ _ (commit-ends c.args.txn c.args.wrote c.hold.result c.hold.ensures.held.step.may))
    (act-risen g.D.Shelf.told g.D.Shelf.faults g.W.Actor.meanwhile g.met.W.Actor.goes_on (g.W.Actor.house c.args.actor.now) (g.W.Actor.house c.hold.new.self)
    _ c.hold.result _ c.args.txn.0 c.hold.ensures.held c.hold.ensures.held.does_it.1)
    (commit-mine (trail_in c.hold.ensures.held.house) c.args.txn c.args.wrote c.args.name c.args.put c.hold.result c.hold.ensures.held.does_it.0)

pub returns-clause-ended : goal.returns-clause-ended
returns-clause-ended g c =
    commit-ended g.D.Shelf.told g.D.Shelf.faults g.W.Actor.meanwhile g.met.W.Actor.goes_on (g.W.Actor.house c.args.actor.now) (g.W.Actor.house c.hold.new.self)
    c.args.txn c.args.wrote c.args.name c.args.put c.hold.result c.hold.ensures.held

pub returns-clause-answered : goal.returns-clause-answered
returns-clause-answered g c = λ text due.
    commit-answered g.D.Shelf.told g.D.Shelf.faults g.W.Actor.meanwhile g.met.W.Actor.goes_on (g.W.Actor.house c.args.actor.now) (g.W.Actor.house c.hold.new.self)
    c.args.txn c.args.wrote c.args.name c.args.put c.hold.result c.hold.ensures.held text due

pub returns-clause-left : goal.returns-clause-left
returns-clause-left g c =
    let held = c.hold.ensures.held in
    act-left g.D.Shelf.told g.D.Shelf.faults g.W.Actor.meanwhile g.met.W.Actor.goes_on (g.W.Actor.house c.args.actor.now) (g.W.Actor.house c.hold.new.self)
    _ c.hold.result _ c.args.txn.0 held c.requires.running
    (commit-names c.args.txn c.args.wrote (trail_in held.house) c.args.name c.args.put c.hold.result held.does_it.0) held.does_it.1

pub returns-clause-ends : goal.returns-clause-ends
returns-clause-ends g c = commit-ends c.args.txn c.args.wrote c.hold.result c.hold.ensures.held.step.may
