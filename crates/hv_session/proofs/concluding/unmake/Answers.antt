use Rattle.std.proofs.Common.{refl}
use Rattle.hv_beginning.specs.hv_steps.specs.hv_table_reader.specs.hv_acts.specs.Told.{trail_in}
use Rattle.hv_beginning.specs.hv_steps.specs.hv_table_reader.specs.hv_acts.specs.Answers.{NoTest}
use Rattle.hv_beginning.specs.hv_steps.specs.hv_table_reader.specs.hv_acts.specs.Dropping.{CanDrop, drop_of}
use Rattle.hv_beginning.specs.hv_steps.specs.hv_table_reader.specs.hv_acts.proofs.Lasting.{drop-lasts}
use Rattle.hv_beginning.specs.hv_steps.specs.hv_table_reader.specs.hv_acts.proofs.Mine.{entry-mine}
use Rattle.hv_beginning.specs.hv_steps.proofs.Joining.{reached-front, found-told, held-adds, act-left, act-risen, answers-name, note-ends, ends-rise}
use Rattle.hv_beginning.specs.hv_steps.proofs.Aborts.{book-added}
use Rattle.hv_session.proofs.Commits.{drop-replied}
use Rattle.hv_session.proofs.concluding.unmake.Goals as goal

pub hold-requires-clause-few : goal.hold-requires-clause-few
hold-requires-clause-few g c = g.met.W.Actor.one

pub hold-requires-clause-can : goal.hold-requires-clause-can
hold-requires-clause-can g c = λ house kept reached told.
    let before = g.W.Actor.house c.args.actor.now in
    let front = reached-front g.D.Shelf.told g.D.Shelf.faults g.W.Actor.meanwhile g.met.W.Actor.goes_on before house reached in
    drop-lasts (trail_in before) (trail_in house) front c.args.txn c.args.table
    (c.requires.due (found-told g.D.Shelf.told g.D.Shelf.faults g.W.Actor.meanwhile g.met.W.Actor.goes_on before house house reached told))

pub returns-clause-adds : goal.returns-clause-adds
returns-clause-adds g c =
    held-adds g.D.Shelf.told g.D.Shelf.faults g.W.Actor.meanwhile g.met.W.Actor.goes_on (g.W.Actor.house c.args.actor.now) (g.W.Actor.house c.hold.new.self)
    g.W.Actor.between _ _ _ _ _ (g.W.Actor.own c.args.actor.now) (g.W.Actor.own c.hold.new.self) c.hold.ensures.held c.hold.ensures.went
    (book-added (drop_of c.args.txn c.args.table) c.hold.result)
    (ends-rise c.hold.result _ _ (note-ends _ c.hold.result c.hold.ensures.held.step.may))
    (act-risen g.D.Shelf.told g.D.Shelf.faults g.W.Actor.meanwhile g.met.W.Actor.goes_on (g.W.Actor.house c.args.actor.now) (g.W.Actor.house c.hold.new.self)
    _ c.hold.result _ c.args.txn.0 c.hold.ensures.held c.hold.ensures.held.does_it.1)
    (entry-mine c.args.txn.0 (drop_of c.args.txn c.args.table) (λ at. refl) c.hold.result)

pub returns-clause-replied : goal.returns-clause-replied
returns-clause-replied g c =
    drop-replied g.D.Shelf.told g.D.Shelf.faults g.W.Actor.meanwhile (g.W.Actor.house c.args.actor.now) (g.W.Actor.house c.hold.new.self) c.args.txn c.args.table c.hold.result
    c.hold.ensures.held

pub returns-clause-left : goal.returns-clause-left
returns-clause-left g c =
    let held = c.hold.ensures.held in
    let trail = trail_in held.house in
    act-left g.D.Shelf.told g.D.Shelf.faults g.W.Actor.meanwhile g.met.W.Actor.goes_on (g.W.Actor.house c.args.actor.now) (g.W.Actor.house c.hold.new.self)
    _ c.hold.result _ c.args.txn.0 held c.requires.running
    (answers-name NoTest trail c.args.txn (CanDrop trail c.args.txn c.args.table) _ c.hold.result held.does_it.0) held.does_it.1

pub returns-clause-ends : goal.returns-clause-ends
returns-clause-ends g c = note-ends _ c.hold.result c.hold.ensures.held.step.may
