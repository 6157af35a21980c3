use Rattle.std.proofs.Common.{ℕ, List}
use Rattle.hv_trail.specs.declared.trail.TrailItem.{TrailItem}
use Rattle.hv_table_reader.specs.hv_acts.specs.Told.{trail_in}
use Rattle.hv_table_reader.specs.hv_acts.specs.Answers.{NoTest, EntryFits}
use Rattle.hv_table_reader.specs.hv_acts.proofs.Lasting.{mark-lasts, abort-lasts}
use Rattle.hv_table_reader.specs.hv_acts.proofs.Aborts.{own-abort}
use Rattle.hv_table_reader.specs.hv_acts.proofs.Mine.{entry-mine}
use Rattle.hv_steps.specs.Ending.{aborting}
use Rattle.hv_steps.proofs.Joining.{held-adds, act-left, act-risen, why-now, answers-name, answers-why, note-ends, ends-rise, reached-front, found-told}
use Rattle.hv_steps.proofs.Aborts.{book-added, abort-replied, uncommitted-own}
use Rattle.hv_steps.proofs.refusing.abort.Goals as goal

pub hold-requires-clause-few : goal.hold-requires-clause-few
hold-requires-clause-few g c = g.met.W.Actor.one

pub hold-requires-clause-can : goal.hold-requires-clause-can
hold-requires-clause-can g c = λ house kept reached.
    let before = g.W.Actor.house c.args.actor.now in
    let front = reached-front g.D.Shelf.told g.D.Shelf.faults g.W.Actor.meanwhile g.met.W.Actor.goes_on before house reached in (
      c.requires.small,
      mark-lasts (trail_in before) (trail_in house) front c.args.txn c.args.cause c.requires.marked,
      λ told. abort-lasts (trail_in before) (trail_in house) front c.args.txn c.args.cause
          (c.requires.due (found-told g.D.Shelf.told g.D.Shelf.faults g.W.Actor.meanwhile g.met.W.Actor.goes_on before house house reached told)),
      uncommitted-own c.args.cause c.requires.uncommitted,
    )

pub returns-clause-adds : goal.returns-clause-adds
returns-clause-adds g c =
    held-adds g.D.Shelf.told g.D.Shelf.faults g.W.Actor.meanwhile g.met.W.Actor.goes_on (g.W.Actor.house c.args.actor.now) (g.W.Actor.house c.hold.new.self)
    g.W.Actor.between _ _ _ _ _ (g.W.Actor.own c.args.actor.now) (g.W.Actor.own c.hold.new.self) c.hold.ensures.held c.hold.ensures.went
    (book-added (λ place. aborting c.args.txn.0 c.args.cause) c.hold.result)
    (ends-rise c.hold.result _ _ (note-ends (aborting c.args.txn.0 c.args.cause) c.hold.result c.hold.ensures.held.step.may))
    (act-risen g.D.Shelf.told g.D.Shelf.faults g.W.Actor.meanwhile g.met.W.Actor.goes_on (g.W.Actor.house c.args.actor.now) (g.W.Actor.house c.hold.new.self)
    _ c.hold.result _ c.args.txn.0 c.hold.ensures.held c.hold.ensures.held.does_it.1)
    (entry-mine c.args.txn.0 (λ (place : ℕ). aborting c.args.txn.0 c.args.cause)
    (λ place. own-abort c.args.txn c.args.cause (uncommitted-own c.args.cause c.requires.uncommitted)) c.hold.result)

pub returns-clause-replied : goal.returns-clause-replied
returns-clause-replied g c =
    abort-replied g.D.Shelf.told g.D.Shelf.faults g.W.Actor.meanwhile (g.W.Actor.house c.args.actor.now) (g.W.Actor.house c.hold.new.self) c.args.txn c.args.cause c.hold.result
    c.requires.uncommitted c.hold.ensures.held

pub returns-clause-left : goal.returns-clause-left
returns-clause-left g c =
    let held = c.hold.ensures.held in
    let trail = trail_in held.house in
    act-left g.D.Shelf.told g.D.Shelf.faults g.W.Actor.meanwhile g.met.W.Actor.goes_on (g.W.Actor.house c.args.actor.now) (g.W.Actor.house c.hold.new.self)
    _ c.hold.result _ c.args.txn.0 held c.requires.running
    (answers-name NoTest trail c.args.txn (EntryFits trail (aborting c.args.txn.0 c.args.cause)) _ c.hold.result held.does_it.0) held.does_it.1

pub returns-clause-why : goal.returns-clause-why
returns-clause-why g c =
    let held = c.hold.ensures.held in
    let trail = trail_in held.house in
    why-now g.D.Shelf.told g.D.Shelf.faults g.W.Actor.meanwhile g.met.W.Actor.goes_on (g.W.Actor.house c.args.actor.now) (g.W.Actor.house c.hold.new.self)
    NoTest c.args.txn (λ (t : List TrailItem). EntryFits t (aborting c.args.txn.0 c.args.cause)) _ c.hold.result _ held
    (answers-why NoTest trail c.args.txn (EntryFits trail (aborting c.args.txn.0 c.args.cause)) _ c.hold.result held.does_it.0)

pub returns-clause-ends : goal.returns-clause-ends
returns-clause-ends g c = note-ends (aborting c.args.txn.0 c.args.cause) c.hold.result c.hold.ensures.held.step.may
