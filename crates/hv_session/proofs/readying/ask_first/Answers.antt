use Rattle.std.proofs.Common.{Some, subst}
use Rattle.hv_history.specs.Asking.{numbers_in}
use Rattle.hv_beginning.specs.hv_steps.specs.hv_table_reader.specs.hv_acts.specs.Told.{trail_in}
use Rattle.hv_beginning.specs.hv_steps.specs.Going.{faults_in}
use Rattle.hv_beginning.specs.hv_steps.specs.Phases.{Asks}
use Rattle.hv_beginning.specs.hv_steps.specs.Requests.{HasAsked, IsAskIn}
use Rattle.hv_beginning.specs.hv_steps.specs.declared.reply.Asked.{Asked}
use Rattle.hv_beginning.specs.hv_steps.specs.declared.reply.Asked.TheVariants as asked
use Rattle.hv_beginning.specs.hv_steps.proofs.AsksMade.{asked-prepares, asking-ended, asked-all}
use Rattle.hv_beginning.specs.hv_steps.proofs.Joining.{on-way-opened}
use Rattle.hv_beginning.specs.hv_steps.proofs.Unseen.{way-place}
use Rattle.hv_session.proofs.Takings.{goes-said, done-way, done-comes}
use Rattle.hv_session.proofs.readying.ask_first.Goals as goal

pub ask-requires-clause-place : goal.ask-requires-clause-place
ask-requires-clause-place g c =
    way-place (trail_in (g.W.Actor.house c.args.actor.now)) c.requires.was.0 c.args.way c.args.tree.now c.requires.was.1

pub ask-requires-clause-was : goal.ask-requires-clause-was
ask-requires-clause-was g c =
    on-way-opened (trail_in (g.W.Actor.house c.args.actor.now)) c.requires.was.0 c.args.way c.args.tree.now c.requires.was.1

pub prepare-requires-clause-running : goal.prepare-requires-clause-running
prepare-requires-clause-running g c = c.in-Ok-All.ensures.goes.done.running

pub prepare-requires-clause-was : goal.prepare-requires-clause-was
prepare-requires-clause-was g c =
    let before = g.W.Actor.house c.args.actor.now in
    let now = g.W.Actor.house c.ask.new.actor in
    let IsAsk = Asks c.args.way.txn.0 now (IsAskIn now c.args.way c.args.tree.now) in
    let goes = goes-said c.in-Ok-All.field-0-is c.in-Ok-All.ensures.goes in (
      c.requires.was.0,
      c.args.tree.now,
      done-way g.D.Shelf.told g.D.Shelf.faults g.W.Actor.between g.met.W.Actor.rows g.W.Actor.meanwhile c.args.way.txn.0 (faults_in g.D.Shelf.faults before)
          (g.W.Actor.own c.args.actor.now) (g.W.Actor.own c.ask.new.actor) before now IsAsk asked.All c.requires.was.0 c.args.way c.args.tree.now goes c.requires.was.1,
      done-comes g.D.Shelf.told g.D.Shelf.faults g.W.Actor.between g.met.W.Actor.rows g.W.Actor.meanwhile c.args.way.txn.0 (faults_in g.D.Shelf.faults before)
          (g.W.Actor.own c.args.actor.now) (g.W.Actor.own c.ask.new.actor) before now IsAsk asked.All c.requires.was.0 c.args.way c.args.tree.now c.args.meaning goes
          c.requires.was.1 c.requires.comes,
      asked-all (trail_in now) c.args.way c.args.tree.now c.args.meaning
          (subst (λ (found : Asked). HasAsked now c.args.way (numbers_in (Some c.args.tree.now)) found) c.in-Ok-All.field-0-is c.in-Ok-All.ensures.asked),
    )

pub returns-in-Ok-All-clause-goes : goal.returns-in-Ok-All-clause-goes
returns-in-Ok-All-clause-goes g c =
    let goes = goes-said c.in-Ok-All.field-0-is c.in-Ok-All.ensures.goes in
    asked-prepares g.D.Shelf.told g.D.Shelf.faults g.W.Actor.between g.met.W.Actor.rows g.W.Actor.meanwhile (g.W.Actor.own c.args.actor.now) (g.W.Actor.own c.ask.new.actor)
    (g.W.Actor.own c.prepare.new.actor) (g.W.Actor.house c.args.actor.now) (g.W.Actor.house c.ask.new.actor) (g.W.Actor.house c.prepare.new.actor) c.args.way c.args.tree.now
    c.args.meaning c.requires.plain goes.done c.prepare.result c.prepare.ensures.goes

pub returns-in-Ok-Ended-clause-goes : goal.returns-in-Ok-Ended-clause-goes
returns-in-Ok-Ended-clause-goes g c =
    let goes = goes-said c.in-Ok-Ended.field-0-is c.in-Ok-Ended.ensures.goes in
    record {
      done = asking-ended g.D.Shelf.faults g.W.Actor.between g.met.W.Actor.rows (faults_in g.D.Shelf.faults (g.W.Actor.house c.args.actor.now))
          (g.W.Actor.own c.args.actor.now) (g.W.Actor.own c.ask.new.actor) (g.W.Actor.house c.args.actor.now) (g.W.Actor.house c.ask.new.actor) c.args.way c.args.tree.now
          c.args.meaning c.requires.plain c.in-Ok-Ended.found goes.done;
      halted = tt;
    }

pub returns-in-Err-clause-goes : goal.returns-in-Err-clause-goes
returns-in-Err-clause-goes g c = record { done = tt; halted = c.in-Err.ensures.goes.halted }
