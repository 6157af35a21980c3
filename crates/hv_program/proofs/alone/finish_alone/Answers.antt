use Rattle.hv_session.specs.hv_beginning.specs.hv_steps.specs.Going.{faults_in}
use Rattle.hv_session.specs.Doing.{FinishesSo}
use Rattle.hv_program.proofs.Sessions.{acts-alone, is-kept, shuts-kept, finishing-whole, finishing-added, finishing-later, finishing-shut}
use Rattle.hv_program.proofs.alone.finish_alone.Goals as goal

pub finish-requires-clause-keeps : goal.finish-requires-clause-keeps
finish-requires-clause-keeps g c = is-kept g.D.Shelf.told g.D.Shelf.hard c.args.house.now c.requires.whole c.requires.hard

pub finish-requires-clause-running : goal.finish-requires-clause-running
finish-requires-clause-running g c = c.requires.whole.ready.kept.running

pub returns-clause-whole : goal.returns-clause-whole
returns-clause-whole g c =
    finishing-whole g.D.Shelf.told g.D.Shelf.faults c.args.paused.way.txn.0 c.args.house.now.house c.finish.new.actor.house c.finish.result
    (c.finish.ensures.alone acts-alone c.requires.truly).part

pub returns-clause-added : goal.returns-clause-added
returns-clause-added g c =
    finishing-added g.D.Shelf.told g.D.Shelf.faults c.args.paused.way.txn.0 c.args.house.now.house c.finish.new.actor.house c.finish.result
    (c.finish.ensures.alone acts-alone c.requires.truly).part

pub returns-clause-later : goal.returns-clause-later
returns-clause-later g c =
    finishing-later g.D.Shelf.faults _ (faults_in g.D.Shelf.faults c.args.house.now) c.args.paused.way.txn.0 _ _ c.args.house.now c.finish.new.actor c.finish.result
    (FinishesSo g.D.Shelf.told c.finish.new.actor c.args.paused) c.finish.ensures.goes.done

pub returns-clause-finished : goal.returns-clause-finished
returns-clause-finished g c = (c.finish.ensures.alone acts-alone c.requires.truly).truly

pub returns-clause-start : goal.returns-clause-start
returns-clause-start g c = (c.finish.ensures.alone acts-alone c.requires.truly).part.start

pub returns-clause-stopped : goal.returns-clause-stopped
returns-clause-stopped g c = (c.finish.ensures.alone acts-alone c.requires.truly).part.stopped

pub returns-clause-opens : goal.returns-clause-opens
returns-clause-opens g c = (c.finish.ensures.alone acts-alone c.requires.truly).part.opens

pub returns-clause-cause : goal.returns-clause-cause
returns-clause-cause g c = (c.finish.ensures.alone acts-alone c.requires.truly).part.cause

pub returns-clause-hard : goal.returns-clause-hard
returns-clause-hard g c = shuts-kept g.D.Shelf.told g.D.Shelf.hard c.finish.new.actor c.finish.ensures.keeps

pub returns-clause-shut : goal.returns-clause-shut
returns-clause-shut g c =
    finishing-shut g.D.Shelf.told g.D.Shelf.faults c.args.paused.way.txn.0 _ _ c.args.house.now c.finish.new.actor c.finish.result c.finish.ensures.goes.halted
