use Rattle.std.proofs.Common.{le_refl}
use Rattle.hv_session.specs.hv_beginning.specs.hv_steps.specs.Going.{faults_in}
use Rattle.hv_session.specs.Doing.{TakesText}
use Rattle.hv_session.specs.Taking.{asked_of}
use Rattle.hv_session.proofs.Statements.{taken-can}
use Rattle.hv_program.proofs.Sessions.{acts-alone, is-kept, shuts-kept, taking-whole, taking-added, taking-later, taking-shut}
use Rattle.hv_program.proofs.alone.take_alone.Goals as goal

pub take_up-requires-clause-keeps : goal.take_up-requires-clause-keeps
take_up-requires-clause-keeps g c = is-kept g.D.Shelf.told g.D.Shelf.hard c.args.house.now c.requires.whole c.requires.hard

pub take_up-requires-clause-both : goal.take_up-requires-clause-both
take_up-requires-clause-both g c = le_refl 2

pub take_up-requires-clause-running : goal.take_up-requires-clause-running
take_up-requires-clause-running g c = c.requires.whole.ready.kept.running

pub returns-clause-whole : goal.returns-clause-whole
returns-clause-whole g c =
    taking-whole g.D.Shelf.told g.D.Shelf.faults (asked_of c.args.asking) c.args.house.now.house c.take_up.new.actor.house c.take_up.result
    (c.take_up.ensures.alone acts-alone).taking

pub returns-clause-added : goal.returns-clause-added
returns-clause-added g c =
    taking-added g.D.Shelf.told g.D.Shelf.faults (asked_of c.args.asking) c.args.house.now.house c.take_up.new.actor.house c.take_up.result
    (c.take_up.ensures.alone acts-alone).taking

pub returns-clause-later : goal.returns-clause-later
returns-clause-later g c =
    taking-later g.D.Shelf.faults _ (faults_in g.D.Shelf.faults c.args.house.now) _ _ c.args.house.now c.take_up.new.actor c.take_up.result
    (TakesText g.D.Shelf.told c.args.house.now c.take_up.new.actor (asked_of c.args.asking) c.args.asking.hold) c.take_up.ensures.takes

pub returns-clause-held : goal.returns-clause-held
returns-clause-held g c = (c.take_up.ensures.alone acts-alone).held

pub returns-clause-can : goal.returns-clause-can
returns-clause-can g c =
    taken-can g.D.Shelf.told g.D.Shelf.faults _ (faults_in g.D.Shelf.faults c.args.house.now) _ _ c.args.house.now c.take_up.new.actor (asked_of c.args.asking) c.args.asking.hold
    c.take_up.result c.take_up.ensures.takes

pub returns-clause-taken : goal.returns-clause-taken
returns-clause-taken g c = (c.take_up.ensures.alone acts-alone).truly

pub returns-clause-start : goal.returns-clause-start
returns-clause-start g c = (c.take_up.ensures.alone acts-alone).taking.start

pub returns-clause-stopped : goal.returns-clause-stopped
returns-clause-stopped g c = (c.take_up.ensures.alone acts-alone).taking.stopped

pub returns-clause-opens : goal.returns-clause-opens
returns-clause-opens g c = (c.take_up.ensures.alone acts-alone).taking.opens

pub returns-clause-cause : goal.returns-clause-cause
returns-clause-cause g c = (c.take_up.ensures.alone acts-alone).taking.cause

pub returns-clause-hard : goal.returns-clause-hard
returns-clause-hard g c = shuts-kept g.D.Shelf.told g.D.Shelf.hard c.take_up.new.actor c.take_up.ensures.keeps

pub returns-clause-shut : goal.returns-clause-shut
returns-clause-shut g c =
    taking-shut g.D.Shelf.told g.D.Shelf.faults (asked_of c.args.asking) _ _ c.args.house.now c.take_up.new.actor c.take_up.result c.take_up.ensures.halts
