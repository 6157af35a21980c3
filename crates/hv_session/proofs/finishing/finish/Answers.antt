use Rattle.std.proofs.Common.{[]}
use Rattle.hv_beginning.specs.hv_steps.proofs.Joining.{told-later}
use Rattle.hv_session.proofs.Lastings.{later-finishes}
use Rattle.hv_session.proofs.Finishings.{asked-goes, unasked-goes, asked-alone, unasked-alone}
use Rattle.hv_session.proofs.finishing.finish.Goals as goal

pub finish_unless-requires-clause-can : goal.finish_unless-requires-clause-can
finish_unless-requires-clause-can g c =
    later-finishes g.D.Shelf.told g.D.Shelf.faults (g.W.Actor.house c.args.actor.now) (g.W.Actor.house c.tell_end.new.actor) c.in-Ok.ensures.adds.later
    c.args.paused c.requires.can

pub returns-in-Ok-clause-goes : goal.returns-in-Ok-clause-goes
returns-in-Ok-clause-goes g c =
    asked-goes g.D.Shelf.told g.D.Shelf.faults g.W.Actor.between g.met.W.Actor.rows g.W.Actor.meanwhile c.args.paused (g.W.Actor.own c.args.actor.now) (g.W.Actor.own c.tell_end.new.actor)
    (g.W.Actor.own c.finish_unless.new.actor) (g.W.Actor.house c.args.actor.now) (g.W.Actor.house c.tell_end.new.actor)
    (g.W.Actor.house c.finish_unless.new.actor) c.finish_unless.result c.in-Ok.ensures.adds c.finish_unless.ensures.goes

pub returns-in-Ok-clause-answered : goal.returns-in-Ok-clause-answered
returns-in-Ok-clause-answered g c = λ told.
    c.finish_unless.ensures.answered
    (told-later g.D.Shelf.faults g.W.Actor.between g.met.W.Actor.rows g.D.Shelf.told (g.W.Actor.own c.args.actor.now) (g.W.Actor.own c.tell_end.new.actor)
    (g.W.Actor.house c.args.actor.now) (g.W.Actor.house c.tell_end.new.actor) [] c.in-Ok.ensures.adds told)

pub returns-in-Ok-clause-alone : goal.returns-in-Ok-clause-alone
returns-in-Ok-clause-alone g c = λ alone stands.
    asked-alone g.D.Shelf.told g.D.Shelf.faults g.W.Actor.between g.met.W.Actor.rows g.W.Actor.meanwhile alone c.args.paused (g.W.Actor.own c.args.actor.now)
    (g.W.Actor.own c.tell_end.new.actor) (g.W.Actor.own c.finish_unless.new.actor) (g.W.Actor.house c.args.actor.now) (g.W.Actor.house c.tell_end.new.actor)
    (g.W.Actor.house c.finish_unless.new.actor) c.finish_unless.result c.requires.running
    (g.met.W.Actor.kept c.finish_unless.new.actor c.finish_unless.ensures.keeps) c.in-Ok.ensures.adds (returns-in-Ok-clause-goes g c)
    (c.finish_unless.ensures.alone alone) stands

pub returns-in-Err-clause-goes : goal.returns-in-Err-clause-goes
returns-in-Err-clause-goes g c =
    unasked-goes g.D.Shelf.told g.D.Shelf.faults g.W.Actor.between g.met.W.Actor.rows g.W.Actor.meanwhile c.args.paused (g.W.Actor.own c.args.actor.now) (g.W.Actor.own c.tell_end.new.actor)
    (g.W.Actor.house c.args.actor.now) (g.W.Actor.house c.tell_end.new.actor) c.in-Err.why c.in-Err.ensures.adds c.in-Err.ensures.halts

pub returns-in-Err-clause-alone : goal.returns-in-Err-clause-alone
returns-in-Err-clause-alone g c = λ alone stands.
    unasked-alone g.D.Shelf.told g.D.Shelf.faults g.W.Actor.between g.met.W.Actor.rows g.W.Actor.meanwhile alone c.args.paused (g.W.Actor.own c.args.actor.now)
    (g.W.Actor.own c.tell_end.new.actor) (g.W.Actor.house c.args.actor.now) (g.W.Actor.house c.tell_end.new.actor) c.in-Err.why c.requires.running
    (g.met.W.Actor.kept c.tell_end.new.actor c.in-Err.ensures.keeps) (returns-in-Err-clause-goes g c)
