use Rattle.tests_jobs.proofs.Goings.{held-on, anyway}
use Rattle.tests_jobs.proofs.acting.work_on.Goals as goal

pub returns-in-Ok-clause-can : goal.returns-in-Ok-clause-can
returns-in-Ok-clause-can g c =
    let now = g.W.Actor.house c.work.new.actor in
    anyway _ c.say_work.result (record {
      running = c.in-Ok.ensures.running;
      hold = c.requires.can.hold;
      held = held-on g.D.Shelf.told g.D.Shelf.faults c.what_is_held_can_be_finished.ensures.others (g.W.Actor.house c.args.actor.now) now
          c.args.desk.now.held c.work.ensures.later c.requires.can.held;
    })
