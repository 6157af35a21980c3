use Rattle.std.proofs.Common.{Option, sym, ◌∙◌, subst}
use Rattle.std.specs.Prelude.{IfSome}
use Rattle.hv_session.specs.declared.paused.Paused.{Paused}
use Rattle.hv_session.specs.Doing.{IsHold, CanFinish}
use Rattle.tests_jobs.proofs.Goings.{behind, anyway}
use Rattle.tests_jobs.proofs.acting.take.Goals as goal

pub returns-in-Ok-clause-can : goal.returns-in-Ok-clause-can
returns-in-Ok-clause-can g c =
    let now = g.W.Actor.house c.take_one.new.actor in
    anyway _ c.keep_or_say.result (record {
      running = c.in-Ok.ensures.running;
      hold = subst IsHold (sym (c.keep_or_say.ensures.hold ∙ c.take-hold.ensures.after)) tt;
      held = subst (λ (held : Option Paused). IfSome held (CanFinish g.D.Shelf.told now)) (sym c.keep_or_say.ensures.held)
          (behind g.D.Shelf.told g.D.Shelf.faults c.what_is_held_can_be_finished.ensures.others (g.W.Actor.house c.args.actor.now) now c.in-Ok.taken
          c.args.desk.now.held c.take_one.ensures.later c.in-Ok.ensures.can c.requires.can.held);
    })
