use Rattle.std.proofs.Common.{Option, sym, ◌∙◌, subst}
use Rattle.std.specs.Prelude.{IfSome}
use Rattle.hv_session.specs.declared.paused.Paused.{Paused}
use Rattle.hv_session.specs.Doing.{CanFinish}
use Rattle.tests_jobs.proofs.Goings.{anyway}
use Rattle.tests_jobs.proofs.acting.finish_held.Goals as goal

pub finish_one-requires-clause-can : goal.finish_one-requires-clause-can
finish_one-requires-clause-can g c =
    subst (λ (held : Option Paused). IfSome held (CanFinish g.D.Shelf.told (g.W.Actor.house c.args.actor.now))) (sym c.take.ensures.value ∙ c.in-Some.is) c.requires.can.held

pub returns-in-Ok-clause-can : goal.returns-in-Ok-clause-can
returns-in-Ok-clause-can g c =
    anyway _ c.say_reply.result (record {
      running = c.in-Ok.ensures.running;
      hold = c.requires.can.hold;
      held = subst (λ (held : Option Paused). IfSome held (CanFinish g.D.Shelf.told (g.W.Actor.house c.finish_one.new.actor))) (sym c.take.ensures.after) tt;
    })
