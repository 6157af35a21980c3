use Rattle.std.proofs.Common.{Option, sym, subst}
use Rattle.std.specs.Prelude.{IfSome}
use Rattle.hv_session.specs.hv_beginning.specs.hv_steps.specs.declared.ready.Way.{Way}
use Rattle.tests_seats.specs.Beside.{IsOnItsWay}
use Rattle.tests_seats.proofs.statements.started.Goals as goal

pub returns-in-Ok-clause-way : goal.returns-in-Ok-clause-way
returns-in-Ok-clause-way g c = λ asking said was.
    subst (λ (o : Option Way). IfSome o (IsOnItsWay (g.W.Actor.house c.start_one.new.actor) asking said)) (sym c.way_of.ensures.way)
    (c.in-Ok.ensures.starts asking said was)

pub returns-in-Err-clause-way : goal.returns-in-Err-clause-way
returns-in-Err-clause-way g c = λ asking said was. tt
