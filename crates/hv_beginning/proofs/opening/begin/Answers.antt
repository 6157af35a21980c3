use Rattle.std.proofs.Common.{subst}
use Rattle.std.specs.Prelude.{IfOk}
use Rattle.hv_ast.specs.declared.statement.Stmt.{Stmt}
use Rattle.hv_steps.specs.declared.reply.Opened.{Opened}
use Rattle.hv_steps.specs.Going.{faults_in, GainsSome}
use Rattle.hv_steps.specs.Phases.{Begins}
use Rattle.hv_beginning.proofs.Openings.{one-tree, nothing-gained}
use Rattle.hv_actor.specs.Acting.{known}
use Rattle.hv_beginning.proofs.opening.begin.Goals as goal

pub returns-in-Ok-clause-begins : goal.returns-in-Ok-clause-begins
returns-in-Ok-clause-begins g c = λ said runs.
    subst (λ (s : Stmt). IfOk c.begin_or_open.result (λ (found : Opened). GainsSome g.D.Shelf.faults g.W.Actor.between (faults_in g.D.Shelf.faults (g.W.Actor.house c.args.actor.now))
    (known (g.W.Actor.own c.args.actor.now) (g.W.Actor.house c.args.actor.now))
    (known (g.W.Actor.own c.begin_or_open.new.actor) (g.W.Actor.house c.begin_or_open.new.actor))
    (Begins (g.W.Actor.house c.args.actor.now) (g.W.Actor.house c.begin_or_open.new.actor)
    (record { session = c.args.session; number = c.args.number; text = c.args.text }) s found)))
    (one-tree c.args.text c.args.tree said c.requires.runs runs) c.begin_or_open.ensures.goes.done

pub returns-in-Ok-clause-halts : goal.returns-in-Ok-clause-halts
returns-in-Ok-clause-halts g c = c.begin_or_open.ensures.goes.halted

pub returns-in-Err-clause-begins : goal.returns-in-Err-clause-begins
returns-in-Err-clause-begins g c = λ said runs.
    nothing-gained g.D.Shelf.told g.D.Shelf.faults g.W.Actor.between g.met.W.Actor.rows g.W.Actor.meanwhile g.met.W.Actor.goes_on
    (g.W.Actor.own c.args.actor.now) (g.W.Actor.house c.args.actor.now) c.requires.running
