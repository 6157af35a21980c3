use Rattle.std.proofs.Common.{ℕ, List, subst}
use Rattle.std.specs.Prelude.{IfOk}
use Rattle.hv_table_reader.specs.hv_acts.specs.Told.{trail_in}
use Rattle.hv_steps.specs.Going.{faults_in, Goes}
use Rattle.hv_steps.specs.Phases.{Asks}
use Rattle.hv_steps.specs.Requests.{HasAsked, IsAskOf}
use Rattle.hv_actor.specs.Acting.{among, known}
use Rattle.hv_steps.proofs.asking.ask.Goals as goal

pub returns-clause-goes : goal.returns-clause-goes
returns-clause-goes g c =
    let a = g.W.Actor.house c.args.actor.now in
    let b = g.W.Actor.house c.ask_listed.new.actor in
    subst (λ (numbers : List ℕ). Goes (among g.D.Shelf.told g.D.Shelf.faults g.W.Actor.between g.W.Actor.meanwhile) (faults_in g.D.Shelf.faults a)
    c.args.way.txn.0
    (known (g.W.Actor.own c.args.actor.now) a) (known (g.W.Actor.own c.ask_listed.new.actor) b)
    (Asks c.args.way.txn.0 b (IsAskOf (trail_in b) c.args.way.txn.0 c.args.way.place numbers))
    c.ask_listed.result) c.listed_in.ensures c.ask_listed.ensures.goes

pub returns-clause-asked : goal.returns-clause-asked
returns-clause-asked g c =
    subst (λ (numbers : List ℕ). IfOk c.ask_listed.result (HasAsked (g.W.Actor.house c.ask_listed.new.actor) c.args.way numbers)) c.listed_in.ensures
    c.ask_listed.ensures.asked
