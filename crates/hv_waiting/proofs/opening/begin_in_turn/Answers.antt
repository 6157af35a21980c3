use Rattle.std.proofs.Common.{inl, sym, subst, Result}
use Rattle.hv_session.specs.hv_beginning.specs.hv_steps.specs.hv_table_reader.specs.hv_acts.specs.hv_telling.specs.hv_house.specs.declared.fault.HouseFault.{HouseFault}
use Rattle.hv_session.specs.hv_beginning.specs.hv_steps.specs.declared.reply.Opened.{Opened}
use Rattle.hv_waiting.specs.Beginnings.{GoesInTurn}
use Rattle.hv_actor.specs.Acting.{among, known}
use Rattle.hv_waiting.proofs.opening.begin_in_turn.Goals as goal

pub start_in_turn-requires-clause-running : goal.start_in_turn-requires-clause-running
start_in_turn-requires-clause-running g c = c.in-Ok.ensures.waits.0

pub start_in_turn-requires-clause-was : goal.start_in_turn-requires-clause-was
start_in_turn-requires-clause-was g c = ((record { session = c.args.session; number = c.args.number; text = c.args.text }), c.args.tree, inl c.in-Ok.ensures.waits.1)

pub returns-in-Ok-clause-begins : goal.returns-in-Ok-clause-begins
returns-in-Ok-clause-begins g c =
    (c.start_in_turn.ensures.goes (g.W.Actor.house c.args.actor.now) (g.W.Actor.own c.args.actor.now)
    (record { session = c.args.session; number = c.args.number; text = c.args.text }) c.args.tree c.in-Ok.ensures.opens).done

pub returns-in-Ok-clause-halts : goal.returns-in-Ok-clause-halts
returns-in-Ok-clause-halts g c =
    (c.start_in_turn.ensures.goes (g.W.Actor.house c.args.actor.now) (g.W.Actor.own c.args.actor.now)
    (record { session = c.args.session; number = c.args.number; text = c.args.text }) c.args.tree c.in-Ok.ensures.opens).halted

pub returns-in-Err-clause-begins : goal.returns-in-Err-clause-begins
returns-in-Err-clause-begins g c =
    (subst (λ (r : Result Opened HouseFault). GoesInTurn (among g.D.Shelf.told g.D.Shelf.faults g.W.Actor.between g.W.Actor.meanwhile)
    (record { session = c.args.session; number = c.args.number; text = c.args.text }) c.args.tree
    (known (g.W.Actor.own c.args.actor.now) (g.W.Actor.house c.args.actor.now))
    (known (g.W.Actor.own c.open_to_wait.new.actor) (g.W.Actor.house c.open_to_wait.new.actor)) r) (sym c.unopened.ensures.unopened) c.in-Err.ensures.opens).done

pub returns-in-Err-clause-halts : goal.returns-in-Err-clause-halts
returns-in-Err-clause-halts g c =
    (subst (λ (r : Result Opened HouseFault). GoesInTurn (among g.D.Shelf.told g.D.Shelf.faults g.W.Actor.between g.W.Actor.meanwhile)
    (record { session = c.args.session; number = c.args.number; text = c.args.text }) c.args.tree
    (known (g.W.Actor.own c.args.actor.now) (g.W.Actor.house c.args.actor.now))
    (known (g.W.Actor.own c.open_to_wait.new.actor) (g.W.Actor.house c.open_to_wait.new.actor)) r) (sym c.unopened.ensures.unopened) c.in-Err.ensures.opens).halted
