use Rattle.std.proofs.Common.{inl, sym, subst, Result}
use Rattle.hv_steps.specs.hv_table_reader.specs.hv_acts.specs.hv_telling.specs.hv_house.specs.declared.fault.HouseFault.{HouseFault}
use Rattle.hv_steps.specs.declared.reply.Opened.{Opened}
use Rattle.hv_beginning.specs.Beginnings.{GoesBeginning}
use Rattle.hv_actor.specs.Acting.{among, known}
use Rattle.hv_beginning.proofs.opening.open_and_start.Goals as goal

pub start_or_end-requires-clause-running : goal.start_or_end-requires-clause-running
start_or_end-requires-clause-running g c = c.in-Ok.ensures.waits.0

pub start_or_end-requires-clause-was : goal.start_or_end-requires-clause-was
start_or_end-requires-clause-was g c = ((record { session = c.args.session; number = c.args.number; text = c.args.text }), c.args.tree, inl c.in-Ok.ensures.waits.1)

pub returns-in-Ok-clause-goes : goal.returns-in-Ok-clause-goes
returns-in-Ok-clause-goes g c = λ first own was.
    c.start_or_end.ensures.goes first own (record { session = c.args.session; number = c.args.number; text = c.args.text }) c.args.tree (c.in-Ok.ensures.opens first own was)

pub returns-in-Err-clause-goes : goal.returns-in-Err-clause-goes
returns-in-Err-clause-goes g c = λ first own was.
    subst (λ (r : Result Opened HouseFault). GoesBeginning (among g.D.Shelf.told g.D.Shelf.faults g.W.Actor.between g.W.Actor.meanwhile)
    (record { session = c.args.session; number = c.args.number; text = c.args.text }) c.args.tree
    (known own first) (known (g.W.Actor.own c.open_waiting.new.actor) (g.W.Actor.house c.open_waiting.new.actor)) r) (sym c.unopened.ensures.unopened)
    (c.in-Err.ensures.opens first own was)
