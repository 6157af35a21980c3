use Rattle.std.proofs.Common.{arith, ◌∙◌}
use Rattle.std.proofs.lemmas.List.{take_all}
use Rattle.hv_base.proofs.ToldLemmas.{stays_stays, stays_by}
use Rattle.hv_session.specs.hv_beginning.specs.hv_steps.specs.hv_table_reader.specs.hv_acts.specs.hv_telling.proofs.Told.{told-stays}
use Rattle.hv_program.specs.declared.stop.Stop.TheVariants as stop
use Rattle.hv_program.specs.Keeping.{standing_of}
use Rattle.hv_program.specs.Stops.{ShutsFor}
use Rattle.hv_program.proofs.Blaming.{passed_up, shut-passed}
use Rattle.hv_program.proofs.Leaving.{later-some}
use Rattle.hv_program.proofs.Turns.{Prints-next, Prints-all, Halts-stopped, Halts-cut, stops-ends}
use Rattle.hv_program.proofs.run.run.Goals as goal

pub loop-action-preserved : goal.loop-action-preserved
loop-action-preserved g c = record {
  whole = c.in_ok-reply.ensures.whole;
  held = c.in_ok-reply.ensures.held;
  truly = c.in_ok-reply.ensures.truly;
  can = c.in_ok-reply.ensures.can;
  prints = λ is. Prints-next _ _ _ c.loop-action.invariant.later_store c.in_ok-reply.ensures.cause.later _
      (standing_of c.loop-action.house.house c.loop-action.held.items) (standing_of c.act.new.house.house c.act.new.held.items) c.args.actions.now c.loop-action.action-index
      _ _ _ _ _ _ _ _ c.loop-action-test.true c.action-item.is c.as_slice.ensures c.in_ok-write_all.ensures.done
      (c.loop-action.invariant.prints is)
      (c.in_ok-reply.ensures.acted (told-stays g.D.Shelf.told c.args.house.now.house c.loop-action.house.house c.loop-action.invariant.start is));
  start = c.in_ok-reply.ensures.start ∙ c.loop-action.invariant.start;
  hard = c.in_ok-reply.ensures.hard;
  begun = later-some g.D.Shelf.faults c.loop-action.house c.act.new.house c.in_ok-reply.ensures.later c.loop-action.invariant.begun;
  heard = stays_stays _ _ _ c.loop-action.invariant.heard (stays_by _ _ _ c.in_ok-write_all.ensures.done);
  later_store = omega (arith, c.loop-action.invariant.later_store, c.in_ok-reply.ensures.cause.later);
  later_sink = omega (arith, c.loop-action.invariant.later_sink, c.in_ok-write_all.ensures.cause.later);
}

pub returns-in_err-reply-clause-halts : goal.returns-in_err-reply-clause-halts
returns-in_err-reply-clause-halts g c = λ is.
    let here = told-stays g.D.Shelf.told c.args.house.now.house c.loop-action.house.house c.loop-action.invariant.start is in
    Halts-stopped g.D.Shelf.told c.in_err-reply.field-0.0 c.from_residual.result _ _ _ _ c.loop-action.house.house c.act.new.house.house c.loop-action.held.items c.args.actions.now
    c.loop-action.action-index _ _ _ _ c.from_residual.ensures.1 c.loop-action.invariant.later_store c.in_err-reply.ensures.cause.later
    c.loop-action-test.true c.action-item.is (c.loop-action.invariant.prints is) c.loop-action.invariant.whole here
    c.in_err-reply.ensures.stopped (c.in_err-reply.ensures.opens here)

pub returns-in_err-write_all-clause-halts : goal.returns-in_err-write_all-clause-halts
returns-in_err-write_all-clause-halts g c = λ is.
    let here = told-stays g.D.Shelf.told c.args.house.now.house c.loop-action.house.house c.loop-action.invariant.start is in
    Halts-cut g.D.Shelf.told c.from_residual-in_err-write_all.result _ _ _ _ (standing_of c.loop-action.house.house c.loop-action.held.items) c.act.new.house.house
    c.act.new.held.items c.args.actions.now c.loop-action.action-index _ _ _ _ _ _ _ _ c.from_residual-in_err-write_all.ensures.1 c.loop-action.invariant.later_store
    c.in_ok-reply.ensures.cause.later c.loop-action-test.true c.action-item.is c.as_slice.ensures c.in_err-write_all.ensures.failed
    (c.loop-action.invariant.prints is) (c.in_ok-reply.ensures.acted here) c.in_ok-reply.ensures.whole
    (told-stays g.D.Shelf.told c.loop-action.house.house c.act.new.house.house c.in_ok-reply.ensures.start here)

pub returns-clause-prints : goal.returns-clause-prints
returns-clause-prints g c = λ is.
    Prints-all _ _ _ _ _ _ _ _ _ _ (take_all c.loop-action.action-index c.args.actions.now (omega (arith, c.loop-action-test.false))) (c.loop-action.invariant.prints is)

pub returns-in_err-reply-clause-shut : goal.returns-in_err-reply-clause-shut
returns-in_err-reply-clause-shut g c =
    shut-passed c.act.new.house c.in_err-reply.field-0.0 c.from_residual.result c.from_residual.ensures.1
    (stops-ends c.in_err-reply.field-0.0 _ _ _ _ c.in_err-reply.ensures.stopped) c.in_err-reply.ensures.shut

pub returns-in_err-write_all-clause-shut : goal.returns-in_err-write_all-clause-shut
returns-in_err-write_all-clause-shut g c =
    passed_up c.from_residual-in_err-write_all.result stop.Sink (ShutsFor c.act.new.house) c.from_residual-in_err-write_all.ensures.1 tt
