use Rattle.hv_session.specs.hv_beginning.specs.hv_steps.specs.hv_table_reader.specs.hv_acts.specs.hv_telling.specs.hv_house.specs.declared.fault.HouseFault.TheVariants as fault
use Rattle.hv_program.specs.Stops.{IsShutFor}
use Rattle.hv_program.proofs.Acting.{stops-first, opens-first, err-always, stops-residual, replied-held, replied-truly, replied-acts, kept-held, kept-truly, kept-acts}
use Rattle.hv_program.proofs.Blaming.{passed_up}
use Rattle.hv_program.proofs.Sessions.{replied-can, kept-can}
use Rattle.hv_program.proofs.action.run_statement.Goals as goal

pub returns-in_err-session-clause-stopped : goal.returns-in_err-session-clause-stopped
returns-in_err-session-clause-stopped g c =
    stops-first g.D.Shelf.told c.args.house.now.house _ _ c.from_residual.result c.from_residual.ensures.1 c.requires.whole.ready.kept.reads

pub returns-in_err-reserve-clause-stopped : goal.returns-in_err-reserve-clause-stopped
returns-in_err-reserve-clause-stopped g c =
    stops-first g.D.Shelf.told c.args.house.now.house _ _ c.from_residual-in_err-reserve.result c.from_residual-in_err-reserve.ensures.1 c.requires.whole.ready.kept.reads

pub returns-in_err-found-clause-stopped : goal.returns-in_err-found-clause-stopped
returns-in_err-found-clause-stopped g c =
    stops-residual g.D.Shelf.told c.args.house.now.house c.take.new.house.house _ c.args.statement.now c.in_err-found.field-0.0 c.from_residual-in_err-found.result
    c.from_residual-in_err-found.ensures.1 c.in_err-found.ensures.stopped

pub returns-in-Replied-clause-can : goal.returns-in-Replied-clause-can
returns-in-Replied-clause-can g c =
    replied-can g.D.Shelf.told g.D.Shelf.faults c.args.house.now c.take.new.house _ _ c.reserve.ensures.items c.in_ok-found.ensures.later c.requires.can

pub returns-in-Kept-clause-can : goal.returns-in-Kept-clause-can
returns-in-Kept-clause-can g c =
    kept-can g.D.Shelf.told g.D.Shelf.faults c.args.house.now c.take.new.house _ _ _ _ c.in_ok-found.field-0 c.reserve.ensures.items c.keep.ensures.kept c.in-Kept.is
    c.in_ok-found.ensures.later c.in_ok-found.ensures.can c.requires.can

pub returns-in-Replied-clause-held : goal.returns-in-Replied-clause-held
returns-in-Replied-clause-held g c =
    replied-held _ _ _ _ _ _ c.reserve.ensures.items c.in_ok-found.ensures.whole.ready.fit c.in_ok-found.ensures.added c.requires.held

pub returns-in-Replied-clause-truly : goal.returns-in-Replied-clause-truly
returns-in-Replied-clause-truly g c =
    replied-truly g.D.Shelf.told c.args.house.now.house c.take.new.house.house _ _ _ _ c.reserve.ensures.items c.in_ok-found.ensures.start c.in_ok-found.ensures.whole.ready.fit
    c.in_ok-found.ensures.added c.requires.held c.requires.truly

pub returns-in-Replied-clause-acted : goal.returns-in-Replied-clause-acted
returns-in-Replied-clause-acted g c = λ is.
    replied-acts _ _ _ _ _ _ c.args.statement.now c.in_ok-found.field-0 c.in-Replied.found c.reserve.ensures.items c.in-Replied.is
    c.in_ok-found.ensures.whole.ready.fit c.in_ok-found.ensures.added (c.in_ok-found.ensures.taken is)

pub returns-in-Kept-clause-held : goal.returns-in-Kept-clause-held
returns-in-Kept-clause-held g c =
    kept-held _ _ _ _ _ _ _ _ _ c.in_ok-found.field-0 c.reserve.ensures.items c.keep.ensures.kept c.in-Kept.is c.in_ok-found.ensures.whole.ready.fit
    c.in_ok-found.ensures.added c.requires.held c.in_ok-found.ensures.held

pub returns-in-Kept-clause-truly : goal.returns-in-Kept-clause-truly
returns-in-Kept-clause-truly g c =
    kept-truly g.D.Shelf.told c.args.house.now.house c.take.new.house.house _ _ _ _ _ _ c.args.statement.now c.in_ok-found.field-0 c.reserve.ensures.items c.keep.ensures.kept c.in-Kept.is
    c.in_ok-found.ensures.start c.in_ok-found.ensures.whole.ready.fit c.in_ok-found.ensures.added c.requires.held c.in_ok-found.ensures.taken c.requires.truly

pub returns-in-Kept-clause-acted : goal.returns-in-Kept-clause-acted
returns-in-Kept-clause-acted g c = λ is.
    kept-acts _ _ _ _ _ _ _ _ c.args.statement.now c.in_ok-found.field-0 c.nothing.result c.reserve.ensures.items c.keep.ensures.kept c.in-Kept.is
    c.in_ok-session.ensures.same c.nothing.ensures c.in_ok-found.ensures.whole.ready.fit c.in_ok-found.ensures.added (c.in_ok-found.ensures.taken is)

pub returns-in_err-session-clause-opens : goal.returns-in_err-session-clause-opens
returns-in_err-session-clause-opens g c = opens-first g.D.Shelf.told c.args.house.now.house c.from_residual.result c.requires.whole

pub returns-in_err-reserve-clause-opens : goal.returns-in_err-reserve-clause-opens
returns-in_err-reserve-clause-opens g c = opens-first g.D.Shelf.told c.args.house.now.house c.from_residual-in_err-reserve.result c.requires.whole

pub returns-in_err-found-clause-opens : goal.returns-in_err-found-clause-opens
returns-in_err-found-clause-opens g c = λ is. err-always c.from_residual-in_err-found.result _ (c.in_err-found.ensures.opens is)

pub returns-in_err-session-clause-shut : goal.returns-in_err-session-clause-shut
returns-in_err-session-clause-shut g c = passed_up c.from_residual.result fault.NoMemory (IsShutFor c.args.house.now) c.from_residual.ensures.1 tt

pub returns-in_err-reserve-clause-shut : goal.returns-in_err-reserve-clause-shut
returns-in_err-reserve-clause-shut g c =
    passed_up c.from_residual-in_err-reserve.result fault.NoMemory (IsShutFor c.args.house.now) c.from_residual-in_err-reserve.ensures.1 tt

pub returns-in_err-found-clause-shut : goal.returns-in_err-found-clause-shut
returns-in_err-found-clause-shut g c =
    passed_up c.from_residual-in_err-found.result c.in_err-found.field-0.0 (IsShutFor c.take.new.house) c.from_residual-in_err-found.ensures.1 c.in_err-found.ensures.shut

pub returns-in-Replied-clause-later : goal.returns-in-Replied-clause-later
returns-in-Replied-clause-later g c = c.in_ok-found.ensures.later

pub returns-in-Kept-clause-later : goal.returns-in-Kept-clause-later
returns-in-Kept-clause-later g c = c.in_ok-found.ensures.later
