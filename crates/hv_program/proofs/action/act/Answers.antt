use Rattle.std.proofs.Common.{IfOk, IfErr, sym, subst}
use Rattle.hv_actor.specs.Acting.{IsLater}
use Rattle.hv_actor.specs.Rows.{later_itself}
use Rattle.hv_session.specs.hv_beginning.specs.hv_steps.specs.hv_table_reader.specs.hv_acts.specs.Told.{seen_in}
use Rattle.hv_session.specs.hv_beginning.specs.hv_steps.specs.hv_table_reader.specs.hv_acts.specs.hv_telling.specs.hv_house.specs.declared.fault.HouseFault.TheVariants as fault
use Rattle.hv_session.specs.hv_beginning.specs.hv_steps.specs.hv_table_reader.specs.hv_acts.specs.hv_telling.specs.hv_house.specs.declared.fault.HouseFault.{HouseFault}
use Rattle.hv_session.specs.hv_beginning.specs.hv_steps.specs.hv_table_reader.specs.hv_acts.specs.hv_telling.specs.hv_house.specs.House.{entries_of}
use Rattle.hv_session.specs.hv_beginning.specs.hv_steps.specs.hv_table_reader.specs.hv_acts.specs.hv_telling.specs.Telling.{IsWhole, IsToldHouse, StillOpens}
use Rattle.hv_session.specs.hv_beginning.specs.hv_steps.specs.declared.ready.Reply.{Reply}
use Rattle.hv_script.specs.declared.actions.Action.{Action}
use Rattle.hv_program.specs.Change.{from_to}
use Rattle.hv_program.specs.Keeping.{standing_of}
use Rattle.hv_program.specs.Running.{Acts, Stops}
use Rattle.hv_program.specs.Stops.{IsShutFor}
use Rattle.hv_program.proofs.Acting.{stops-first, opens-first, acts-barrier}
use Rattle.hv_program.proofs.Besides.{quiet-fact, quiet-err, quiet-cause, quiet-can, compact-held, compact-truly, compact-acts, compact-stops, clean-held, clean-truly, clean-acts, clean-stops}
use Rattle.hv_program.proofs.Blaming.{passed_up}
use Rattle.hv_program.proofs.action.act.Goals as goal

pub returns-in_err-announce-in-Announce-clause-stopped : goal.returns-in_err-announce-in-Announce-clause-stopped
returns-in_err-announce-in-Announce-clause-stopped g c =
    stops-first g.D.Shelf.told c.args.house.now.house _ _ c.from_residual.result c.from_residual.ensures.1 c.requires.whole.ready.kept.reads

pub returns-in_err-announce-in-Announce-clause-opens : goal.returns-in_err-announce-in-Announce-clause-opens
returns-in_err-announce-in-Announce-clause-opens g c = opens-first g.D.Shelf.told c.args.house.now.house c.from_residual.result c.requires.whole

pub returns-in_err-announce-in-Announce-clause-shut : goal.returns-in_err-announce-in-Announce-clause-shut
returns-in_err-announce-in-Announce-clause-shut g c = passed_up c.from_residual.result fault.NoMemory (IsShutFor c.args.house.now) c.from_residual.ensures.1 tt

pub returns-in_ok-announce-in-Announce-clause-later : goal.returns-in_ok-announce-in-Announce-clause-later
returns-in_ok-announce-in-Announce-clause-later g c = later_itself g.D.Shelf.faults (seen_in c.args.house.now)

pub returns-in-Compact-clause-later : goal.returns-in-Compact-clause-later
returns-in-Compact-clause-later g c =
    quiet-fact c.compact.result c.quietly.result (IsLater g.D.Shelf.faults (seen_in c.args.house.now) (seen_in c.compact.new.house)) c.quietly.ensures c.compact.ensures.later

pub returns-in-Clean-clause-later : goal.returns-in-Clean-clause-later
returns-in-Clean-clause-later g c =
    quiet-fact c.clean.result c.quietly-in-Clean.result (IsLater g.D.Shelf.faults (seen_in c.args.house.now) (seen_in c.clean.new.house)) c.quietly-in-Clean.ensures c.clean.ensures.later

pub returns-in-Compact-clause-whole : goal.returns-in-Compact-clause-whole
returns-in-Compact-clause-whole g c = quiet-fact c.compact.result c.quietly.result (IsWhole g.D.Shelf.told c.compact.new.house.house) c.quietly.ensures c.compact.ensures.whole

pub returns-in-Compact-clause-held : goal.returns-in-Compact-clause-held
returns-in-Compact-clause-held g c =
    compact-held g.D.Shelf.told c.args.house.now.house c.compact.new.house.house c.args.held.now.items c.compact.result c.quietly.result c.quietly.ensures c.compact.ensures.whole c.compact.ensures.added
    c.requires.held

pub returns-in-Compact-clause-truly : goal.returns-in-Compact-clause-truly
returns-in-Compact-clause-truly g c =
    compact-truly g.D.Shelf.told c.args.house.now.house c.compact.new.house.house c.args.held.now.items c.compact.result c.quietly.result c.quietly.ensures c.compact.ensures.whole c.compact.ensures.added
    c.compact.ensures.start c.requires.truly

pub returns-in-Compact-clause-can : goal.returns-in-Compact-clause-can
returns-in-Compact-clause-can g c =
    quiet-can g.D.Shelf.told g.D.Shelf.faults c.args.house.now c.compact.new.house c.args.held.now.items c.compact.result c.quietly.result c.quietly.ensures c.compact.ensures.later
    c.requires.can

pub returns-in-Compact-clause-acted : goal.returns-in-Compact-clause-acted
returns-in-Compact-clause-acted g c = λ is.
    let before = standing_of c.args.house.now.house c.args.held.now.items in
    let now = standing_of c.compact.new.house.house c.args.held.now.items in
    subst (λ (act : Action). IfOk c.quietly.result (λ (reply : Reply). Acts (from_to (g.D.Shelf.faults c.args.house.now.house.shelf) (g.D.Shelf.faults c.compact.new.house.house.shelf)) before now act reply.text reply.refused))
    (sym c.in-Compact.is)
    (compact-acts g.D.Shelf.told c.args.house.now.house c.compact.new.house.house c.args.held.now.items c.compact.result c.quietly.result c.quietly.ensures c.compact.ensures.whole c.compact.ensures.added
    (g.D.Shelf.faults c.args.house.now.house.shelf) (g.D.Shelf.faults c.compact.new.house.house.shelf)
    c.compact.ensures.done)

pub returns-in-Compact-clause-stopped : goal.returns-in-Compact-clause-stopped
returns-in-Compact-clause-stopped g c =
    let before = standing_of c.args.house.now.house c.args.held.now.items in
    subst (λ (act : Action). IfErr c.quietly.result (λ (why : HouseFault). Stops (IsToldHouse g.D.Shelf.told c.args.house.now.house) why (g.D.Shelf.told c.compact.new.house.house.shelf) before act (entries_of c.compact.new.house.house)))
    (sym c.in-Compact.is)
    (compact-stops g.D.Shelf.told c.args.house.now.house c.compact.new.house.house c.args.held.now.items c.compact.result c.quietly.result c.quietly.ensures c.compact.ensures.stopped)

pub returns-in-Compact-clause-opens : goal.returns-in-Compact-clause-opens
returns-in-Compact-clause-opens g c = λ is.
    quiet-err c.compact.result c.quietly.result (λ why. StillOpens g.D.Shelf.told c.compact.new.house.house) c.quietly.ensures (c.compact.ensures.opens is)

pub returns-in-Compact-clause-cause : goal.returns-in-Compact-clause-cause
returns-in-Compact-clause-cause g c = quiet-cause _ _ c.compact.result c.quietly.result c.quietly.ensures c.compact.ensures.cause

pub returns-in-Compact-clause-shut : goal.returns-in-Compact-clause-shut
returns-in-Compact-clause-shut g c = quiet-err c.compact.result c.quietly.result (IsShutFor c.compact.new.house) c.quietly.ensures c.compact.ensures.shut

pub returns-in-Clean-clause-whole : goal.returns-in-Clean-clause-whole
returns-in-Clean-clause-whole g c = quiet-fact c.clean.result c.quietly-in-Clean.result (IsWhole g.D.Shelf.told c.clean.new.house.house) c.quietly-in-Clean.ensures c.clean.ensures.whole

pub returns-in-Clean-clause-held : goal.returns-in-Clean-clause-held
returns-in-Clean-clause-held g c =
    clean-held g.D.Shelf.told c.args.house.now.house c.clean.new.house.house c.args.held.now.items c.clean.result c.quietly-in-Clean.result c.quietly-in-Clean.ensures c.clean.ensures.whole c.clean.ensures.added
    c.requires.held

pub returns-in-Clean-clause-truly : goal.returns-in-Clean-clause-truly
returns-in-Clean-clause-truly g c =
    clean-truly g.D.Shelf.told c.args.house.now.house c.clean.new.house.house c.args.held.now.items c.clean.result c.quietly-in-Clean.result c.quietly-in-Clean.ensures c.clean.ensures.whole c.clean.ensures.added
    c.clean.ensures.start c.requires.truly

pub returns-in-Clean-clause-can : goal.returns-in-Clean-clause-can
returns-in-Clean-clause-can g c =
    quiet-can g.D.Shelf.told g.D.Shelf.faults c.args.house.now c.clean.new.house c.args.held.now.items c.clean.result c.quietly-in-Clean.result c.quietly-in-Clean.ensures c.clean.ensures.later
    c.requires.can

pub returns-in-Clean-clause-acted : goal.returns-in-Clean-clause-acted
returns-in-Clean-clause-acted g c = λ is.
    let before = standing_of c.args.house.now.house c.args.held.now.items in
    let now = standing_of c.clean.new.house.house c.args.held.now.items in
    subst (λ (act : Action). IfOk c.quietly-in-Clean.result (λ (reply : Reply). Acts (from_to (g.D.Shelf.faults c.args.house.now.house.shelf) (g.D.Shelf.faults c.clean.new.house.house.shelf)) before now act reply.text reply.refused))
    (sym c.in-Clean.is)
    (clean-acts g.D.Shelf.told c.args.house.now.house c.clean.new.house.house c.args.held.now.items c.clean.result c.quietly-in-Clean.result c.quietly-in-Clean.ensures c.clean.ensures.whole c.clean.ensures.added
    (g.D.Shelf.faults c.args.house.now.house.shelf) (g.D.Shelf.faults c.clean.new.house.house.shelf)
    c.clean.ensures.done)

pub returns-in-Clean-clause-stopped : goal.returns-in-Clean-clause-stopped
returns-in-Clean-clause-stopped g c =
    let before = standing_of c.args.house.now.house c.args.held.now.items in
    subst (λ (act : Action). IfErr c.quietly-in-Clean.result (λ (why : HouseFault). Stops (IsToldHouse g.D.Shelf.told c.args.house.now.house) why (g.D.Shelf.told c.clean.new.house.house.shelf) before act (entries_of c.clean.new.house.house)))
    (sym c.in-Clean.is)
    (clean-stops g.D.Shelf.told c.args.house.now.house c.clean.new.house.house c.args.held.now.items c.clean.result c.quietly-in-Clean.result c.quietly-in-Clean.ensures c.clean.ensures.stopped)

pub returns-in-Clean-clause-opens : goal.returns-in-Clean-clause-opens
returns-in-Clean-clause-opens g c = λ is.
    quiet-err c.clean.result c.quietly-in-Clean.result (λ why. StillOpens g.D.Shelf.told c.clean.new.house.house) c.quietly-in-Clean.ensures (c.clean.ensures.opens is)

pub returns-in-Clean-clause-cause : goal.returns-in-Clean-clause-cause
returns-in-Clean-clause-cause g c = quiet-cause _ _ c.clean.result c.quietly-in-Clean.result c.quietly-in-Clean.ensures c.clean.ensures.cause

pub returns-in-Clean-clause-shut : goal.returns-in-Clean-clause-shut
returns-in-Clean-clause-shut g c = quiet-err c.clean.result c.quietly-in-Clean.result (IsShutFor c.clean.new.house) c.quietly-in-Clean.ensures c.clean.ensures.shut

pub returns-in-Barrier-clause-later : goal.returns-in-Barrier-clause-later
returns-in-Barrier-clause-later g c = later_itself g.D.Shelf.faults (seen_in c.args.house.now)

pub returns-in-Barrier-clause-acted : goal.returns-in-Barrier-clause-acted
returns-in-Barrier-clause-acted g c = λ is.
    let count = g.D.Shelf.faults c.args.house.now.house.shelf in
    let before = standing_of c.args.house.now.house c.args.held.now.items in
    subst (λ (act : Action). Acts (from_to count count) before before act c.nothing.result.text c.nothing.result.refused) (sym c.in-Barrier.is)
    (acts-barrier count count (entries_of c.args.house.now.house) c.args.held.now.items c.nothing.result c.nothing.ensures)
