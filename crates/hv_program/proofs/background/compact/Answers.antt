use Rattle.std.proofs.Common.{◌∙◌}
use Rattle.hv_actor.specs.Acting.{IsLater}
use Rattle.hv_session.specs.hv_beginning.specs.hv_steps.specs.hv_table_reader.specs.hv_acts.specs.Told.{seen_in}
use Rattle.hv_session.specs.hv_beginning.specs.hv_steps.specs.hv_table_reader.specs.hv_acts.specs.hv_telling.specs.hv_house.specs.declared.fault.HouseFault.{HouseFault}
use Rattle.hv_session.specs.hv_beginning.specs.hv_steps.specs.hv_table_reader.specs.hv_acts.specs.hv_telling.specs.hv_house.specs.House.{entries_of}
use Rattle.hv_session.specs.hv_beginning.specs.hv_steps.specs.hv_table_reader.specs.hv_acts.specs.hv_telling.specs.Telling.{IsWhole}
use Rattle.hv_session.specs.hv_beginning.specs.hv_steps.specs.hv_table_reader.specs.hv_acts.specs.hv_telling.proofs.Told.{told-stays}
use Rattle.hv_program.specs.Background.{IsCompacting, Initiated, WorksOne, Compacts}
use Rattle.hv_program.specs.Beside.{AddsBeside, StopsBeside}
use Rattle.hv_program.proofs.Leaving.{beside-some, stops-then}
use Rattle.hv_program.proofs.Passed.{err-then, ok-then, later-then, beside-then, cause-then}
use Rattle.hv_program.proofs.background.compact.Goals as goal

pub do_one-requires-clause-whole : goal.do_one-requires-clause-whole
do_one-requires-clause-whole g c =
    c.in-Ok.ensures.whole

pub do_one-requires-clause-hard : goal.do_one-requires-clause-hard
do_one-requires-clause-hard g c =
    c.ask_for_due.ensures.hard

pub do_one-requires-clause-begun : goal.do_one-requires-clause-begun
do_one-requires-clause-begun g c =
    beside-some IsCompacting (entries_of c.args.house.now.house) (entries_of c.ask_for_due.new.house.house)
    c.in-Ok.ensures.added c.requires.begun

pub returns-in-Ok-clause-stopped : goal.returns-in-Ok-clause-stopped
returns-in-Ok-clause-stopped g c =
    let first : AddsBeside IsCompacting (entries_of c.args.house.now.house) (entries_of c.ask_for_due.new.house.house) =
    c.in-Ok.ensures.added in
    let whole : IsWhole g.D.Shelf.told c.ask_for_due.new.house.house = c.in-Ok.ensures.whole in
    err-then c.do_one.result
    (λ (why : HouseFault). StopsBeside g.D.Shelf.told IsCompacting why c.ask_for_due.new.house.house c.do_one.new.house.house)
    (λ (why : HouseFault). StopsBeside g.D.Shelf.told IsCompacting why c.args.house.now.house c.do_one.new.house.house)
    (λ why next.
    stops-then g.D.Shelf.told IsCompacting why c.args.house.now.house c.ask_for_due.new.house.house c.do_one.new.house.house c.ask_for_due.ensures.start first whole next)
    c.do_one.ensures.stopped

pub returns-in-Ok-clause-added : goal.returns-in-Ok-clause-added
returns-in-Ok-clause-added g c =
    let first : AddsBeside IsCompacting (entries_of c.args.house.now.house) (entries_of c.ask_for_due.new.house.house) =
    c.in-Ok.ensures.added in
    ok-then c.do_one.result (AddsBeside IsCompacting (entries_of c.ask_for_due.new.house.house) (entries_of c.do_one.new.house.house))
    (AddsBeside IsCompacting (entries_of c.args.house.now.house) (entries_of c.do_one.new.house.house))
    (λ next. beside-then IsCompacting (entries_of c.args.house.now.house) (entries_of c.ask_for_due.new.house.house) (entries_of c.do_one.new.house.house) first next)
    c.do_one.ensures.added

pub returns-in-Ok-clause-later : goal.returns-in-Ok-clause-later
returns-in-Ok-clause-later g c =
    let first : IsLater g.D.Shelf.faults (seen_in c.args.house.now) (seen_in c.ask_for_due.new.house) =
    c.in-Ok.ensures.later in
    ok-then c.do_one.result (IsLater g.D.Shelf.faults (seen_in c.ask_for_due.new.house) (seen_in c.do_one.new.house))
    (IsLater g.D.Shelf.faults (seen_in c.args.house.now) (seen_in c.do_one.new.house))
    (λ next. later-then g.D.Shelf.faults c.args.house.now c.ask_for_due.new.house c.do_one.new.house first next)
    c.do_one.ensures.later

pub returns-in-Ok-clause-done : goal.returns-in-Ok-clause-done
returns-in-Ok-clause-done g c =
    let first : Initiated (entries_of c.args.house.now.house) (entries_of c.ask_for_due.new.house.house) =
    c.in-Ok.ensures.done in
    ok-then c.do_one.result (WorksOne (entries_of c.ask_for_due.new.house.house) (entries_of c.do_one.new.house.house))
    (Compacts (entries_of c.args.house.now.house) (entries_of c.do_one.new.house.house))
    (λ next. record { between = entries_of c.ask_for_due.new.house.house; initiated = first; works = next })
    c.do_one.ensures.done

pub returns-in-Ok-clause-start : goal.returns-in-Ok-clause-start
returns-in-Ok-clause-start g c =
    c.do_one.ensures.start ∙ c.ask_for_due.ensures.start

pub returns-in-Ok-clause-opens : goal.returns-in-Ok-clause-opens
returns-in-Ok-clause-opens g c =
    λ is. c.do_one.ensures.opens (told-stays g.D.Shelf.told c.args.house.now.house c.ask_for_due.new.house.house c.ask_for_due.ensures.start is)

pub returns-in-Ok-clause-cause : goal.returns-in-Ok-clause-cause
returns-in-Ok-clause-cause g c =
    cause-then (g.D.Shelf.faults c.args.house.now.house.shelf) (g.D.Shelf.faults c.ask_for_due.new.house.house.shelf) (g.D.Shelf.faults c.do_one.new.house.house.shelf)
    c.in-Ok.ensures.cause.later c.do_one.result c.do_one.ensures.cause

pub returns-in-Err-clause-stopped : goal.returns-in-Err-clause-stopped
returns-in-Err-clause-stopped g c =
    c.in-Err.ensures.stopped

pub returns-in-Err-clause-opens : goal.returns-in-Err-clause-opens
returns-in-Err-clause-opens g c =
    c.in-Err.ensures.opens

pub returns-in-Err-clause-cause : goal.returns-in-Err-clause-cause
returns-in-Err-clause-cause g c =
    c.in-Err.ensures.cause

pub returns-in-Err-clause-shut : goal.returns-in-Err-clause-shut
returns-in-Err-clause-shut g c =
    c.in-Err.ensures.shut
