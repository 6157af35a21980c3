use Rattle.hv_actor.specs.Acting.{IsLater, own_alone}
use Rattle.hv_session.specs.hv_beginning.specs.hv_steps.specs.hv_table_reader.specs.hv_acts.specs.Told.{seen_in}
use Rattle.hv_session.specs.hv_beginning.specs.hv_steps.specs.hv_table_reader.specs.hv_acts.specs.hv_telling.specs.hv_house.specs.House.{entries_of}
use Rattle.hv_session.specs.hv_beginning.specs.hv_steps.specs.hv_table_reader.specs.hv_acts.specs.hv_telling.specs.Telling.{IsWhole, StillOpens}
use Rattle.hv_program.specs.Background.{IsCompacting, WorksOne}
use Rattle.hv_program.specs.Beside.{AddsBeside}
use Rattle.hv_program.proofs.Sessions.{is-kept, shuts-kept}
use Rattle.hv_program.proofs.Passed.{full-ok, stops-err, start-same, still-opens, stops-shut, stops-cause, done-cause}
use Rattle.hv_program.proofs.Leaves.{one-stopped}
use Rattle.hv_program.proofs.Worked.{one-done, one-beside, one-some, one-full, one-open, one-shut}
use Rattle.hv_program.proofs.background.do_one.Goals as goal

pub compact_one-requires-clause-keeps : goal.compact_one-requires-clause-keeps
compact_one-requires-clause-keeps g c =
    is-kept g.D.Shelf.told g.D.Shelf.hard c.args.house.now c.requires.whole c.requires.hard

pub compact_one-requires-clause-running : goal.compact_one-requires-clause-running
compact_one-requires-clause-running g c =
    c.requires.whole.ready.kept.running

pub returns-in-Ok-clause-whole : goal.returns-in-Ok-clause-whole
returns-in-Ok-clause-whole g c =
    c.compact_one.ensures.keeps.0.whole c.in-Ok.ensures.running

pub returns-in-Ok-clause-later : goal.returns-in-Ok-clause-later
returns-in-Ok-clause-later g c =
    c.compact_one.ensures.later

pub returns-in-Ok-clause-start : goal.returns-in-Ok-clause-start
returns-in-Ok-clause-start g c =
    start-same g.D.Shelf.faults c.args.house.now c.compact_one.new.actor c.compact_one.ensures.later

pub returns-in-Err-clause-start : goal.returns-in-Err-clause-start
returns-in-Err-clause-start g c =
    start-same g.D.Shelf.faults c.args.house.now c.compact_one.new.actor c.compact_one.ensures.later

pub returns-in-Ok-clause-hard : goal.returns-in-Ok-clause-hard
returns-in-Ok-clause-hard g c =
    shuts-kept g.D.Shelf.told g.D.Shelf.hard c.compact_one.new.actor c.compact_one.ensures.keeps

pub returns-in-Err-clause-hard : goal.returns-in-Err-clause-hard
returns-in-Err-clause-hard g c =
    shuts-kept g.D.Shelf.told g.D.Shelf.hard c.compact_one.new.actor c.compact_one.ensures.keeps

pub returns-in-Ok-clause-cause : goal.returns-in-Ok-clause-cause
returns-in-Ok-clause-cause g c =
    done-cause g.D.Shelf.faults c.args.house.now c.compact_one.new.actor c.compact_one.ensures.later

pub returns-in-Err-clause-whole : goal.returns-in-Err-clause-whole
returns-in-Err-clause-whole g c =
    full-ok c.in-Err.why c.fault_of.result (IsWhole g.D.Shelf.told c.compact_one.new.actor.house) c.fault_of.ensures
    (λ entries is. c.compact_one.ensures.keeps.0.whole (one-open g.D.Shelf.told g.D.Shelf.faults (own_alone (seen_in c.args.house.now)) (own_alone (seen_in c.compact_one.new.actor)) c.args.house.now c.compact_one.new.actor c.in-Err.why
    c.in-Err.ensures.stops entries is))

pub returns-in-Err-clause-later : goal.returns-in-Err-clause-later
returns-in-Err-clause-later g c =
    full-ok c.in-Err.why c.fault_of.result (IsLater g.D.Shelf.faults (seen_in c.args.house.now) (seen_in c.compact_one.new.actor)) c.fault_of.ensures (λ entries is. c.compact_one.ensures.later)

pub returns-in-Err-clause-opens : goal.returns-in-Err-clause-opens
returns-in-Err-clause-opens g c =
    λ is. stops-err c.in-Err.why c.fault_of.result (λ why. StillOpens g.D.Shelf.told c.compact_one.new.actor.house) c.fault_of.ensures
    (λ store. still-opens g.D.Shelf.told g.D.Shelf.faults c.args.house.now c.compact_one.new.actor c.compact_one.ensures.later c.compact_one.ensures.keeps.0 is)
    (λ memory. still-opens g.D.Shelf.told g.D.Shelf.faults c.args.house.now c.compact_one.new.actor c.compact_one.ensures.later c.compact_one.ensures.keeps.0 is)

pub returns-in-Err-clause-cause : goal.returns-in-Err-clause-cause
returns-in-Err-clause-cause g c =
    stops-cause g.D.Shelf.faults c.args.house.now c.compact_one.new.actor c.compact_one.ensures.later c.requires.whole.ready.kept.running c.in-Err.why c.fault_of.result c.fault_of.ensures
    (one-shut g.D.Shelf.told g.D.Shelf.faults (own_alone (seen_in c.args.house.now)) (own_alone (seen_in c.compact_one.new.actor)) c.args.house.now c.compact_one.new.actor c.in-Err.why
    c.in-Err.ensures.stops)

pub returns-in-Err-clause-shut : goal.returns-in-Err-clause-shut
returns-in-Err-clause-shut g c =
    stops-shut g.D.Shelf.faults c.args.house.now c.compact_one.new.actor c.compact_one.ensures.later c.requires.whole.ready.kept.running c.in-Err.why c.fault_of.result c.fault_of.ensures
    (one-shut g.D.Shelf.told g.D.Shelf.faults (own_alone (seen_in c.args.house.now)) (own_alone (seen_in c.compact_one.new.actor)) c.args.house.now c.compact_one.new.actor c.in-Err.why
    c.in-Err.ensures.stops)

pub returns-in-Ok-clause-added : goal.returns-in-Ok-clause-added
returns-in-Ok-clause-added g c =
    one-beside g.D.Shelf.told g.D.Shelf.faults (own_alone (seen_in c.args.house.now)) (own_alone (seen_in c.compact_one.new.actor)) c.args.house.now c.compact_one.new.actor c.in-Ok._done
    c.in-Ok.ensures.compacts

pub returns-in-Ok-clause-done : goal.returns-in-Ok-clause-done
returns-in-Ok-clause-done g c =
    one-done g.D.Shelf.told g.D.Shelf.faults (own_alone (seen_in c.args.house.now)) (own_alone (seen_in c.compact_one.new.actor)) c.args.house.now c.compact_one.new.actor c.in-Ok._done
    (c.compact_one.ensures.keeps.0.whole c.in-Ok.ensures.running)
    c.in-Ok.ensures.compacts

pub returns-in-Err-clause-added : goal.returns-in-Err-clause-added
returns-in-Err-clause-added g c =
    full-ok c.in-Err.why c.fault_of.result (AddsBeside IsCompacting (entries_of c.args.house.now.house) (entries_of c.compact_one.new.actor.house)) c.fault_of.ensures
    (λ entries is. one-some g.D.Shelf.told g.D.Shelf.faults (own_alone (seen_in c.args.house.now)) (own_alone (seen_in c.compact_one.new.actor)) c.args.house.now c.compact_one.new.actor c.in-Err.why
    c.in-Err.ensures.stops)

pub returns-in-Err-clause-done : goal.returns-in-Err-clause-done
returns-in-Err-clause-done g c =
    full-ok c.in-Err.why c.fault_of.result (WorksOne (entries_of c.args.house.now.house) (entries_of c.compact_one.new.actor.house)) c.fault_of.ensures
    (one-full g.D.Shelf.told g.D.Shelf.faults (own_alone (seen_in c.args.house.now)) (own_alone (seen_in c.compact_one.new.actor)) c.args.house.now c.compact_one.new.actor c.in-Err.why
    c.in-Err.ensures.stops)

pub returns-in-Err-clause-stopped : goal.returns-in-Err-clause-stopped
returns-in-Err-clause-stopped g c =
    one-stopped g.D.Shelf.told g.D.Shelf.faults (own_alone (seen_in c.args.house.now)) (own_alone (seen_in c.compact_one.new.actor)) c.args.house.now c.compact_one.new.actor c.in-Err.why c.fault_of.result c.fault_of.ensures c.compact_one.ensures.later c.compact_one.ensures.keeps.0 c.requires.begun
    c.in-Err.ensures.stops
