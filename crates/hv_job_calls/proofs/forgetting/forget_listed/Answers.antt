use Rattle.std.proofs.Common.{subst}
use Rattle.hv_history.specs.declared.entry.Entry.TheVariants as entry
use Rattle.hv_trail.specs.Steps.{Note}
use Rattle.hv_telling.specs.hv_house.proofs.Hards.{still_step}
use Rattle.hv_job_calls.specs.declared.fault.JobFault.TheVariants as fault
use Rattle.hv_job_calls.specs.Forgetting.{IsFirstOwn}
use Rattle.hv_job_calls.specs.Tests.{IsHouse, ListsOrHouse}
use Rattle.hv_job_calls.proofs.Forgets.{id-number, listed-own, unlisted, none-stands, tells-more, house-unlisted, ok-so, noted}
use Rattle.hv_job_calls.proofs.Refused.{weaker, house-lists}
use Rattle.hv_job_calls.proofs.Steps.{refused, lacked-note}
use Rattle.hv_job_calls.proofs.forgetting.forget_listed.Goals as goal

pub first_own-requires : goal.first_own-requires
first_own-requires g c = record {
  number = id-number c.args.house.now.trail.entries c.requires.whole.ready.fit c.args.table.0 c.args.write.0 c.requires.can;
}

pub returns-in-Ok-Some-clause-step : goal.returns-in-Ok-Some-clause-step
returns-in-Ok-Some-clause-step g c =
    refused g.D.Shelf.told g.D.Shelf.faults c.args.house.now (Note (entry.Forgot c.args.table c.args.write)) (fault.StillListed c.in-Ok-Some.dir) tt c.requires.whole

pub returns-in-Ok-Some-clause-hard : goal.returns-in-Ok-Some-clause-hard
returns-in-Ok-Some-clause-hard g c = still_step (g.D.Shelf.hard c.args.house.now.shelf) c.args.house.now.trail.closed

pub returns-in-Ok-Some-clause-listed : goal.returns-in-Ok-Some-clause-listed
returns-in-Ok-Some-clause-listed g c =
    tells-more (g.D.Shelf.told c.args.house.now.shelf) _ _
    (λ s are.
    listed-own c.args.table c.args.write.0 c.args.places.now c.in-Ok-Some.dir
    (subst (IsFirstOwn c.args.write.0 c.args.places.now) c.in-Ok-Some.field-0-is c.in-Ok-Some.ensures.found) s.tree are) c.requires.listed

pub note_forgotten-requires-clause-bare : goal.note_forgotten-requires-clause-bare
note_forgotten-requires-clause-bare g c =
    tells-more (g.D.Shelf.told c.args.house.now.shelf) _ _
    (λ s are.
    none-stands c.args.table c.args.write.0 s.tree
    (unlisted c.args.table c.args.write.0 c.args.places.now
    (subst (IsFirstOwn c.args.write.0 c.args.places.now) c.in-Ok-None.field-0-is c.in-Ok-None.ensures.found) s.tree are))
    c.requires.listed

pub returns-in-Ok-None-clause-step : goal.returns-in-Ok-None-clause-step
returns-in-Ok-None-clause-step g c =
    noted g.D.Shelf.told g.D.Shelf.faults c.args.table c.args.write c.args.house.now c.note_forgotten.new.house c.note_forgotten.result c.note_forgotten.ensures.step

pub returns-in-Ok-None-clause-listed : goal.returns-in-Ok-None-clause-listed
returns-in-Ok-None-clause-listed g c =
    house-unlisted (g.D.Shelf.told c.args.house.now.shelf) c.args.table c.args.write.0 c.note_forgotten.result c.note_forgotten.ensures.failed

pub returns-in-Ok-None-clause-bare : goal.returns-in-Ok-None-clause-bare
returns-in-Ok-None-clause-bare g c =
    ok-so c.note_forgotten.result
    (tells-more (g.D.Shelf.told c.args.house.now.shelf) _ _
    (λ s are.
    unlisted c.args.table c.args.write.0 c.args.places.now
    (subst (IsFirstOwn c.args.write.0 c.args.places.now) c.in-Ok-None.field-0-is c.in-Ok-None.ensures.found) s.tree are) c.requires.listed)

pub returns-in-Ok-None-clause-others : goal.returns-in-Ok-None-clause-others
returns-in-Ok-None-clause-others g c = weaker IsHouse ListsOrHouse house-lists c.note_forgotten.result c.note_forgotten.ensures.failed

pub returns-in-Err-clause-step : goal.returns-in-Err-clause-step
returns-in-Err-clause-step g c =
    lacked-note g.D.Shelf.told g.D.Shelf.faults c.args.house.now (entry.Forgot c.args.table c.args.write) c.requires.whole

pub returns-in-Err-clause-hard : goal.returns-in-Err-clause-hard
returns-in-Err-clause-hard g c = still_step (g.D.Shelf.hard c.args.house.now.shelf) c.args.house.now.trail.closed
