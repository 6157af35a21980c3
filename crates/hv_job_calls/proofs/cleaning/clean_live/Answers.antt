use Rattle.hv_history.specs.declared.entry.Entry.TheVariants as entry
use Rattle.hv_history.specs.State.{state_of}
use Rattle.hv_trail.specs.Kept.{trail_of}
use Rattle.hv_trail.specs.Steps.{Note}
use Rattle.hv_telling.specs.hv_house.proofs.Hards.{still_step}
use Rattle.hv_telling.specs.hv_house.specs.House.{entries_of}
use Rattle.hv_job_calls.specs.declared.fault.JobFault.TheVariants as fault
use Rattle.hv_job_calls.specs.Tests.{IsHouse, CleansOrHouse}
use Rattle.hv_job_calls.proofs.Cleans.{needed-so, not-needed, gone-for}
use Rattle.hv_job_calls.proofs.Fitting.{past-now, cleaned-fits}
use Rattle.hv_job_calls.proofs.Lengths.{short_cleaned}
use Rattle.hv_job_calls.proofs.Refused.{never, weaker, house-cleans}
use Rattle.hv_job_calls.proofs.Steps.{refused}
use Rattle.hv_job_calls.proofs.cleaning.clean_live.Goals as goal

pub returns-in-Some-clause-step : goal.returns-in-Some-clause-step
returns-in-Some-clause-step g c =
    refused g.D.Shelf.told g.D.Shelf.faults c.args.house.now (Note (entry.Cleaned c.args.job)) (fault.Needed (record { 0 = c.in-Some.txn })) tt c.requires.whole

pub returns-in-Some-clause-hard : goal.returns-in-Some-clause-hard
returns-in-Some-clause-hard g c = still_step (g.D.Shelf.hard c.args.house.now.shelf) c.args.house.now.trail.closed

pub returns-in-Some-clause-needed : goal.returns-in-Some-clause-needed
returns-in-Some-clause-needed g c =
    needed-so (state_of (entries_of c.args.house.now)) c.args.job.0 c.holder.result c.holder.ensures.holder c.in-Some.txn c.in-Some.is c.requires.live

pub note_job-requires-clause-small : goal.note_job-requires-clause-small
note_job-requires-clause-small g c = short_cleaned c.args.job

pub note_job-requires-clause-fits : goal.note_job-requires-clause-fits
note_job-requires-clause-fits g c =
    let state = state_of (entries_of c.args.house.now) in
    cleaned-fits state c.args.job.0 c.requires.ready
    (past-now state c.args.job.0 c.holder.result c.holder.ensures.holder c.in-None.is c.requires.ready) c.requires.room

pub note_job-requires-clause-truly : goal.note_job-requires-clause-truly
note_job-requires-clause-truly g c = λ told.
    gone-for (state_of (entries_of c.args.house.now)) (trail_of c.args.house.now.trail) c.args.job c.requires.live c.requires.marked

pub returns-in-None-clause-needed : goal.returns-in-None-clause-needed
returns-in-None-clause-needed g c =
    not-needed (state_of (entries_of c.args.house.now)) c.args.job.0 c.holder.result c.holder.ensures.holder IsHouse (λ txn is. is) c.note_job.result
    c.note_job.ensures.failed c.in-None.is

pub returns-in-None-clause-not_gone : goal.returns-in-None-clause-not_gone
returns-in-None-clause-not_gone g c = λ e. never IsHouse c.note_job.result fault.Gone c.note_job.ensures.failed e

pub returns-in-None-clause-not_full : goal.returns-in-None-clause-not_full
returns-in-None-clause-not_full g c = λ count e. never IsHouse c.note_job.result (fault.Full count) c.note_job.ensures.failed e

pub returns-in-None-clause-others : goal.returns-in-None-clause-others
returns-in-None-clause-others g c = weaker IsHouse CleansOrHouse house-cleans c.note_job.result c.note_job.ensures.failed
