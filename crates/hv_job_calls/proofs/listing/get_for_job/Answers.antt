use Rattle.std.proofs.Common.{Some}
use Rattle.hv_history.specs.State.{state_of}
use Rattle.hv_trail.specs.declared.trail.Reader.TheVariants as reader
use Rattle.hv_trail.specs.Steps.{Read}
use Rattle.hv_telling.specs.hv_house.proofs.Hards.{still_step}
use Rattle.hv_telling.specs.hv_house.specs.House.{entries_of}
use Rattle.hv_job_calls.specs.declared.fault.JobFault.TheVariants as fault
use Rattle.hv_job_calls.specs.Tests.{FindsOrHouse, GetsOrHouse}
use Rattle.hv_job_calls.proofs.Getting.{made-read, not-missed}
use Rattle.hv_job_calls.proofs.OnOk.{ok-weaker}
use Rattle.hv_job_calls.proofs.Refused.{weaker, finds-gets, gone-now, live-now, gone-so, not-gone}
use Rattle.hv_job_calls.proofs.Steps.{refused}
use Rattle.hv_job_calls.proofs.listing.get_for_job.Goals as goal

pub returns-then-is_job_live-clause-made : goal.returns-then-is_job_live-clause-made
returns-then-is_job_live-clause-made g c = λ deletes recs told standing.
    ok-weaker c.get_live.result _ _
    (λ bytes is. made-read g.D.Shelf.told c.args.house.now c.requires.whole told c.args.place.now deletes recs standing bytes.items is) c.get_live.ensures.bytes

pub returns-then-is_job_live-clause-found : goal.returns-then-is_job_live-clause-found
returns-then-is_job_live-clause-found g c = λ deletes recs told standing e.
    not-missed g.D.Shelf.told c.args.house.now c.requires.whole told c.args.place.now deletes recs standing (c.get_live.ensures.none e)

pub returns-then-is_job_live-clause-gone : goal.returns-then-is_job_live-clause-gone
returns-then-is_job_live-clause-gone g c =
    let state = state_of (entries_of c.args.house.now) in
    not-gone state c.args.job.0 FindsOrHouse (λ is. is) c.get_live.result c.get_live.ensures.others
    (live-now state c.args.job.0 c.is_job_live.result c.is_job_live.ensures.live _ c.requires.works c.if-is_job_live.true)

pub returns-then-is_job_live-clause-others : goal.returns-then-is_job_live-clause-others
returns-then-is_job_live-clause-others g c = weaker FindsOrHouse GetsOrHouse finds-gets c.get_live.result c.get_live.ensures.others

pub returns-else-is_job_live-clause-step : goal.returns-else-is_job_live-clause-step
returns-else-is_job_live-clause-step g c =
    refused g.D.Shelf.told g.D.Shelf.faults c.args.house.now (Read (Some (reader.Job c.args.job))) fault.Gone tt c.requires.whole

pub returns-else-is_job_live-clause-hard : goal.returns-else-is_job_live-clause-hard
returns-else-is_job_live-clause-hard g c = still_step (g.D.Shelf.hard c.args.house.now.shelf) c.args.house.now.trail.closed

pub returns-else-is_job_live-clause-none : goal.returns-else-is_job_live-clause-none
returns-else-is_job_live-clause-none g c = λ e. cc

pub returns-else-is_job_live-clause-made : goal.returns-else-is_job_live-clause-made
returns-else-is_job_live-clause-made g c = λ deletes recs told standing. tt

pub returns-else-is_job_live-clause-found : goal.returns-else-is_job_live-clause-found
returns-else-is_job_live-clause-found g c = λ deletes recs told standing e. cc

pub returns-else-is_job_live-clause-gone : goal.returns-else-is_job_live-clause-gone
returns-else-is_job_live-clause-gone g c =
    let state = state_of (entries_of c.args.house.now) in
    gone-so state c.args.job.0 (gone-now state c.args.job.0 c.is_job_live.result c.is_job_live.ensures.live _ c.requires.works c.if-is_job_live.false)
