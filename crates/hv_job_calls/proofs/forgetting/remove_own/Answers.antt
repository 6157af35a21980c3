use Rattle.std.proofs.Common.{None, true≢false, refl, sym, ◌∙◌}
use Rattle.hv_history.specs.State.{state_of}
use Rattle.hv_trail.specs.Steps.{Remove}
use Rattle.hv_telling.specs.hv_house.proofs.Hards.{still_step}
use Rattle.hv_telling.specs.hv_house.specs.House.{entries_of}
use Rattle.hv_job_calls.specs.declared.fault.JobFault.TheVariants as fault
use Rattle.hv_job_calls.specs.Tests.{IsHouse, IsGoneOrHouse}
use Rattle.hv_job_calls.proofs.Forgets.{lost-goes}
use Rattle.hv_job_calls.proofs.Refused.{never, weaker, house-gone}
use Rattle.hv_job_calls.proofs.Steps.{refused}
use Rattle.hv_job_calls.proofs.forgetting.remove_own.Goals as goal

pub take-requires-clause-truly : goal.take-requires-clause-truly
take-requires-clause-truly g c = λ told.
    lost-goes (state_of (entries_of c.args.house.now)) c.args.table c.args.write.0 c.args.dir c.requires.here c.requires.own
    (c.requires.lost (sym c.is_table_live.ensures.live ∙ c.if-is_table_live.true))

pub returns-then-is_table_live-clause-gone : goal.returns-then-is_table_live-clause-gone
returns-then-is_table_live-clause-gone g c = (
  λ e. absurd (never IsHouse c.take.result fault.Gone c.take.ensures.failed e),
  λ dead. absurd (true≢false (sym c.if-is_table_live.true ∙ c.is_table_live.ensures.live ∙ dead)),
)

pub returns-then-is_table_live-clause-others : goal.returns-then-is_table_live-clause-others
returns-then-is_table_live-clause-others g c = weaker IsHouse IsGoneOrHouse house-gone c.take.result c.take.ensures.failed

pub returns-else-is_table_live-clause-step : goal.returns-else-is_table_live-clause-step
returns-else-is_table_live-clause-step g c = refused g.D.Shelf.told g.D.Shelf.faults c.args.house.now (Remove None c.args.dir) fault.Gone tt c.requires.whole

pub returns-else-is_table_live-clause-hard : goal.returns-else-is_table_live-clause-hard
returns-else-is_table_live-clause-hard g c = still_step (g.D.Shelf.hard c.args.house.now.shelf) c.args.house.now.trail.closed

pub returns-else-is_table_live-clause-gone : goal.returns-else-is_table_live-clause-gone
returns-else-is_table_live-clause-gone g c = (λ e. sym c.is_table_live.ensures.live ∙ c.if-is_table_live.false, λ dead. refl)
