use Rattle.std.proofs.Common.{true≢false, refl, sym, ◌∙◌}
use Rattle.hv_history.specs.declared.entry.Entry.TheVariants as entry
use Rattle.hv_trail.specs.Steps.{Note}
use Rattle.hv_telling.specs.hv_house.proofs.Hards.{still_step}
use Rattle.hv_telling.specs.hv_house.specs.House.{entries_of}
use Rattle.hv_job_calls.specs.declared.fault.JobFault.TheVariants as fault
use Rattle.hv_job_calls.specs.Tests.{ListsOrHouse, ForgetsOrHouse}
use Rattle.hv_job_calls.proofs.Refused.{never, weaker, lists-forgets, full-now, room-not}
use Rattle.hv_job_calls.proofs.Steps.{refused}
use Rattle.hv_job_calls.proofs.forgetting.forget.Goals as goal

pub returns-then-not-is_table_live-clause-step : goal.returns-then-not-is_table_live-clause-step
returns-then-not-is_table_live-clause-step g c =
    refused g.D.Shelf.told g.D.Shelf.faults c.args.house.now (Note (entry.Forgot c.args.table c.args.write)) fault.Gone tt c.requires.whole

pub returns-then-not-is_table_live-clause-hard : goal.returns-then-not-is_table_live-clause-hard
returns-then-not-is_table_live-clause-hard g c = still_step (g.D.Shelf.hard c.args.house.now.shelf) c.args.house.now.trail.closed

pub returns-then-not-is_table_live-clause-gone : goal.returns-then-not-is_table_live-clause-gone
returns-then-not-is_table_live-clause-gone g c = (λ e. sym c.is_table_live.ensures.live ∙ c.if-not-is_table_live.true, λ dead. refl)

pub returns-then-not-is_table_live-clause-full : goal.returns-then-not-is_table_live-clause-full
returns-then-not-is_table_live-clause-full g c = λ count.
    (λ e. cc, λ so. absurd (true≢false (sym so.0 ∙ sym c.is_table_live.ensures.live ∙ c.if-not-is_table_live.true)))

pub forget_live-requires-clause-live : goal.forget_live-requires-clause-live
forget_live-requires-clause-live g c = sym c.is_table_live.ensures.live ∙ c.if-not-is_table_live.false

pub forget_live-requires-clause-can : goal.forget_live-requires-clause-can
forget_live-requires-clause-can g c = c.requires.can (sym c.is_table_live.ensures.live ∙ c.if-not-is_table_live.false)

pub forget_live-requires-clause-room : goal.forget_live-requires-clause-room
forget_live-requires-clause-room g c = c.has_room.ensures.room.0 c.if-has_room.true

pub returns-then-has_room-clause-gone : goal.returns-then-has_room-clause-gone
returns-then-has_room-clause-gone g c = (
  λ e. absurd (never ListsOrHouse c.forget_live.result fault.Gone c.forget_live.ensures.others e),
  λ dead. absurd (true≢false (sym c.if-not-is_table_live.false ∙ c.is_table_live.ensures.live ∙ dead)),
)

pub returns-then-has_room-clause-full : goal.returns-then-has_room-clause-full
returns-then-has_room-clause-full g c = λ count. (
  λ e. absurd (never ListsOrHouse c.forget_live.result (fault.Full count) c.forget_live.ensures.others e),
  λ so. absurd (room-not (entries_of c.args.house.now) 1 count (c.has_room.ensures.room.0 c.if-has_room.true) so.1),
)

pub returns-then-has_room-clause-others : goal.returns-then-has_room-clause-others
returns-then-has_room-clause-others g c = weaker ListsOrHouse ForgetsOrHouse lists-forgets c.forget_live.result c.forget_live.ensures.others

pub returns-else-has_room-clause-step : goal.returns-else-has_room-clause-step
returns-else-has_room-clause-step g c =
    refused g.D.Shelf.told g.D.Shelf.faults c.args.house.now (Note (entry.Forgot c.args.table c.args.write)) (fault.Full c.entry_count.result) tt c.requires.whole

pub returns-else-has_room-clause-hard : goal.returns-else-has_room-clause-hard
returns-else-has_room-clause-hard g c = still_step (g.D.Shelf.hard c.args.house.now.shelf) c.args.house.now.trail.closed

pub returns-else-has_room-clause-gone : goal.returns-else-has_room-clause-gone
returns-else-has_room-clause-gone g c =
    (λ e. cc, λ dead. absurd (true≢false (sym c.if-not-is_table_live.false ∙ c.is_table_live.ensures.live ∙ dead)))

pub returns-else-has_room-clause-full : goal.returns-else-has_room-clause-full
returns-else-has_room-clause-full g c = λ count.
    let full = full-now (entries_of c.args.house.now) 1 c.has_room.result c.entry_count.result c.has_room.ensures.room.1 c.if-has_room.false c.entry_count.ensures.count count in
    (λ e. (sym c.is_table_live.ensures.live ∙ c.if-not-is_table_live.false, full.0 e), λ so. full.1 so.1)
