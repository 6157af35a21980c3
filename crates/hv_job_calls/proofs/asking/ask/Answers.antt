use Rattle.std.proofs.Common.{refl, sym, ◌∙◌, true≢false}
use Rattle.hv_trail.specs.Steps.{Note}
use Rattle.hv_telling.specs.hv_house.proofs.Hards.{still_step}
use Rattle.hv_telling.specs.hv_house.specs.House.{entries_of}
use Rattle.hv_job_calls.specs.declared.fault.JobFault.TheVariants as fault
use Rattle.hv_job_calls.specs.Refusals.{asking}
use Rattle.hv_job_calls.proofs.Asks.{found-never, found-some, found-others}
use Rattle.hv_job_calls.proofs.Fitting.{asked-fits}
use Rattle.hv_job_calls.proofs.Lengths.{short_asked}
use Rattle.hv_job_calls.proofs.Refused.{full-now, room-not}
use Rattle.hv_job_calls.proofs.Steps.{refused, nothing-found}
use Rattle.hv_job_calls.proofs.asking.ask.Goals as goal

pub returns-then-not-is_table_live-clause-step : goal.returns-then-not-is_table_live-clause-step
returns-then-not-is_table_live-clause-step g c =
    refused g.D.Shelf.told g.D.Shelf.faults c.args.house.now (Note (asking (entries_of c.args.house.now) c.args.table c.args.partition c.args.kind c.args.by)) fault.Gone tt
    c.requires.whole

pub returns-then-not-is_table_live-clause-hard : goal.returns-then-not-is_table_live-clause-hard
returns-then-not-is_table_live-clause-hard g c = still_step (g.D.Shelf.hard c.args.house.now.shelf) c.args.house.now.trail.closed

pub returns-then-not-is_table_live-clause-gone : goal.returns-then-not-is_table_live-clause-gone
returns-then-not-is_table_live-clause-gone g c = (λ e. sym c.is_table_live.ensures.live ∙ c.if-not-is_table_live.true, λ dead. refl)

pub returns-then-not-is_table_live-clause-none : goal.returns-then-not-is_table_live-clause-none
returns-then-not-is_table_live-clause-none g c =
    (λ none. absurd none, λ so. absurd (true≢false (sym so.0 ∙ sym c.is_table_live.ensures.live ∙ c.if-not-is_table_live.true)))

pub returns-then-not-is_table_live-clause-full : goal.returns-then-not-is_table_live-clause-full
returns-then-not-is_table_live-clause-full g c = λ count.
    (λ e. cc, λ so. absurd (true≢false (sym so.0 ∙ sym c.is_table_live.ensures.live ∙ c.if-not-is_table_live.true)))

pub returns-then-is_busy-clause-step : goal.returns-then-is_busy-clause-step
returns-then-is_busy-clause-step g c = nothing-found g.D.Shelf.told g.D.Shelf.faults c.args.house.now c.requires.whole

pub returns-then-is_busy-clause-hard : goal.returns-then-is_busy-clause-hard
returns-then-is_busy-clause-hard g c = still_step (g.D.Shelf.hard c.args.house.now.shelf) c.args.house.now.trail.closed

pub returns-then-is_busy-clause-gone : goal.returns-then-is_busy-clause-gone
returns-then-is_busy-clause-gone g c =
    (λ e. cc, λ dead. absurd (true≢false (sym c.if-not-is_table_live.false ∙ c.is_table_live.ensures.live ∙ dead)))

pub returns-then-is_busy-clause-none : goal.returns-then-is_busy-clause-none
returns-then-is_busy-clause-none g c =
    (λ none. (sym c.is_table_live.ensures.live ∙ c.if-not-is_table_live.false, sym c.is_busy.ensures.busy ∙ c.if-is_busy.true), λ so. tt)

pub returns-then-is_busy-clause-full : goal.returns-then-is_busy-clause-full
returns-then-is_busy-clause-full g c = λ count.
    (λ e. cc, λ so. absurd (true≢false (sym c.if-is_busy.true ∙ c.is_busy.ensures.busy ∙ so.1)))

pub note_asked-requires-clause-small : goal.note_asked-requires-clause-small
note_asked-requires-clause-small g c = short_asked _ c.args.table c.args.partition c.args.kind c.args.by c.requires.short

pub note_asked-requires-clause-fits : goal.note_asked-requires-clause-fits
note_asked-requires-clause-fits g c =
    asked-fits (entries_of c.args.house.now) c.args.table c.args.partition c.args.kind c.args.by
    (sym c.is_table_live.ensures.live ∙ c.if-not-is_table_live.false) (sym c.is_busy.ensures.busy ∙ c.if-is_busy.false) c.requires.asker
    (c.has_room.ensures.room.0 c.if-has_room.true)

pub note_asked-requires-clause-truly : goal.note_asked-requires-clause-truly
note_asked-requires-clause-truly g c = c.requires.truly

pub returns-then-has_room-clause-gone : goal.returns-then-has_room-clause-gone
returns-then-has_room-clause-gone g c = (
  λ e. absurd (found-never c.note_asked.result fault.Gone (λ is. is) c.note_asked.ensures.found e),
  λ dead. absurd (true≢false (sym c.if-not-is_table_live.false ∙ c.is_table_live.ensures.live ∙ dead)),
)

pub returns-then-has_room-clause-none : goal.returns-then-has_room-clause-none
returns-then-has_room-clause-none g c = (
  λ none. absurd (found-some c.note_asked.result c.note_asked.ensures.found none),
  λ so. absurd (true≢false (sym so.1 ∙ sym c.is_busy.ensures.busy ∙ c.if-is_busy.false)),
)

pub returns-then-has_room-clause-full : goal.returns-then-has_room-clause-full
returns-then-has_room-clause-full g c = λ count. (
  λ e. absurd (found-never c.note_asked.result (fault.Full count) (λ is. is) c.note_asked.ensures.found e),
  λ so. absurd (room-not (entries_of c.args.house.now) 1 count (c.has_room.ensures.room.0 c.if-has_room.true) so.2),
)

pub returns-else-has_room-clause-step : goal.returns-else-has_room-clause-step
returns-else-has_room-clause-step g c =
    refused g.D.Shelf.told g.D.Shelf.faults c.args.house.now (Note (asking (entries_of c.args.house.now) c.args.table c.args.partition c.args.kind c.args.by))
    (fault.Full c.entry_count.result) tt c.requires.whole

pub returns-else-has_room-clause-hard : goal.returns-else-has_room-clause-hard
returns-else-has_room-clause-hard g c = still_step (g.D.Shelf.hard c.args.house.now.shelf) c.args.house.now.trail.closed

pub returns-else-has_room-clause-gone : goal.returns-else-has_room-clause-gone
returns-else-has_room-clause-gone g c =
    (λ e. cc, λ dead. absurd (true≢false (sym c.if-not-is_table_live.false ∙ c.is_table_live.ensures.live ∙ dead)))

pub returns-else-has_room-clause-none : goal.returns-else-has_room-clause-none
returns-else-has_room-clause-none g c =
    (λ none. absurd none, λ so. absurd (true≢false (sym so.1 ∙ sym c.is_busy.ensures.busy ∙ c.if-is_busy.false)))

pub returns-else-has_room-clause-full : goal.returns-else-has_room-clause-full
returns-else-has_room-clause-full g c =
    λ count.
    let full = full-now (entries_of c.args.house.now) 1 c.has_room.result c.entry_count.result c.has_room.ensures.room.1 c.if-has_room.false c.entry_count.ensures.count count in
    (λ e. (sym c.is_table_live.ensures.live ∙ c.if-not-is_table_live.false, sym c.is_busy.ensures.busy ∙ c.if-is_busy.false, full.0 e), λ so. full.1 so.2)

pub returns-then-has_room-clause-others : goal.returns-then-has_room-clause-others
returns-then-has_room-clause-others g c = found-others c.note_asked.result c.note_asked.ensures.found
