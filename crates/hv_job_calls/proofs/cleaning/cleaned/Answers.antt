use Rattle.hv_history.specs.declared.entry.Entry.TheVariants as entry
use Rattle.hv_history.specs.State.{state_of}
use Rattle.hv_trail.specs.Steps.{Note}
use Rattle.hv_telling.specs.hv_house.proofs.Hards.{still_step}
use Rattle.hv_telling.specs.hv_house.specs.House.{entries_of}
use Rattle.hv_job_calls.specs.declared.fault.JobFault.TheVariants as fault
use Rattle.hv_job_calls.proofs.Cleans.{dead-holds}
use Rattle.hv_job_calls.proofs.Refused.{gone-now, live-now, both-not, gone-so, full-now, room-not, no-room}
use Rattle.hv_job_calls.proofs.Steps.{refused}
use Rattle.hv_job_calls.proofs.cleaning.cleaned.Goals as goal

pub returns-then-not-is_job_live-clause-step : goal.returns-then-not-is_job_live-clause-step
returns-then-not-is_job_live-clause-step g c = refused g.D.Shelf.told g.D.Shelf.faults c.args.house.now (Note (entry.Cleaned c.args.job)) fault.Gone tt c.requires.whole

pub returns-then-not-is_job_live-clause-hard : goal.returns-then-not-is_job_live-clause-hard
returns-then-not-is_job_live-clause-hard g c = still_step (g.D.Shelf.hard c.args.house.now.shelf) c.args.house.now.trail.closed

pub returns-then-not-is_job_live-clause-gone : goal.returns-then-not-is_job_live-clause-gone
returns-then-not-is_job_live-clause-gone g c =
    let state = state_of (entries_of c.args.house.now) in
    gone-so state c.args.job.0 (gone-now state c.args.job.0 c.is_job_live.result c.is_job_live.ensures.live _ c.requires.ready c.if-not-is_job_live.true)

pub returns-then-not-is_job_live-clause-full : goal.returns-then-not-is_job_live-clause-full
returns-then-not-is_job_live-clause-full g c = λ count.
    let state = state_of (entries_of c.args.house.now) in
    (λ e. cc, λ so. absurd (both-not state c.args.job.0 (gone-now state c.args.job.0 c.is_job_live.result c.is_job_live.ensures.live _ c.requires.ready c.if-not-is_job_live.true) so.0))

pub returns-then-not-is_job_live-clause-needed : goal.returns-then-not-is_job_live-clause-needed
returns-then-not-is_job_live-clause-needed g c = λ txn.
    let state = state_of (entries_of c.args.house.now) in
    (λ e. cc, λ so. absurd (dead-holds state c.args.job.0 txn (gone-now state c.args.job.0 c.is_job_live.result c.is_job_live.ensures.live _ c.requires.ready c.if-not-is_job_live.true) so.1))

pub clean_live-requires-clause-live : goal.clean_live-requires-clause-live
clean_live-requires-clause-live g c =
    let state = state_of (entries_of c.args.house.now) in
    (live-now state c.args.job.0 c.is_job_live.result c.is_job_live.ensures.live _ c.requires.ready c.if-not-is_job_live.false)

pub clean_live-requires-clause-room : goal.clean_live-requires-clause-room
clean_live-requires-clause-room g c = c.has_room.ensures.room.0 c.if-has_room.true

pub returns-then-has_room-clause-gone : goal.returns-then-has_room-clause-gone
returns-then-has_room-clause-gone g c =
    let state = state_of (entries_of c.args.house.now) in (
      λ e. absurd (c.clean_live.ensures.not_gone e),
      λ gone. absurd (both-not state c.args.job.0 gone (live-now state c.args.job.0 c.is_job_live.result c.is_job_live.ensures.live _ c.requires.ready c.if-not-is_job_live.false)),
    )

pub returns-then-has_room-clause-full : goal.returns-then-has_room-clause-full
returns-then-has_room-clause-full g c = λ count. (
  λ e. absurd (c.clean_live.ensures.not_full count e),
  λ so. absurd (room-not (entries_of c.args.house.now) 1 count (c.has_room.ensures.room.0 c.if-has_room.true) so.1),
)

pub returns-then-has_room-clause-needed : goal.returns-then-has_room-clause-needed
returns-then-has_room-clause-needed g c = λ txn.
    (λ e. (c.has_room.ensures.room.0 c.if-has_room.true, (c.clean_live.ensures.needed txn).0 e), λ so. (c.clean_live.ensures.needed txn).1 so.1)

pub returns-else-has_room-clause-step : goal.returns-else-has_room-clause-step
returns-else-has_room-clause-step g c =
    refused g.D.Shelf.told g.D.Shelf.faults c.args.house.now (Note (entry.Cleaned c.args.job)) (fault.Full c.entry_count.result) tt c.requires.whole

pub returns-else-has_room-clause-hard : goal.returns-else-has_room-clause-hard
returns-else-has_room-clause-hard g c = still_step (g.D.Shelf.hard c.args.house.now.shelf) c.args.house.now.trail.closed

pub returns-else-has_room-clause-gone : goal.returns-else-has_room-clause-gone
returns-else-has_room-clause-gone g c =
    let state = state_of (entries_of c.args.house.now) in
    (λ e. cc, λ gone. absurd (both-not state c.args.job.0 gone (live-now state c.args.job.0 c.is_job_live.result c.is_job_live.ensures.live _ c.requires.ready c.if-not-is_job_live.false)))

pub returns-else-has_room-clause-full : goal.returns-else-has_room-clause-full
returns-else-has_room-clause-full g c = λ count.
    let state = state_of (entries_of c.args.house.now) in
    let full = full-now (entries_of c.args.house.now) 1 c.has_room.result c.entry_count.result c.has_room.ensures.room.1 c.if-has_room.false c.entry_count.ensures.count count in
    (λ e. ((live-now state c.args.job.0 c.is_job_live.result c.is_job_live.ensures.live _ c.requires.ready c.if-not-is_job_live.false), full.0 e), λ so. full.1 so.1)

pub returns-else-has_room-clause-needed : goal.returns-else-has_room-clause-needed
returns-else-has_room-clause-needed g c = λ txn. (
  λ e. cc,
  λ so. absurd (room-not (entries_of c.args.house.now) 1 c.entry_count.result so.0
      (no-room (entries_of c.args.house.now) 1 c.has_room.result c.entry_count.result c.has_room.ensures.room.1 c.if-has_room.false c.entry_count.ensures.count)),
)
