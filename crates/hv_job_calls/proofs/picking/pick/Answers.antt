use Rattle.std.proofs.Common.{List, sym, ap, ◌∙◌}
use Rattle.hv_history.specs.declared.entry.Entry.{Entry}
use Rattle.hv_trail.specs.Steps.{Note}
use Rattle.hv_telling.specs.hv_house.proofs.Hards.{still_step}
use Rattle.hv_telling.specs.hv_house.specs.House.{entries_of}
use Rattle.hv_history.specs.State.{state_of}
use Rattle.hv_job_calls.specs.declared.fault.JobFault.TheVariants as fault
use Rattle.hv_job_calls.specs.Refusals.{to_pick, picking}
use Rattle.hv_job_calls.proofs.Asks.{found-never, found-some, found-others}
use Rattle.hv_job_calls.proofs.Picks.{some-picked, never-none, none-some}
use Rattle.hv_job_calls.proofs.Refused.{full-now, room-not}
use Rattle.hv_job_calls.proofs.Steps.{refused, nothing-found}
use Rattle.hv_job_calls.proofs.picking.pick.Goals as goal

pub returns-then-has_room-clause-none : goal.returns-then-has_room-clause-none
returns-then-has_room-clause-none g c = (
  λ none. absurd (found-some c.take_up.result c.take_up.ensures.found none),
  λ so. absurd (never-none (to_pick (state_of (entries_of c.args.house.now))) c.in-Some.number
      (sym (c.in-Some.ensures ∙ ap (λ (book : List Entry). to_pick (state_of book)) c.book.ensures.entries)) so),
)

pub returns-then-has_room-clause-full : goal.returns-then-has_room-clause-full
returns-then-has_room-clause-full g c = λ count. (
  λ e. absurd (found-never c.take_up.result (fault.Full count) (λ is. is) c.take_up.ensures.found e),
  λ so. absurd (room-not (entries_of c.args.house.now) 2 count (c.has_room.ensures.room.0 c.if-has_room.true) so.1),
)

pub returns-then-has_room-clause-not_gone : goal.returns-then-has_room-clause-not_gone
returns-then-has_room-clause-not_gone g c = λ e. found-never c.take_up.result fault.Gone (λ is. is) c.take_up.ensures.found e

pub returns-else-has_room-clause-step : goal.returns-else-has_room-clause-step
returns-else-has_room-clause-step g c =
    refused g.D.Shelf.told g.D.Shelf.faults c.args.house.now (Note (picking (entries_of c.args.house.now))) (fault.Full c.entry_count.result) tt c.requires.whole

pub returns-else-has_room-clause-hard : goal.returns-else-has_room-clause-hard
returns-else-has_room-clause-hard g c = still_step (g.D.Shelf.hard c.args.house.now.shelf) c.args.house.now.trail.closed

pub returns-else-has_room-clause-none : goal.returns-else-has_room-clause-none
returns-else-has_room-clause-none g c = (
  λ none. absurd none,
  λ so. absurd (never-none (to_pick (state_of (entries_of c.args.house.now))) c.in-Some.number
      (sym (c.in-Some.ensures ∙ ap (λ (book : List Entry). to_pick (state_of book)) c.book.ensures.entries)) so),
)

pub returns-else-has_room-clause-full : goal.returns-else-has_room-clause-full
returns-else-has_room-clause-full g c = λ count.
    let full = full-now (entries_of c.args.house.now) 2 c.has_room.result c.entry_count.result c.has_room.ensures.room.1 c.if-has_room.false c.entry_count.ensures.count count in (
      λ e. (
        some-picked (to_pick (state_of (entries_of c.args.house.now))) c.in-Some.number
            (sym (c.in-Some.ensures ∙ ap (λ (book : List Entry). to_pick (state_of book)) c.book.ensures.entries)),
        full.0 e,
      ),
      λ so. full.1 so.1,
    )

pub returns-in-None-clause-step : goal.returns-in-None-clause-step
returns-in-None-clause-step g c = nothing-found g.D.Shelf.told g.D.Shelf.faults c.args.house.now c.requires.whole

pub returns-in-None-clause-hard : goal.returns-in-None-clause-hard
returns-in-None-clause-hard g c = still_step (g.D.Shelf.hard c.args.house.now.shelf) c.args.house.now.trail.closed

pub returns-in-None-clause-none : goal.returns-in-None-clause-none
returns-in-None-clause-none g c = (λ none. sym (c.in-None.ensures ∙ ap (λ (book : List Entry). to_pick (state_of book)) c.book.ensures.entries), λ so. tt)

pub returns-in-None-clause-full : goal.returns-in-None-clause-full
returns-in-None-clause-full g c = λ count. (
  λ e. cc,
  λ so. absurd (none-some (to_pick (state_of (entries_of c.args.house.now)))
      (sym (c.in-None.ensures ∙ ap (λ (book : List Entry). to_pick (state_of book)) c.book.ensures.entries)) so.0),
)

pub returns-then-has_room-clause-others : goal.returns-then-has_room-clause-others
returns-then-has_room-clause-others g c = found-others c.take_up.result c.take_up.ensures.found
