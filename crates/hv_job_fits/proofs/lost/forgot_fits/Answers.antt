use Rattle.std.proofs.Common.{ap, ◌∙◌}
use Rattle.std.specs.Prelude.{◌&&◌}
use Rattle.std.specs.List.{list_any}
use Rattle.hv_queue.specs.hv_history.specs.State.{state_of, numbered}
use Rattle.hv_queue.specs.hv_tallies.specs.hv_earlier.specs.hv_meta.specs.hv_book.specs.Past.{past_in}
use Rattle.hv_job_fits.specs.Notes.{is_lost_in, is_forgot}
use Rattle.hv_job_fits.proofs.AskLemmas.{same-law}
use Rattle.hv_job_fits.proofs.LostLemmas.{lost-law, forgot-law, forgets-law}
use Rattle.hv_job_fits.proofs.lost.forgot_fits.Goals as goal

pub returns : goal.returns
returns c =
    let entries = c.args.book.now.entries in
    let state = state_of entries in
    let past = past_in c.past-past.result.now in
    let table = c.args.table.0 in
    let write = c.args.write.0 in
    let live = c.is_live-live.result in
    let lost = c.either-lost.result in
    let known = c.is_forgotten-forgotten.result in
    let there = numbered state.tables table in
    record {
      fits =
          same-law _ c.both.result _
          (c.both.ensures ∙ ap (λ b. live && b) (c.both-rest.ensures ∙ ap (λ b. lost && b) c.both-new.ensures))
          (forgets-law c.args.limits.now state write live lost known c.has_room-room.result c.has_room-room.ensures.room there c.is_live-live.ensures
          (c.either-lost.ensures
          ∙ lost-law entries past table write c.past-past.ensures.past c.is_any_lost-pending.result c.is_ended_lost-ended.result
          (c.is_any_lost-pending.ensures ∙ ap (list_any (is_lost_in state.transactions write)) c.of_table.ensures.ids) c.is_ended_lost-ended.ensures)
          (forgot-law entries past table write c.entry_count-position.result c.past-past.ensures.past c.entry_count-position.ensures.count known
          (c.is_forgotten-forgotten.ensures ∙ ap (list_any (is_forgot c.entry_count-position.result table write)) c.as_slice.ensures.value)));
    }
