use Rattle.std.proofs.Common.{List, ap, ◌∙◌}
use Rattle.hv_history.specs.declared.entry.Entry.{Entry}
use Rattle.hv_history.specs.declared.entry.Entry.TheVariants as entry
use Rattle.hv_history.specs.State.{state_of, numbered}
use Rattle.hv_telling.specs.hv_house.specs.House.{entries_of}
use Rattle.hv_job_calls.specs.Refusals.{mark_at, picking}
use Rattle.hv_job_calls.proofs.Asks.{found-ok, found-err}
use Rattle.hv_job_calls.proofs.Fitting.{picked-fits}
use Rattle.hv_job_calls.proofs.Lengths.{short_picked}
use Rattle.hv_job_calls.proofs.Picks.{picking-is, marks-it}
use Rattle.hv_job_calls.proofs.picking.take_up.Goals as goal

pub note_job-requires-clause-small : goal.note_job-requires-clause-small
note_job-requires-clause-small g c = short_picked (record { 0 = c.args.number }) c.mark_of-mark.result

pub note_job-requires-clause-fits : goal.note_job-requires-clause-fits
note_job-requires-clause-fits g c =
    picked-fits (entries_of c.args.house.now) c.args.number c.mark_of-mark.result.0 c.requires.lowest
    (marks-it (state_of (entries_of c.args.house.now)) c.args.number c.mark_of-mark.result.0
    (c.mark_of-mark.ensures.mark ∙ ap (λ (book : List Entry). mark_at (state_of book) (numbered (state_of book).jobs c.args.number)) c.book.ensures.entries))
    c.requires.room

pub returns-in-Ok-clause-step : goal.returns-in-Ok-clause-step
returns-in-Ok-clause-step g c =
    found-ok g.D.Shelf.told g.D.Shelf.faults (entry.Picked (record { 0 = c.args.number }) c.mark_of-mark.result) (picking (entries_of c.args.house.now))
    (picking-is (entries_of c.args.house.now) c.args.number c.mark_of-mark.result c.requires.lowest
    (c.mark_of-mark.ensures.mark ∙ ap (λ (book : List Entry). mark_at (state_of book) (numbered (state_of book).jobs c.args.number)) c.book.ensures.entries)) c.args.house.now c.note_job.new.house
    (record { 0 = c.args.number }) c.in-Ok.ensures.step

pub returns-in-Err-clause-step : goal.returns-in-Err-clause-step
returns-in-Err-clause-step g c =
    found-err g.D.Shelf.told g.D.Shelf.faults (entry.Picked (record { 0 = c.args.number }) c.mark_of-mark.result) (picking (entries_of c.args.house.now))
    (picking-is (entries_of c.args.house.now) c.args.number c.mark_of-mark.result c.requires.lowest
    (c.mark_of-mark.ensures.mark ∙ ap (λ (book : List Entry). mark_at (state_of book) (numbered (state_of book).jobs c.args.number)) c.book.ensures.entries)) c.args.house.now c.note_job.new.house
    c.in-Err.why c.in-Err.ensures.step
