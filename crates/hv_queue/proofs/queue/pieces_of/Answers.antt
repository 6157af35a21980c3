use Rattle.std.proofs.Common.{◌≡◌, Some, None, ap, ◌∙◌}
use Rattle.hv_history.specs.State.{state_of}
use Rattle.hv_history.specs.Jobs.{mark_by, pieces_up_to}
use Rattle.hv_tallies.specs.hv_earlier.specs.hv_meta.specs.hv_book.specs.declared.jobs.JobNote.{JobNote}
use Rattle.hv_tallies.specs.hv_earlier.specs.hv_meta.specs.hv_book.proofs.IdLaws.{all-numbered}
use Rattle.hv_tallies.specs.Jobs.{asked_at}
use Rattle.hv_tallies.proofs.AskedLemmas.{IsAskedThere, all-asked}
use Rattle.hv_queue.proofs.queue.pieces_of.Goals as goal

pub returns-in-Some : goal.returns-in-Some
returns-in-Some c = λ number j at same.
    let entries = c.args.book.now.entries in
    let asked = all-numbered (IsAskedThere entries) (state_of entries).jobs number j (all-asked entries) at in
    let both : Some c.in-Some.partition.now ≡ Some j.partition = c.in-Some.ensures ∙ ap (λ (n : JobNote). asked_at entries n.asked) same ∙ asked.there in
    let partition : c.in-Some.partition.now ≡ j.partition = cc in
    let mark = c.mark_by-mark.ensures ∙ ap (λ (n : JobNote). mark_by n.watermark) same in
    c.pieces_up_to.ensures ∙ (λ i. pieces_up_to (state_of entries) (same i).table (partition i) (same i).kind (mark i))

pub returns-in-None : goal.returns-in-None
returns-in-None c = λ number j at same.
    let entries = c.args.book.now.entries in
    let asked = all-numbered (IsAskedThere entries) (state_of entries).jobs number j (all-asked entries) at in
    let both : None ≡ Some j.partition = c.in-None.ensures ∙ ap (λ (n : JobNote). asked_at entries n.asked) same ∙ asked.there in
    cc
