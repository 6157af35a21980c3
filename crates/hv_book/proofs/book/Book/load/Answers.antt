use Rattle.std.proofs.Common.{◌≡◌, length, sum_by, sym, ap, ◌∙◌, arith}
use Rattle.hv_history.specs.Book.{Kept}
use Rattle.hv_history.specs.State.{state_of}
use Rattle.hv_history.specs.Legal.{open_one, working_one, load}
use Rattle.hv_book.specs.Jobs.{working_note}
use Rattle.hv_book.specs.Notes.{Notes}
use Rattle.hv_book.specs.Briefs.{open_from}
use Rattle.hv_book.proofs.BookLaws.{follows}
use Rattle.hv_book.proofs.LoadLaws.{open-count, working-count}
use Rattle.hv_book.proofs.book.Book.load.Goals as goal

pub returns-clause-load : goal.returns-clause-load
returns-clause-load c =
    let xs = c.self.inside.entries.items in
    let state = state_of xs in
    let entries : length c.as_slice.result.now ≡ state.entries = ap length c.as_slice.ensures.value ∙ sym (follows xs).entries in
    let ongoing : length c.as_slice-2.result.now ≡ sum_by open_one state.transactions =
    ap length (c.as_slice-2.ensures.value ∙ ap (λ (n : Notes). n.ongoing) c.self.invariant.notes ∙ (follows xs).ongoing)
    ∙ ap (λ ts. length (open_from 1 ts)) (follows xs).transactions ∙ open-count 1 state.transactions
    in
    let working : c.working.result ≡ sum_by working_one state.jobs =
    c.working.ensures.working ∙ ap (λ (n : Notes). sum_by working_note n.jobs) c.self.invariant.notes
    ∙ ap (sum_by working_note) (follows xs).jobs ∙ working-count state.jobs
    in
    let same = ap (λ (k : Kept). load (state_of k.entries)) c.self.view_is in
    omega (arith, entries, ongoing, working, same, c.from.ensures)
