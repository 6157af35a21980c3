use Rattle.std.proofs.Common.{◌≤◌, List, [], length, take, sym, ap, ◌∙◌, subst}
use Rattle.hv_history.specs.declared.entry.Entry.{Entry}
use Rattle.hv_showing.specs.Jobs.{jobs_over}
use Rattle.hv_showing.proofs.JobRows.{jobs-are}
use Rattle.hv_showing.proofs.jobs.notes_at.Goals as goal

pub before-requires : goal.before-requires
before-requires c = subst (λ (xs : List Entry). c.args.position ≤ length xs) (sym c.entries.ensures.entries) c.requires

pub returns : goal.returns
returns c =
    let entries = c.args.book.now.entries in
    let position = c.args.position in
    c.in_ok-note_entries.ensures
    ∙ (λ i. jobs_over 0 (c.before-2.ensures i) (c.new-notes.ensures.items i))
    ∙ ap (λ (xs : List Entry). jobs_over 0 (take position xs) []) c.entries.ensures.entries
    ∙ jobs-are (take position entries)
