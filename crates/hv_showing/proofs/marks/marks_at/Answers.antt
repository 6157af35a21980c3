use Rattle.std.proofs.Common.{◌≤◌, List, [], length, take, sym, ap, ◌∙◌, subst}
use Rattle.hv_history.specs.declared.entry.Entry.{Entry}
use Rattle.hv_history.specs.Legal.{profile}
use Rattle.hv_history.specs.Shown.{is_kept}
use Rattle.hv_showing.specs.Fronts.{tables_then}
use Rattle.hv_showing.specs.Marks.{marked_over}
use Rattle.hv_showing.proofs.Marked.{marks-then}
use Rattle.hv_showing.proofs.marks.marks_at.Goals as goal

pub before-requires : goal.before-requires
before-requires c = subst (λ (xs : List Entry). c.args.position ≤ length xs) (sym c.entries.ensures.entries) c.requires.place

pub returns : goal.returns
returns c =
    let entries = c.args.book.now.entries in
    let position = c.args.position in
    c.in_ok-mark_entries.ensures
    ∙ (λ i. marked_over (is_kept (tables_then entries position)) (c.before-2.ensures i) (c.new-marks.ensures.items i))
    ∙ ap (λ (xs : List Entry). marked_over (is_kept (tables_then entries position)) (take position xs) []) c.entries.ensures.entries
    ∙ marks-then profile entries position c.requires.fit
