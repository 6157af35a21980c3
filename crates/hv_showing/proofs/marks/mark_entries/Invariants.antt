use Rattle.std.proofs.Common.{◌≡◌, drop}
use Rattle.hv_history.specs.Shown.{is_kept}
use Rattle.hv_showing.specs.Fronts.{tables_then}
use Rattle.hv_showing.specs.Marks.{marked_over}
use Rattle.hv_showing.proofs.marks.mark_entries.Given as goal

abbrev pub invariant-loop-entry : goal.invariant-loop-entry
invariant-loop-entry l =
    marked_over (is_kept (tables_then l.book.entries l.position)) (drop l.entry-index l.entries) l.marks.items
    ≡ marked_over (is_kept (tables_then l.book.entries l.position)) l.entries l.fn.marks.items
