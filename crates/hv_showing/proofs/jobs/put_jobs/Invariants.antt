use Rattle.std.proofs.Common.{◌≡◌, drop}
use Rattle.hv_showing.specs.Jobs.{rows_over}
use Rattle.hv_showing.proofs.jobs.put_jobs.Given as goal

abbrev pub invariant-loop-note : goal.invariant-loop-note
invariant-loop-note l =
    rows_over l.book.entries l.front.position l.lowest (drop l.note-index l.notes) l.rows.items
    ≡ rows_over l.book.entries l.front.position l.lowest l.notes l.fn.rows.items
