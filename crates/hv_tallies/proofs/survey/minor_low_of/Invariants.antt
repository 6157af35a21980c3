use Rattle.std.proofs.Common.{◌≡◌, None, drop, filter, fold}
use Rattle.hv_tallies.specs.Jobs.{is_asked_of, low_of}
use Rattle.hv_tallies.proofs.survey.minor_low_of.Given as goal

abbrev pub invariant-loop-note : goal.invariant-loop-note
invariant-loop-note l =
    fold (low_of l.base) l.low (filter (is_asked_of l.book.entries l.table l.partition) (drop l.note-index l.notes))
    ≡ fold (low_of l.base) None (filter (is_asked_of l.book.entries l.table l.partition) l.notes)
