use Rattle.std.proofs.Common.{◌≡◌, false, drop, filter, fold}
use Rattle.hv_tallies.specs.Jobs.{or_busy, is_asked_of}
use Rattle.hv_tallies.proofs.survey.busy_of.Given as goal

abbrev pub invariant-loop-note : goal.invariant-loop-note
invariant-loop-note l =
    fold (or_busy l.place) l.busy (filter (is_asked_of l.book.entries l.table l.partition) (drop l.note-index l.notes))
    ≡ fold (or_busy l.place) false (filter (is_asked_of l.book.entries l.table l.partition) l.notes)
