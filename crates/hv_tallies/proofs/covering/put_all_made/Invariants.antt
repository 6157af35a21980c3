use Rattle.std.proofs.Common.{◌≡◌, ◌++◌, drop}
use Rattle.std.specs.List.{flat_map}
use Rattle.hv_tallies.specs.Covered.{made_kept}
use Rattle.hv_tallies.proofs.covering.put_all_made.Given as goal

abbrev pub invariant-loop-other : goal.invariant-loop-other
invariant-loop-other l =
    l.names.items ++ flat_map (made_kept l.book.entries l.table l.partition l.note) (drop l.other-index l.notes)
    ≡ l.fn.names.items ++ flat_map (made_kept l.book.entries l.table l.partition l.note) l.notes
