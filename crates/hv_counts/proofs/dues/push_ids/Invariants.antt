use Rattle.std.proofs.Common.{◌≡◌, ◌++◌, drop}
use Rattle.std.specs.List.{flat_map}
use Rattle.hv_counts.specs.Places.{dues_then}
use Rattle.hv_counts.proofs.dues.push_ids.Given as goal

abbrev pub invariant-loop-id : goal.invariant-loop-id
invariant-loop-id l =
    l.dues.items ++ flat_map (dues_then l.book.entries l.spot) (drop l.id-index l.ids)
    ≡ l.fn.dues.items ++ flat_map (dues_then l.book.entries l.spot) l.ids
