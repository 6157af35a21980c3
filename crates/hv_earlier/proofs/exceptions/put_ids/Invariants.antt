use Rattle.std.proofs.Common.{◌≡◌, ◌++◌, drop}
use Rattle.std.specs.List.{flat_map}
use Rattle.hv_earlier.specs.Places.{exceptions_of}
use Rattle.hv_earlier.proofs.exceptions.put_ids.Given as goal

abbrev pub invariant-loop-id : goal.invariant-loop-id
invariant-loop-id l =
    l.exceptions.items ++ flat_map (exceptions_of l.notes l.forgotten l.spot) (drop l.id-index l.ids)
    ≡ l.fn.exceptions.items ++ flat_map (exceptions_of l.notes l.forgotten l.spot) l.ids
