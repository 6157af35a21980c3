use Rattle.std.proofs.Common.{◌≡◌, ◌++◌, drop}
use Rattle.std.specs.List.{flat_map}
use Rattle.hv_logic.specs.Names.{source_names, names_of_union}
use Rattle.hv_names.proofs.naming.put_query.Given as goal

abbrev pub invariant-loop-union : goal.invariant-loop-union
invariant-loop-union l =
    l.names.items ++ flat_map (names_of_union source_names) (drop l.union-index l.union-items)
    ≡ l.initial.names.items ++ flat_map (names_of_union source_names) l.union-items
