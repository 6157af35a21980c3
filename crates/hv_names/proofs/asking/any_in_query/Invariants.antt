use Rattle.std.proofs.Common.{◌≡◌, drop}
use Rattle.std.specs.List.{flat_map, list_any}
use Rattle.hv_logic.specs.Names.{source_names, names_of_union}
use Rattle.hv_names.proofs.asking.any_in_query.Given as goal

abbrev pub invariant-loop-union : goal.invariant-loop-union
invariant-loop-union g l =
    list_any (g.T.LockTest.test l.test) (flat_map (names_of_union source_names) (drop l.union-index l.union-items))
    ≡ list_any (g.T.LockTest.test l.test) (flat_map (names_of_union source_names) l.union-items)
