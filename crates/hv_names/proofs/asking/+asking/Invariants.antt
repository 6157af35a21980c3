use Rattle.std.proofs.Common.{◌≡◌, drop}
use Rattle.std.specs.List.{flat_map, list_any}
use Rattle.hv_logic.specs.Names.{source_names, names_of_join, names_of_union}
use Rattle.hv_names.proofs.asking.+asking.Given as goal

abbrev pub invariant-any_in_maybe-loop-join : goal.invariant-any_in_maybe-loop-join
invariant-any_in_maybe-loop-join g l =
    list_any (g.T.LockTest.test l.test) (flat_map (names_of_join source_names) (drop l.join-index l.join-items))
    ≡ list_any (g.T.LockTest.test l.test) (flat_map (names_of_join source_names) l.join-items)

abbrev pub invariant-any_in_source-loop-union : goal.invariant-any_in_source-loop-union
invariant-any_in_source-loop-union g l =
    list_any (g.T.LockTest.test l.test) (flat_map (names_of_union source_names) (drop l.union-index l.union-items))
    ≡ list_any (g.T.LockTest.test l.test) (flat_map (names_of_union source_names) l.union-items)
