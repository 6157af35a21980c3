use Rattle.std.proofs.Common.{◌≡◌, ◌++◌, drop}
use Rattle.std.specs.List.{flat_map}
use Rattle.hv_logic.specs.Names.{source_names, names_of_join, names_of_union}
use Rattle.hv_names.proofs.naming.+naming.Given as goal

abbrev pub invariant-put_maybe-loop-join : goal.invariant-put_maybe-loop-join
invariant-put_maybe-loop-join l =
    l.names.items ++ flat_map (names_of_join source_names) (drop l.join-index l.join-items)
    ≡ l.initial.names.items ++ flat_map (names_of_join source_names) l.join-items

abbrev pub invariant-put_source-loop-union : goal.invariant-put_source-loop-union
invariant-put_source-loop-union l =
    l.names.items ++ flat_map (names_of_union source_names) (drop l.union-index l.union-items)
    ≡ l.initial.names.items ++ flat_map (names_of_union source_names) l.union-items
