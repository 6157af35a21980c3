use Rattle.std.proofs.Common.{◌≡◌, map, drop}
use Rattle.std.specs.List.{list_any}
use Rattle.hv_rewrite.specs.Pruned.{spot_keeps, spot_seen}
use Rattle.hv_rewrite.proofs.keeping.PartitionTest.keeps.Given as goal

abbrev pub invariant-loop-one : goal.invariant-loop-one
invariant-loop-one l =
    list_any (spot_keeps l.parts.values) (map spot_seen (drop l.one-index l.one-items))
    ≡ list_any (spot_keeps l.parts.values) (map spot_seen l.self.uses.items)
