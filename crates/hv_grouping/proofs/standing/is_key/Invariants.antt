use Rattle.std.proofs.Common.{◌≡◌, drop}
use Rattle.std.specs.List.{list_any}
use Rattle.hv_typing.specs.Same.{same_tree}
use Rattle.hv_grouping.proofs.standing.is_key.Given as goal

abbrev pub invariant-loop-key : goal.invariant-loop-key
invariant-loop-key l = list_any (same_tree l.expr) (drop l.key-index l.keys) ≡ list_any (same_tree l.expr) l.keys
