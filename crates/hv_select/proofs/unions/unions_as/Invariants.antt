use Rattle.std.proofs.Common.{◌≡◌, map}
use Rattle.hv_typing.specs.Queries.{union_as}
use Rattle.hv_select.proofs.unions.unions_as.Given as goal

abbrev pub invariant-loop-union : goal.invariant-loop-union
invariant-loop-union l = l.made.items ≡ map (union_as l.columns) l.yielded
