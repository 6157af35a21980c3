use Rattle.std.proofs.Common.{◌≡◌, map}
use Rattle.hv_typing.specs.Nodes.{as_kind}
use Rattle.hv_types.proofs.casts.all_as_kind.Given as goal

abbrev pub invariant-loop-expr : goal.invariant-loop-expr
invariant-loop-expr l = l.made.items ≡ map (as_kind l.to) l.yielded
