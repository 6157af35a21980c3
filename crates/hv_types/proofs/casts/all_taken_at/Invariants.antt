use Rattle.std.proofs.Common.{◌≡◌, map}
use Rattle.hv_typing.specs.Nodes.{taken_at}
use Rattle.hv_types.proofs.casts.all_taken_at.Given as goal

abbrev pub invariant-loop-expr : goal.invariant-loop-expr
invariant-loop-expr l = l.made.items ≡ map (taken_at l.place) l.yielded
