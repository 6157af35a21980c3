use Rattle.std.proofs.Common.{◌≡◌, map}
use Rattle.hv_typing.specs.Nodes.{branch_as}
use Rattle.hv_types.proofs.cases.branches_as.Given as goal

abbrev pub invariant-loop-branch : goal.invariant-loop-branch
invariant-loop-branch l = l.made.items ≡ map (branch_as l.is_alone l.kind) l.yielded
