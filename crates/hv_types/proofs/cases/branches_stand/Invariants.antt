use Rattle.std.proofs.Common.{◌≡◌, drop}
use Rattle.std.specs.List.{list_all}
use Rattle.hv_typing.specs.Nodes.{branch_stands}
use Rattle.hv_types.proofs.cases.branches_stand.Given as goal

abbrev pub invariant-loop-branch : goal.invariant-loop-branch
invariant-loop-branch l = list_all (branch_stands l.operand) (drop l.branch-index l.branches) ≡ list_all (branch_stands l.operand) l.branches
