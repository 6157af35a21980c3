use Rattle.std.proofs.Common.{◌≡◌, drop}
use Rattle.hv_value.specs.declared.sql_type.SqlType.TheVariants as type
use Rattle.hv_typing.specs.Nodes.{branch_kind}
use Rattle.hv_types.proofs.cases.branch_kind.Given as goal

abbrev pub invariant-loop-branch : goal.invariant-loop-branch
invariant-loop-branch l = branch_kind l.kind (drop l.branch-index l.branches) ≡ branch_kind type.Null l.branches
