use Rattle.std.proofs.Common.{◌≡◌, drop}
use Rattle.hv_typing.specs.Aggregates.{in_any, in_operations, in_whens, has_aggregate}
use Rattle.hv_grouping.proofs.aggregates.+aggregates.Given as goal

abbrev pub invariant-in_any-loop-expr : goal.invariant-in_any-loop-expr
invariant-in_any-loop-expr l = in_any has_aggregate (drop l.expr-index l.exprs) ≡ in_any has_aggregate l.exprs

abbrev pub invariant-in_operations-loop-operation : goal.invariant-in_operations-loop-operation
invariant-in_operations-loop-operation l = in_operations has_aggregate (drop l.operation-index l.operations) ≡ in_operations has_aggregate l.operations

abbrev pub invariant-in_whens-loop-when : goal.invariant-in_whens-loop-when
invariant-in_whens-loop-when l = in_whens has_aggregate (drop l.when-index l.whens) ≡ in_whens has_aggregate l.whens
