use Rattle.std.proofs.Common.{◌≡◌, drop}
use Rattle.hv_typing.specs.Nodes.{one_kind}
use Rattle.hv_types.proofs.casts.one_kind.Given as goal

abbrev pub invariant-loop-expr : goal.invariant-loop-expr
invariant-loop-expr l = one_kind l.meeting l.kind (drop l.expr-index l.exprs) ≡ one_kind l.meeting l.initial.kind l.exprs
