use Rattle.std.proofs.Common.{◌≡◌, drop}
use Rattle.std.specs.List.{list_all}
use Rattle.hv_typing.specs.Nodes.{stands}
use Rattle.hv_types.proofs.casts.all_stand.Given as goal

abbrev pub invariant-loop-expr : goal.invariant-loop-expr
invariant-loop-expr l = list_all (stands l.place) (drop l.expr-index l.exprs) ≡ list_all (stands l.place) l.exprs
