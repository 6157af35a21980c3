use Rattle.std.proofs.Common.{◌≡◌, drop}
use Rattle.hv_typing.specs.Typing.{all_typed, links_typed, whens_typed, typed}
use Rattle.hv_typing.proofs.Equations.{behind}
use Rattle.hv_types.proofs.walk.+typing.Given as goal

abbrev pub invariant-all_typed-loop-expr : goal.invariant-all_typed-loop-expr
invariant-all_typed-loop-expr l =
    behind l.made.items (all_typed (typed l.scope) (drop l.expr-index l.exprs) l.over) ≡ all_typed (typed l.scope) l.exprs l.over

abbrev pub invariant-links_typed-loop-operation : goal.invariant-links_typed-loop-operation
invariant-links_typed-loop-operation l =
    behind l.links.items (links_typed (typed l.scope) (drop l.operation-index l.operations) l.over)
    ≡ links_typed (typed l.scope) l.operations l.over

abbrev pub invariant-whens_typed-loop-when : goal.invariant-whens_typed-loop-when
invariant-whens_typed-loop-when l =
    behind l.branches.items (whens_typed (typed l.scope) (drop l.when-index l.whens) l.over) ≡ whens_typed (typed l.scope) l.whens l.over
