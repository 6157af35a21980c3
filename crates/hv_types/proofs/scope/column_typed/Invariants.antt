use Rattle.std.proofs.Common.{◌≡◌, drop}
use Rattle.hv_typing.specs.Scopes.{column_typed}
use Rattle.hv_types.proofs.scope.column_typed.Given as goal

abbrev pub invariant-loop-i : goal.invariant-loop-i
invariant-loop-i l = column_typed l.i l.source l.name (drop l.i l.scope) ≡ column_typed 0 l.source l.name l.scope
