use Rattle.std.proofs.Common.{◌≡◌, drop}
use Rattle.hv_typing.specs.Scopes.{is_any_meant}
use Rattle.hv_types.proofs.scope.is_any_meant.Given as goal

abbrev pub invariant-loop-field : goal.invariant-loop-field
invariant-loop-field l = is_any_meant l.source l.name (drop l.field-index l.fields) ≡ is_any_meant l.source l.name l.fields
