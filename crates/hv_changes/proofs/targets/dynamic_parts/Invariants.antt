use Rattle.std.proofs.Common.{◌≡◌, ◌++◌, drop}
use Rattle.hv_typing.specs.Targets.{dynamic_parts}
use Rattle.hv_changes.proofs.targets.dynamic_parts.Given as goal

abbrev pub invariant-loop-column : goal.invariant-loop-column
invariant-loop-column l = l.made.items ++ dynamic_parts l.items (drop l.column-index l.parts) ≡ dynamic_parts l.items l.parts
