use Rattle.std.proofs.Common.{◌≡◌, map, take}
use Rattle.hv_logic.specs.Shapes.{column_of}
use Rattle.hv_logic.proofs.types.defined_columns.Given as goal

abbrev pub invariant-loop-definition : goal.invariant-loop-definition
invariant-loop-definition l = l.columns.items ≡ map column_of (take l.definition-index l.definitions)
