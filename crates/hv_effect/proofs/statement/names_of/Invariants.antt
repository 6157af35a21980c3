use Rattle.std.proofs.Common.{◌≡◌, map, take}
use Rattle.hv_meaning.specs.Meaning.{column_name}
use Rattle.hv_effect.proofs.statement.names_of.Given as goal

abbrev pub invariant-loop-column : goal.invariant-loop-column
invariant-loop-column l = l.names.items ≡ map column_name (take l.column-index l.columns)
