use Rattle.std.proofs.Common.{◌≡◌, map, take}
use Rattle.hv_meaning.specs.Describing.{description}
use Rattle.hv_effect.proofs.describing.descriptions.Given as goal

abbrev pub invariant-loop-column : goal.invariant-loop-column
invariant-loop-column l = l.rows.items ≡ map description (take l.column-index l.columns)
