use Rattle.std.proofs.Common.{◌≡◌, map}
use Rattle.hv_meaning.specs.Meaning.{info_of, found_in}
use Rattle.hv_effect.specs.Tables.{found_of}
use Rattle.hv_effect.proofs.statement.parts_of.Given as goal

abbrev pub invariant-loop-seen : goal.invariant-loop-seen
invariant-loop-seen l = (l.infos.items ≡ map info_of l.yielded) × (found_of l.rows.items ≡ map found_in l.yielded)
