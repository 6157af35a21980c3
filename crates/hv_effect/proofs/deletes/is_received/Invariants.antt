use Rattle.std.proofs.Common.{◌≡◌, drop}
use Rattle.hv_meaning.specs.Meaning.{is_received}
use Rattle.hv_effect.proofs.deletes.is_received.Given as goal

abbrev pub invariant-loop-row : goal.invariant-loop-row
invariant-loop-row l = is_received l.width (drop l.row-index l.rows) l.found ≡ is_received l.width l.rows l.found
