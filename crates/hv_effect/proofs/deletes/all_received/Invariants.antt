use Rattle.std.proofs.Common.{◌≡◌, filter, take}
use Rattle.hv_meaning.specs.Meaning.{is_received}
use Rattle.hv_effect.proofs.deletes.all_received.Given as goal

abbrev pub invariant-loop-one : goal.invariant-loop-one
invariant-loop-one l = l.kept.items ≡ filter (is_received l.width l.rows) (take l.one-index l.found)
