use Rattle.std.proofs.Common.{◌≡◌, filter, take}
use Rattle.hv_meaning.specs.Meaning.{is_matched}
use Rattle.hv_effect.proofs.deletes.all_matched.Given as goal

abbrev pub invariant-loop-one : goal.invariant-loop-one
invariant-loop-one l = l.kept.items ≡ filter (is_matched l.condition) (take l.one-index l.found)
