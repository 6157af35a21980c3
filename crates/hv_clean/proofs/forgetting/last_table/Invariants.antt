use Rattle.std.proofs.Common.{◌≡◌, drop}
use Rattle.hv_clean.specs.Passing.{last_from, last_table}
use Rattle.hv_clean.proofs.forgetting.last_table.Given as goal

abbrev pub invariant-loop-id : goal.invariant-loop-id
invariant-loop-id l = last_from l.last (drop l.id-index l.ids) ≡ last_table l.ids
