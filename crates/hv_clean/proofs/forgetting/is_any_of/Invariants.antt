use Rattle.std.proofs.Common.{◌≡◌, drop}
use Rattle.hv_clean.specs.Removing.{is_any_of}
use Rattle.hv_clean.proofs.forgetting.is_any_of.Given as goal

abbrev pub invariant-loop-id : goal.invariant-loop-id
invariant-loop-id l = is_any_of l.table (drop l.id-index l.ids) ≡ is_any_of l.table l.ids
