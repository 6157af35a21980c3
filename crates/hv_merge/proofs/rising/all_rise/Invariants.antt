use Rattle.std.proofs.Common.{◌≡◌, None, drop}
use Rattle.hv_merge.specs.Steps.{rises_from}
use Rattle.hv_merge.proofs.rising.all_rise.Given as goal

abbrev pub invariant-loop-rec : goal.invariant-loop-rec
invariant-loop-rec l = rises_from l.before (drop l.rec-index l.recs) ≡ rises_from None l.recs
