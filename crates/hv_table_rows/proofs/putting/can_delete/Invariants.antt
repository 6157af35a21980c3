use Rattle.std.proofs.Common.{◌≡◌, None, drop}
use Rattle.hv_table_rows.specs.Putting.{can_delete_from}
use Rattle.hv_table_rows.proofs.putting.can_delete.Given as goal

abbrev pub invariant-loop-rec : goal.invariant-loop-rec
invariant-loop-rec l = can_delete_from l.bucket l.before (drop l.rec-index l.recs) ≡ can_delete_from l.bucket None l.recs
