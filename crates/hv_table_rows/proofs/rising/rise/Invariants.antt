use Rattle.std.proofs.Common.{◌≡◌, length}
use Rattle.hv_table_rows.specs.Rising.{rise}
use Rattle.hv_table_rows.proofs.rising.rise.Given as goal

abbrev pub invariant-loop-rest : goal.invariant-loop-rest
invariant-loop-rest l = rise l.rest ≡ rise l.rows

abbrev pub decreases-loop-rest : goal.decreases-loop-rest
decreases-loop-rest l = length l.rest
