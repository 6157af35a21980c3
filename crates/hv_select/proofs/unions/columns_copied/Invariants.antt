use Rattle.std.proofs.Common.{◌≡◌, take}
use Rattle.hv_select.proofs.unions.columns_copied.Given as goal

abbrev pub invariant-loop-column : goal.invariant-loop-column
invariant-loop-column l = l.copied.items ≡ take l.column-index l.columns
