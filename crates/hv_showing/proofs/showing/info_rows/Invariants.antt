use Rattle.std.proofs.Common.{◌≡◌, map, take}
use Rattle.hv_showing.specs.Fronts.{info_row}
use Rattle.hv_showing.proofs.showing.info_rows.Given as goal

abbrev pub invariant-loop-info : goal.invariant-loop-info
invariant-loop-info l = l.rows.items ≡ map info_row (take l.info-index l.infos)
