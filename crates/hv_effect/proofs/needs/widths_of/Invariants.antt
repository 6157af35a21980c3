use Rattle.std.proofs.Common.{◌≡◌, take}
use Rattle.hv_effect.specs.Needs.{widths_of}
use Rattle.hv_effect.proofs.needs.widths_of.Given as goal

abbrev pub invariant-loop-info : goal.invariant-loop-info
invariant-loop-info l = l.widths.items ≡ widths_of (take l.info-index l.infos)
