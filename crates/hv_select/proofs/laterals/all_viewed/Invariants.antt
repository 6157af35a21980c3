use Rattle.std.proofs.Common.{◌≡◌, drop}
use Rattle.hv_typing.specs.Sources.{all_viewed}
use Rattle.hv_select.proofs.laterals.all_viewed.Given as goal

abbrev pub invariant-loop-lateral : goal.invariant-loop-lateral
invariant-loop-lateral l = all_viewed l.viewed (drop l.lateral-index l.laterals) ≡ all_viewed l.initial.viewed l.laterals
