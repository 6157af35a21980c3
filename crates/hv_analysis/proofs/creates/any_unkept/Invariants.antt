use Rattle.std.proofs.Common.{◌≡◌, drop}
use Rattle.std.specs.List.{list_any}
use Rattle.hv_typing.specs.Creates.{is_unkept}
use Rattle.hv_analysis.proofs.creates.any_unkept.Given as goal

abbrev pub invariant-loop-property : goal.invariant-loop-property
invariant-loop-property l = list_any is_unkept (drop l.property-index l.properties) ≡ list_any is_unkept l.properties
