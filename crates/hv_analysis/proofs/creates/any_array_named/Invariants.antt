use Rattle.std.proofs.Common.{◌≡◌, drop}
use Rattle.std.specs.List.{list_any}
use Rattle.hv_typing.specs.Creates.{is_array_named}
use Rattle.hv_analysis.proofs.creates.any_array_named.Given as goal

abbrev pub invariant-loop-name : goal.invariant-loop-name
invariant-loop-name l = list_any (is_array_named l.columns) (drop l.name-index l.names) ≡ list_any (is_array_named l.columns) l.names
