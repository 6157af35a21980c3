use Rattle.std.proofs.Common.{◌≡◌, drop}
use Rattle.hv_typing.specs.Creates.{is_array_named}
use Rattle.hv_analysis.proofs.creates.is_array_named.Given as goal

abbrev pub invariant-loop-column : goal.invariant-loop-column
invariant-loop-column l = is_array_named (drop l.column-index l.columns) l.name ≡ is_array_named l.columns l.name
