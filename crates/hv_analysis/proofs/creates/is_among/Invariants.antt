use Rattle.std.proofs.Common.{◌≡◌, drop}
use Rattle.hv_typing.specs.Creates.{is_among}
use Rattle.hv_analysis.proofs.creates.is_among.Given as goal

abbrev pub invariant-loop-other : goal.invariant-loop-other
invariant-loop-other l = is_among (drop l.other-index l.columns) l.column ≡ is_among l.columns l.column
