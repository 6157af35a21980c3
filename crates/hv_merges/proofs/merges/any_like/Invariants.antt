use Rattle.std.proofs.Common.{◌≡◌, drop}
use Rattle.std.specs.List.{list_any}
use Rattle.hv_typing.specs.Merges.{is_like}
use Rattle.hv_merges.proofs.merges.any_like.Given as goal

abbrev pub invariant-loop-other : goal.invariant-loop-other
invariant-loop-other l = list_any (is_like l.clause) (drop l.other-index l.others) ≡ list_any (is_like l.clause) l.others
