use Rattle.std.proofs.Common.{◌≡◌, drop}
use Rattle.std.specs.Prelude.{◌==◌}
use Rattle.std.specs.List.{list_any}
use Rattle.hv_fits.proofs.requests.is_among.Given as goal

abbrev pub invariant-loop-other : goal.invariant-loop-other
invariant-loop-other l = list_any (λ other. other == l.txn) (drop l.other-index l.txns) ≡ list_any (λ other. other == l.txn) l.txns
