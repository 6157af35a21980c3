use Rattle.std.proofs.Common.{◌≡◌, ◌==◌, drop}
use Rattle.std.specs.List.{list_any}
use Rattle.hv_job_fits.proofs.causes.is_kept.Given as goal

abbrev pub invariant-loop-other : goal.invariant-loop-other
invariant-loop-other l = list_any (λ other. other == l.count) (drop l.other-index l.kept) ≡ list_any (λ other. other == l.count) l.kept
