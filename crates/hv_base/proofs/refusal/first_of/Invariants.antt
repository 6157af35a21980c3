use Rattle.std.proofs.Common.{◌≡◌, ◌==◌, drop}
use Rattle.std.specs.List.{find}
use Rattle.hv_base.specs.Refusals.{number}
use Rattle.hv_base.proofs.refusal.first_of.Given as goal

abbrev pub invariant-loop-refusal : goal.invariant-loop-refusal
invariant-loop-refusal l =
    find (λ r. number r == l.wanted) (drop l.refusal-index l.refusals) ≡ find (λ r. number r == l.wanted) l.refusals
