use Rattle.std.proofs.Common.{◌≡◌, drop}
use Rattle.hv_script.specs.Standing.{is_held}
use Rattle.hv_script.proofs.standing.holds_session.Given as goal

abbrev pub invariant-loop-other : goal.invariant-loop-other
invariant-loop-other l = is_held l.name (drop l.other-index l.held) ≡ is_held l.name l.held
