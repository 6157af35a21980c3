use Rattle.std.proofs.Common.{◌≡◌, drop, map}
use Rattle.hv_script.specs.Script.{earlier}
use Rattle.hv_script.specs.Actions.{least}
use Rattle.hv_script.specs.Standing.{line_of_held, unreleased}
use Rattle.hv_script.proofs.standing.Sessions.first_unreleased.Given as goal

abbrev pub invariant-loop-held : goal.invariant-loop-held
invariant-loop-held l = earlier l.line (least (map line_of_held (drop l.held-index l.self.held))) ≡ least (unreleased l.self)
