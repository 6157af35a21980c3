use Rattle.std.proofs.Common.{◌≡◌, drop}
use Rattle.hv_effect.specs.Needs.{some_keeps}
use Rattle.hv_effect.proofs.needs.any_keeps.Given as goal

abbrev pub invariant-loop-test : goal.invariant-loop-test
invariant-loop-test l = some_keeps (drop l.test-index l.tests) l.parts.values ≡ some_keeps l.tests l.parts.values
