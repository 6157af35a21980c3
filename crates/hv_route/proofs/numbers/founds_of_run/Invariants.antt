use Rattle.std.proofs.Common.{◌≡◌}
use Rattle.hv_route.specs.Routes.{founds_from}
use Rattle.hv_route.proofs.numbers.founds_of_run.Given as goal

abbrev pub invariant-loop-row : goal.invariant-loop-row
invariant-loop-row l = l.founds.items ≡ founds_from l.fn.run.partition l.write.0 l.statement l.fn.run.bucket 0 l.yielded
