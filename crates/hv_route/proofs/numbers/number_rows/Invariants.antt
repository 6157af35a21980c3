use Rattle.std.proofs.Common.{◌≡◌}
use Rattle.std.specs.List.{flat_map}
use Rattle.hv_route.specs.Routes.{founds_of_run}
use Rattle.hv_route.proofs.numbers.number_rows.Given as goal

abbrev pub invariant-loop-run : goal.invariant-loop-run
invariant-loop-run l = l.founds.items ≡ flat_map (founds_of_run l.write.0 l.statement) l.yielded
