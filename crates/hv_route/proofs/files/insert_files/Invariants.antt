use Rattle.std.proofs.Common.{◌≡◌, map}
use Rattle.hv_route.specs.Routes.{file_of_rows}
use Rattle.hv_route.proofs.files.insert_files.Given as goal

abbrev pub invariant-loop-run : goal.invariant-loop-run
invariant-loop-run l = l.files.items ≡ map (file_of_rows l.shape l.write.0 l.statement) l.yielded
