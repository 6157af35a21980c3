use Rattle.std.proofs.Common.{◌≡◌, ◌++◌, map}
use Rattle.hv_route.specs.Routes.{file_of_deletes}
use Rattle.hv_route.proofs.files.push_delete_files.Given as goal

abbrev pub invariant-loop-run : goal.invariant-loop-run
invariant-loop-run l = l.files.items ≡ l.fn.files.items ++ map (file_of_deletes l.write.0) l.yielded
