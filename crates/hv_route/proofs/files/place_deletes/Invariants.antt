use Rattle.std.proofs.Common.{◌≡◌, map}
use Rattle.hv_route.specs.Routes.{place_of_deleted}
use Rattle.hv_route.proofs.files.place_deletes.Given as goal

abbrev pub invariant-loop-found : goal.invariant-loop-found
invariant-loop-found l = l.placed.items ≡ map place_of_deleted l.yielded
