use Rattle.std.proofs.Common.{◌≡◌}
use Rattle.hv_route.specs.Routes.{inserts_from}
use Rattle.hv_route.proofs.files.inserts_of.Given as goal

abbrev pub invariant-loop-row : goal.invariant-loop-row
invariant-loop-row l = l.recs.items ≡ inserts_from l.shape l.write.0 l.statement l.bucket 0 l.yielded
