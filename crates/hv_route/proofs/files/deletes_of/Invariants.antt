use Rattle.std.proofs.Common.{◌≡◌, map, take}
use Rattle.hv_route.specs.Routes.{delete_by}
use Rattle.hv_route.proofs.files.deletes_of.Given as goal

abbrev pub invariant-loop-id : goal.invariant-loop-id
invariant-loop-id l = l.recs.items ≡ map (delete_by l.write.0) (take l.id-index l.ids)
