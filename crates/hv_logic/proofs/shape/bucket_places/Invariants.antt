use Rattle.std.proofs.Common.{◌≡◌, map}
use Rattle.std.proofs.Common.{take}
use Rattle.hv_logic.specs.Shapes.{place_or_first, bucket_place}
use Rattle.hv_logic.proofs.shape.bucket_places.Given as goal

abbrev pub invariant-loop-name : goal.invariant-loop-name
invariant-loop-name l = l.places.items ≡ map (λ name. place_or_first (bucket_place l.columns name)) (take l.name-index l.names)
