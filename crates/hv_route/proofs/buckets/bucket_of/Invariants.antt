use Rattle.std.proofs.Common.{◌≡◌}
use Rattle.std.specs.Prelude.{take, fold}
use Rattle.hv_route.specs.Buckets.{next_hash}
use Rattle.hv_route.proofs.buckets.bucket_of.Given as goal

abbrev pub invariant-loop-place : goal.invariant-loop-place
invariant-loop-place l = l.hash ≡ fold (next_hash l.columns l.values) 0 (take l.place-index l.places)
