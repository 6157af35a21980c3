use Rattle.std.proofs.Common.{◌≡◌, ◌++◌}
use Rattle.hv_kept.specs.Kept.{moved_places}
use Rattle.hv_kept.proofs.names.moved.Given as goal

abbrev pub invariant-loop-place : goal.invariant-loop-place
invariant-loop-place l =
    l.places.items ++ moved_places l.from l.to l.place-iterator ≡ moved_places l.from l.to l.initial.place-iterator
