use Rattle.std.proofs.Common.{◌≡◌}
use Rattle.std.specs.List.{list_any}
use Rattle.hv_shelf.specs.Places.{is_in, dir_named}
use Rattle.hv_kept.proofs.names.is_free.Given as goal

abbrev pub invariant-loop-place : goal.invariant-loop-place
invariant-loop-place l =
    list_any (is_in (dir_named l.from l.to)) l.place-iterator
    ≡ list_any (is_in (dir_named l.from l.to)) l.initial.place-iterator
