use Rattle.std.proofs.Common.{◌≡◌, ◌++◌, filter}
use Rattle.hv_shelf.specs.Places.{is_of}
use Rattle.hv_files.proofs.tree.listing_of.Given as goal

abbrev pub invariant-loop-place : goal.invariant-loop-place
invariant-loop-place l =
    l.places.items ++ filter (is_of l.table) l.place-iterator
    ≡ filter (is_of l.table) l.initial.place-iterator
