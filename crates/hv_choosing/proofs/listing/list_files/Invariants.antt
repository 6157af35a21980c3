use Rattle.std.proofs.Common.{◌++◌, List}
use Rattle.hv_choosing.specs.declared.listing.DirFile.{DirFile}
use Rattle.hv_choosing.specs.Listing.{AreListed}
use Rattle.hv_choosing.proofs.listing.list_files.Given as goal

abbrev pub invariant-loop-place : goal.invariant-loop-place
invariant-loop-place l =
    (more : List DirFile) → AreListed l.place-iterator.rest.items more → AreListed l.fn.places.items (l.files.items ++ more)
