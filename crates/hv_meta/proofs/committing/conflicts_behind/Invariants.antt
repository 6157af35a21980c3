use Rattle.std.proofs.Common.{◌≡◌, take}
use Rattle.std.specs.List.{list_any}
use Rattle.hv_book.specs.Commits.{passes_at}
use Rattle.hv_meta.specs.Committing.{against}
use Rattle.hv_meta.proofs.committing.conflicts_behind.Given as goal

abbrev pub invariant-loop-i : goal.invariant-loop-i
invariant-loop-i l =
    list_any (passes_at (against l.place l.wrote) l.book.entries) (take l.i l.places) ≡ list_any (passes_at (against l.place l.wrote) l.book.entries) l.places
