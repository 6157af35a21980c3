use Rattle.std.proofs.Common.{◌≡◌, drop, take}
use Rattle.hv_meta.specs.hv_book.specs.hv_history.specs.State.{state_of}
use Rattle.hv_meta.specs.Catalogs.{live_infos}
use Rattle.hv_earlier.specs.Lists.{catalog_at, info_of_name}
use Rattle.hv_earlier.proofs.catalogs.find_at.Given as goal

abbrev pub invariant-loop-i : goal.invariant-loop-i
invariant-loop-i l =
    info_of_name l.name (live_infos (drop l.i (state_of (take l.position l.book.entries)).tables))
    ≡ info_of_name l.name (catalog_at l.book.entries l.position)
