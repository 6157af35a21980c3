use Rattle.std.proofs.Common.{◌≡◌, ◌++◌, drop, take}
use Rattle.hv_meta.specs.hv_book.specs.hv_history.specs.State.{state_of}
use Rattle.hv_meta.specs.Catalogs.{live_infos}
use Rattle.hv_earlier.proofs.catalogs.catalog_at.Given as goal

abbrev pub invariant-loop-i : goal.invariant-loop-i
invariant-loop-i l =
    l.infos.items ++ live_infos (drop l.i (state_of (take l.position l.book.entries)).tables)
    ≡ live_infos (state_of (take l.position l.book.entries)).tables
