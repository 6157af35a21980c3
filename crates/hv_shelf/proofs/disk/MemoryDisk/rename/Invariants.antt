use Rattle.std.proofs.Common.{◌≡◌, None, map}
use Rattle.std.specs.BTreeMap.{get, IsOrdered}
use Rattle.std.specs.Map.{update_all}
use Rattle.hv_shelf.specs.declared.place.Place.{Place}
use Rattle.hv_shelf.specs.Places.{place_cmp}
use Rattle.hv_shelf.proofs.RenameLemmas.{here, renamed_file}
use Rattle.hv_shelf.proofs.disk.MemoryDisk.rename.Given as goal

abbrev pub invariant-loop-place : goal.invariant-loop-place
invariant-loop-place l = record {
  shown : (q : Place) →
      update_all here (λ p. get place_cmp l.files p) (map (renamed_file l.from l.to) l.place-iterator) q
      ≡ update_all here (λ _. None) (map (renamed_file l.from l.to) l.initial.place-iterator) q;
  ordered : IsOrdered place_cmp l.files;
}
