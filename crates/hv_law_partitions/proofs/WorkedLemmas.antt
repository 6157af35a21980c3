-- The writes that are worked out by hand.
use Rattle.std.proofs.Common.{refl}
use Rattle.hv_base.specs.Identifiers.{row_id_cmp}
use Rattle.hv_law_partitions.specs.Worked.{ByHand}

pub by-hand : ByHand
unfolding row_id_cmp
by-hand = record {
  in_north = refl;
  in_south = refl;
  list_before = refl;
  list_after = refl;
  north_before = refl;
  north_after = refl;
  south_after = refl;
}
