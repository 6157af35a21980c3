-- The choices that are worked out by hand are what the definitions compute.
use Rattle.std.proofs.Common.{refl}
use Rattle.hv_base.specs.Identifiers.{row_id_cmp}
use Rattle.hv_dirs.specs.Choice.{chosen_above}
use Rattle.hv_law_visible.specs.Worked.{ChoicesByHand, RowsByHand}

pub choices-by-hand : ChoicesByHand
unfolding chosen_above
choices-by-hand = record {
  no_base = refl;
  no_delta = refl;
  base = refl;
  above_base = refl;
  older_base = refl;
  above_older = refl;
  before_base = refl;
  newest_base = refl;
  wide = refl;
  single = refl;
  widest = refl;
  aborted = refl;
  forgotten = refl;
  gap = refl;
  below_base = refl;
  watermark = refl;
}

pub rows-by-hand : RowsByHand
unfolding chosen_above row_id_cmp
rows-by-hand = record { early = refl; middle = refl; undecided = refl; late = refl; gap = refl; gap_content = refl }
