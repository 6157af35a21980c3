-- Rows of which each comes before the one behind it.
use Rattle.std.specs.Prelude.{◌&&◌, Bool, true, List, [], ◌∷◌}
use Rattle.std.specs.Ordering.{is_lt}
use Rattle.hv_logic.specs.declared.effect.Found.{Found}
use Rattle.hv_logic.specs.Rows.{found_cmp}

unfoldable pub comes_before : Found → Found → Bool
comes_before first second = is_lt (found_cmp first second)

abbrev pub rise : List Found → Bool
rise [] = true
rise (first ∷ []) = true
rise (first ∷ second ∷ rows) = comes_before first second && rise (second ∷ rows)
