-- Whether a query's widths are those of the tables that it was typed over. Then the rows of these tables are as wide as it
-- says, whichever they are.
use Rattle.std.specs.Prelude.{◌≡◌, ℕ, ◌==◌, Bool, true, false, ◌&&◌, List, slice_get, IsTrue, Option, None, Some}
use Rattle.hv_typing.specs.declared.tree.TypedQuery.{TypedQuery}
use Rattle.hv_typing.specs.declared.tree.TypedSource.{TypedSource}
use Rattle.hv_typing.specs.declared.tree.TypedSource.TheOpen.{TypedSource-F}
use Rattle.hv_typing.specs.declared.tree.TypedSource.TheFolds.{fold-TypedSource}
use Rattle.hv_typing.specs.Rows.{Tables, values_in}
use Rattle.hv_rewrite.specs.Wide.{all_have_width, shows, query_wide, is_wide}

-- a table whose rows have so many values; of a table that isn't there that isn't said
abbrev pub fits_at : Option ℕ → ℕ → Bool
fits_at None width = false
fits_at (Some count) width = count == width

-- of each table, by its place, how many values its rows have
module _ (counts : List ℕ) where
  abbrev pub layer_fits : TypedSource-F (ℕ → Bool) → ℕ → Bool
  layer_fits (TypedSource-F.Table place) width = fits_at (slice_get counts place) width
  layer_fits (TypedSource-F.Query query) width =
      shows width query && query_wide (λ (fits : ℕ → Bool) count. fits count) query

  unfoldable pub source_fits : TypedSource → ℕ → Bool
  source_fits = fold-TypedSource (ℕ → Bool) layer_fits

unfoldable pub fits : TypedQuery TypedSource → List ℕ → Bool
fits query counts = query_wide (source_fits counts) query

abbrev pub HaveCounts : List ℕ → Tables → Type 0
HaveCounts counts tables =
    (place count : ℕ) → slice_get counts place ≡ Some count
    → all_have_width count (values_in (slice_get tables place)) ≡ true

abbrev pub FittingIsWide : TypedQuery TypedSource → List ℕ → Type 0
FittingIsWide query counts =
    IsTrue (fits query counts) → (tables : Tables) → HaveCounts counts tables → IsTrue (is_wide query tables)
