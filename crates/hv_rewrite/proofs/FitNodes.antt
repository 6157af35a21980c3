-- Whether a source's width is that of its table: a table, and a query.
use Rattle.std.proofs.Common.{◌≡◌, ℕ, Bool, ◌&&◌, List, slice_get, ap, ◌∙◌}
use Rattle.hv_typing.specs.declared.tree.TypedQuery.{TypedQuery}
use Rattle.hv_typing.specs.declared.tree.TypedSource.{TypedSource}
use Rattle.hv_typing.specs.declared.tree.TypedSource.TheVariants as source
use Rattle.hv_law_query.proofs.Folds.{fold-Table, fold-Query}
use Rattle.hv_rewrite.specs.Wide.{shows, query_wide}
use Rattle.hv_rewrite.specs.Fits.{fits_at, layer_fits, source_fits}
use Rattle.hv_rewrite.proofs.Spots.{wide-mapped, shows-mapped}

abbrev Fits : Type 0
Fits = ℕ → Bool

abbrev at_width : ℕ → Fits → Bool
at_width width fits = fits width

abbrev as_it_is : Fits → ℕ → Bool
as_it_is fits width = fits width

pub fits-Table : (counts : List ℕ) (place width : ℕ) → source_fits counts (source.Table place) width ≡ fits_at (slice_get counts place) width
unfolding source_fits
fits-Table counts place width = ap (at_width width) (fold-Table (layer_fits counts) place)

pub fits-Query : (counts : List ℕ) (query : TypedQuery TypedSource) (width : ℕ)
    → source_fits counts (source.Query query) width ≡ (shows width query && query_wide (source_fits counts) query)
unfolding source_fits
fits-Query counts query width =
    ap (at_width width) (fold-Query (layer_fits counts) query)
    ∙ (λ i. shows-mapped (source_fits counts) width query i && wide-mapped (source_fits counts) as_it_is query i)

pub ruleset fits = (fits-Table, fits-Query)
