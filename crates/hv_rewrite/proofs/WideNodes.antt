-- Whether a source is as wide as it should be: a table, and a query.
use Rattle.std.proofs.Common.{◌≡◌, ℕ, Bool, ◌&&◌, slice_get, ap, ◌∙◌}
use Rattle.hv_typing.specs.declared.tree.TypedQuery.{TypedQuery}
use Rattle.hv_typing.specs.declared.tree.TypedSource.{TypedSource}
use Rattle.hv_typing.specs.declared.tree.TypedSource.TheVariants as source
use Rattle.hv_typing.specs.Rows.{Tables, values_in}
use Rattle.hv_law_query.proofs.Folds.{fold-Table, fold-Query}
use Rattle.hv_rewrite.specs.Wide.{all_have_width, shows, query_wide, Widths, layer_wide, source_widths, source_wide}
use Rattle.hv_rewrite.proofs.Spots.{wide-mapped, shows-mapped}

abbrev over : Tables → ℕ → Widths → Bool
over tables width widths = widths tables width

abbrev widths_over : Tables → Widths → ℕ → Bool
widths_over tables widths width = widths tables width

pub wide-Table : (tables : Tables) (place width : ℕ) → source_wide tables (source.Table place) width ≡ all_have_width width (values_in (slice_get tables place))
unfolding source_wide source_widths
wide-Table tables place width = ap (over tables width) (fold-Table layer_wide place)

pub wide-Query : (tables : Tables) (query : TypedQuery TypedSource) (width : ℕ)
    → source_wide tables (source.Query query) width ≡ (shows width query && query_wide (source_wide tables) query)
unfolding source_wide source_widths
wide-Query tables query width =
    ap (over tables width) (fold-Query layer_wide query)
    ∙ (λ i. shows-mapped source_widths width query i && wide-mapped source_widths (widths_over tables) query i)

pub ruleset widths = (wide-Table, wide-Query)
