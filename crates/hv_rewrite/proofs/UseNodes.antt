-- At which spots a table stands in a source: in a table, and in a query.
use Rattle.std.proofs.Common.{if◌then◌else◌, ◌≡◌, ℕ, ◌==◌, List, [], ◌∷◌, refl, ap, ◌∙◌}
use Rattle.std.specs.List.{flat_map}
use Rattle.hv_typing.specs.declared.tree.TypedQuery.{TypedQuery}
use Rattle.hv_typing.specs.declared.tree.TypedSource.{TypedSource}
use Rattle.hv_typing.specs.declared.tree.TypedSource.TheVariants as source
use Rattle.hv_law_query.proofs.Folds.{fold-Table, fold-Query}
use Rattle.hv_rewrite.specs.Reach.{Spot, Placed, query_spots}
use Rattle.hv_rewrite.specs.Pruned.{layer_uses, placed_uses, uses_at, uses_of}
use Rattle.hv_rewrite.proofs.Lists.{flat-mapped}
use Rattle.hv_rewrite.proofs.Spots.{place_mapped, spots-mapped}

abbrev Uses : Type 0
Uses = Spot → List Spot

abbrev at_spot : Spot → Uses → List Spot
at_spot spot uses = uses spot

abbrev applied : Placed Uses → List Spot
applied one = one.source one.spot

pub uses-Table : (wanted place : ℕ) (spot : Spot) → uses_at wanted (source.Table place) spot ≡ (if place == wanted then spot ∷ [] else [])
unfolding uses_at
uses-Table wanted place spot = ap (at_spot spot) (fold-Table (layer_uses wanted) place)

pub uses-Query : (wanted : ℕ) (query : TypedQuery TypedSource) (spot : Spot) → uses_at wanted (source.Query query) spot ≡ uses_of wanted query
unfolding uses_at uses_of
uses-Query wanted query spot =
    ap (at_spot spot) (fold-Query (layer_uses wanted) query)
    ∙ ap (flat_map applied) (spots-mapped (uses_at wanted) query)
    ∙ flat-mapped applied (place_mapped (uses_at wanted)) (query_spots query)

pub uses-over : (wanted : ℕ) (query : TypedQuery TypedSource) → uses_of wanted query ≡ flat_map (placed_uses wanted) (query_spots query)
unfolding uses_of
uses-over wanted query = refl

pub ruleset uses = (uses-Table, uses-Query)
