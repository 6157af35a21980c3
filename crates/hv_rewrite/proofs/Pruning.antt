-- Without the rows of partitions that no use of a table keeps a query has the same rows.
use Rattle.std.proofs.Common.{if◌then◌else◌, ◌≡◌, ℕ, zero, suc, ◌+◌, ◌==◌, Bool, true, false, ◌&&◌, List, [], ◌∷◌, ◌++◌, map, filter, slice_get, Option, None, Some, option_map, refl, sym, ap, ◌∙◌, subst, eqb-true, eq-eqb, true≢false}
use Rattle.std.specs.List.{flat_map}
use Rattle.hv_value.specs.declared.value.Value.{Value}
use Rattle.hv_value.specs.declared.row.Row.{Row}
use Rattle.hv_expr.specs.declared.tree.TypedExpr.{TypedExpr}
use Rattle.hv_law_expr.specs.Places.{looks_only}
use Rattle.hv_typing.specs.declared.tree.TypedQuery.{TypedQuery}
use Rattle.hv_typing.specs.declared.tree.TypedSource.{TypedSource}
use Rattle.hv_typing.specs.declared.tree.TypedSource.TheVariants as source
use Rattle.hv_typing.specs.Rows.{Frame, Tables, is_true, nulls, values_in, source_frames, query_rows, rows_of}
use Rattle.hv_law_query.specs.Mapped.{mapped_query}
use Rattle.hv_law_query.proofs.Folds.{Known, plain, by_sources}
use Rattle.hv_law_query.proofs.Replaced.{query_rows-mapped}
use Rattle.hv_law_query.proofs.Rows.{over_table, over_query}
use Rattle.hv_rewrite.specs.Conditions.{conjuncts_of, all_true, within}
use Rattle.hv_rewrite.specs.Reach.{Spot, spot_at, Placed, query_spots}
use Rattle.hv_rewrite.specs.Wide.{shows, query_wide, source_wide, is_wide}
use Rattle.hv_rewrite.specs.Pruned.{placed_uses, uses_at, uses_of, passes_over, first_part, spot_keeps, keeps, last_values, row_kept, narrowed, PrunedKeepsRows, MatchingRowsAreKept}
use Rattle.hv_rewrite.proofs.Lists.{Each, each-both, each-any, each-of-flat, each-more, all-each, each-all, filter-map, flat-mapped, front-true, back-true, front-any}
use Rattle.hv_rewrite.proofs.Sides.{looks-condition, looks-parts}
use Rattle.hv_rewrite.proofs.Truths.{met-by-conjuncts}
use Rattle.hv_rewrite.proofs.WideRows.{IsWide, Wide, wide-tested, query-shown}
use Rattle.hv_rewrite.proofs.Reached.{own-true}
use Rattle.hv_rewrite.proofs.Narrowed.{Narrowed, same-narrowed, query-same}
use Rattle.hv_rewrite.proofs.Spots.{place_mapped, spots-mapped, wide-mapped, query-at}
use Rattle.hv_rewrite.proofs.UseNodes.{uses-Table, uses-Query, uses-over}
use Rattle.hv_rewrite.proofs.WideNodes.{wide-Table, wide-Query}

-- ---- a row that meets the conditions of a spot is kept there

module _ (spot : Spot) (count : ℕ) (row : Frame) (wide : IsWide spot.width row) where
  abbrev parts : List Value
  parts = last_values count row

  abbrev from : ℕ
  from = first_part spot parts

  abbrev to : ℕ
  to = spot.base + spot.width

  -- a condition that is true over the row is true over its last values, if it looks at these alone
  passes-one : (condition : TypedExpr) → is_true condition (nulls spot.base ++ row) ≡ true → passes_over from to (nulls from ++ parts) condition ≡ true
  passes-one condition h = by (looks_only (within from to) condition) refl
    where
      by : (b : Bool) → looks_only (within from to) condition ≡ b → (if b then is_true condition (nulls from ++ parts) else true) ≡ true
      by true only =
          sym (looks-parts spot.base spot.width count to row (is_true condition) wide refl (looks-condition (within from to) condition only)) ∙ h
      by false only = refl

  pub meets-keeps : all_true spot.conditions (nulls spot.base ++ row) ≡ true → spot_keeps (last_values count row) spot ≡ true
  meets-keeps h =
      each-all (passes_over from to (nulls from ++ parts)) spot.conditions
      (each-more (λ condition. is_true condition (nulls spot.base ++ row) ≡ true) (λ condition. passes_over from to (nulls from ++ parts) condition ≡ true)
      passes-one spot.conditions (all-each (λ condition. is_true condition (nulls spot.base ++ row)) spot.conditions h))

-- ---- the tables without the rows that aren't kept

at-the-place : (place : ℕ) (test : Row → Bool) (tables : Tables) → slice_get (narrowed place test tables) place ≡ option_map (filter test) (slice_get tables place)
at-the-place zero test [] = refl
at-the-place (suc place) test [] = refl
at-the-place zero test (rows ∷ tables) = refl
at-the-place (suc place) test (rows ∷ tables) = at-the-place place test tables

at-another : (place other : ℕ) (test : Row → Bool) (tables : Tables) → (other ≡ place → ⊥) → slice_get (narrowed place test tables) other ≡ slice_get tables other
at-another zero zero test tables away = absurd (away refl)
at-another zero (suc other) test [] away = refl
at-another zero (suc other) test (rows ∷ tables) away = refl
at-another (suc place) zero test [] away = refl
at-another (suc place) zero test (rows ∷ tables) away = refl
at-another (suc place) (suc other) test [] away = refl
at-another (suc place) (suc other) test (rows ∷ tables) away = at-another place other test tables (λ e. away (ap suc e))

module _ (wanted : ℕ) (kept : List Value → Bool) (count : ℕ) (tables : Tables) where
  abbrev few : Tables
  few = narrowed wanted (row_kept kept count) tables

  abbrev frame_kept : Frame → Bool
  frame_kept frame = kept (last_values count frame)

  abbrev frames : TypedSource → List Frame
  frames one = source_frames one tables

  abbrev few_frames : TypedSource → List Frame
  few_frames one = source_frames one few

  values-filtered : (rows : Option (List Row)) → values_in (option_map (filter (row_kept kept count)) rows) ≡ filter frame_kept (values_in rows)
  values-filtered None = refl
  values-filtered (Some rows) = sym (filter-map frame_kept (λ (row : Row). row.values) rows)

  -- what each use of the table keeps is kept
  abbrev Covers : Spot → Type 0
  Covers spot = (parts : List Value) → spot_keeps parts spot ≡ true → kept parts ≡ true

  abbrev Holds : TypedSource → Type 0
  Holds one = (spot : Spot) → source_wide tables one spot.width ≡ true → Each Covers (uses_at wanted one spot) → Narrowed spot (frames one) (few_frames one)

  table-wide : (place : ℕ) (spot : Spot) → source_wide tables (source.Table place) spot.width ≡ true → Wide spot.width (frames (source.Table place))
  table-wide place spot h =
      subst (Wide spot.width) (sym (over_table tables place))
      (wide-tested spot.width (values_in (slice_get tables place)) (sym (wide-Table tables place spot.width) ∙ h))

  the-table : (place : ℕ) (spot : Spot) → source_wide tables (source.Table place) spot.width ≡ true → place ≡ wanted → Covers spot
      → Narrowed spot (frames (source.Table place)) (few_frames (source.Table place))
  the-table place spot h is covers = record {
    wide = table-wide place spot h;
    test = frame_kept;
    left =
        over_table few place
        ∙ ap (λ p. values_in (slice_get few p)) is
        ∙ ap values_in (at-the-place wanted (row_kept kept count) tables)
        ∙ values-filtered (slice_get tables wanted)
        ∙ ap (λ p. filter frame_kept (values_in (slice_get tables p))) (sym is)
        ∙ ap (filter frame_kept) (sym (over_table tables place));
    needed = λ frame wide meets. covers (last_values count frame) (meets-keeps spot count frame wide meets);
  }

  another-table : (place : ℕ) (spot : Spot) → source_wide tables (source.Table place) spot.width ≡ true → (place ≡ wanted → ⊥)
      → Narrowed spot (frames (source.Table place)) (few_frames (source.Table place))
  another-table place spot h away =
      same-narrowed spot (frames (source.Table place)) (few_frames (source.Table place)) (table-wide place spot h)
      (over_table few place ∙ ap values_in (at-another wanted place (row_kept kept count) tables away) ∙ sym (over_table tables place))

  at-table : (place : ℕ) → Holds (source.Table place)
  at-table place spot h covers = by (place == wanted) refl (subst (Each Covers) (uses-Table wanted place spot) covers)
    where
      by : (b : Bool) → (place == wanted) ≡ b → Each Covers (if b then spot ∷ [] else []) → Narrowed spot (frames (source.Table place)) (few_frames (source.Table place))
      by true e each = the-table place spot h (eqb-true place wanted e) each.0
      by false e each = another-table place spot h (λ is. true≢false (sym (eq-eqb place wanted is) ∙ e))

  -- a query of whose sources it holds has the same rows
  module _ {S : Type 0} (stands : S → TypedSource) (holds : (one : S) → Holds (stands one)) (query : TypedQuery S)
      (wide : query_wide (λ one width. source_wide tables (stands one) width) query ≡ true)
      (covers : Each Covers (flat_map (λ (one : Placed S). uses_at wanted (stands one.source) one.spot) (query_spots query))) where
    pub same-rows : query_rows (λ one. few_frames (stands one)) query ≡ query_rows (λ one. frames (stands one)) query
    same-rows =
        query-same (λ one. frames (stands one)) (λ one. few_frames (stands one)) query
        (each-both (λ (one : Placed S). source_wide tables (stands one.source) one.spot.width ≡ true)
        (λ (one : Placed S). Each Covers (uses_at wanted (stands one.source) one.spot))
        (λ (one : Placed S). Narrowed one.spot (frames (stands one.source)) (few_frames (stands one.source)))
        (λ one h c. holds one.source one.spot h c) (query_spots query)
        (query-at (λ one width. source_wide tables (stands one) width) query wide)
        (each-of-flat Covers (λ (one : Placed S). uses_at wanted (stands one.source) one.spot) (query_spots query) covers))

  -- a query in FROM
  module _ (query : TypedQuery (Known Holds)) (spot : Spot) (h : source_wide tables (source.Query (mapped_query (plain Holds) query)) spot.width ≡ true)
      (covers : Each Covers (uses_at wanted (source.Query (mapped_query (plain Holds) query)) spot)) where
    abbrev whole : TypedQuery TypedSource
    whole = mapped_query (plain Holds) query

    both : (shows spot.width whole && query_wide (source_wide tables) whole) ≡ true
    both = sym (wide-Query tables whole spot.width) ∙ h

    inside : query_wide (λ one width. source_wide tables (plain Holds one) width) query ≡ true
    inside = sym (wide-mapped (plain Holds) (source_wide tables) query) ∙ back-true (shows spot.width whole) (query_wide (source_wide tables) whole) both

    uses-inside : uses_at wanted (source.Query whole) spot ≡ flat_map (λ (one : Placed (Known Holds)). uses_at wanted (plain Holds one.source) one.spot) (query_spots query)
    uses-inside =
        uses-Query wanted whole spot
        ∙ uses-over wanted whole
        ∙ ap (flat_map (placed_uses wanted)) (spots-mapped (plain Holds) query)
        ∙ flat-mapped (placed_uses wanted) (place_mapped (plain Holds)) (query_spots query)

    rows-same : rows_of whole few ≡ rows_of whole tables
    rows-same =
        query_rows-mapped (plain Holds) few_frames query
        ∙ same-rows (plain Holds) (λ one. one.1) query inside (subst (Each Covers) uses-inside covers)
        ∙ sym (query_rows-mapped (plain Holds) frames query)

    query-wide : Wide spot.width (frames (source.Query whole))
    query-wide =
        subst (Wide spot.width) (sym (over_query tables whole))
        (query-shown frames spot.width whole (front-true (shows spot.width whole) (query_wide (source_wide tables) whole) both))

    at-query : Narrowed spot (frames (source.Query whole)) (few_frames (source.Query whole))
    at-query =
        same-narrowed spot (frames (source.Query whole)) (few_frames (source.Query whole)) query-wide
        (over_query few whole ∙ ap (map (λ (row : Row). row.values)) rows-same ∙ sym (over_query tables whole))

  every-source : (one : TypedSource) → Holds one
  every-source = by_sources Holds at-table at-query

  pub rows-kept : (query : TypedQuery TypedSource) → is_wide query tables ≡ true → Each Covers (uses_of wanted query) → rows_of query few ≡ rows_of query tables
  unfolding is_wide uses_of
  rows-kept query wide covers = same-rows (λ one. one) every-source query wide covers

pub pruned-keeps-rows : (query : TypedQuery TypedSource) (place : ℕ) → PrunedKeepsRows query place (keeps (uses_of place query))
unfolding keeps
pruned-keeps-rows query place count tables wide =
    rows-kept place (keeps (uses_of place query)) count tables query wide (each-any (λ parts spot. spot_keeps parts spot) (uses_of place query))

-- ---- the rows on which a condition is true

pub matching-rows-are-kept : (condition : Option TypedExpr) (width : ℕ)
    → MatchingRowsAreKept condition width (keeps (spot_at 0 width (conjuncts_of condition) ∷ []))
unfolding keeps
matching-rows-are-kept condition width count row wide met =
    let spot : Spot = spot_at 0 width (conjuncts_of condition) in
    let meets : all_true spot.conditions (nulls 0 ++ row) ≡ true =
    own-true 0 (0 + width) (conjuncts_of condition) row (sym (met-by-conjuncts condition row) ∙ met) in
    front-any (spot_keeps (last_values count row) spot) false (meets-keeps spot count row wide meets)
