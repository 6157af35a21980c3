-- The spots of a query whose sources stand for others, and what holds at them.
use Rattle.std.proofs.Common.{if◌then◌else◌, ◌≡◌, ℕ, Bool, true, ◌&&◌, List, [], ◌∷◌, ◌++◌, map, Option, None, Some, refl, sym, ap, ◌∙◌}
use Rattle.std.specs.List.{flat_map, list_all}
use Rattle.std.proofs.lemmas.List.{map-append}
use Rattle.hv_expr.specs.declared.tree.TypedExpr.{TypedExpr}
use Rattle.hv_typing.specs.declared.tree.TypedJoin.{TypedJoin}
use Rattle.hv_typing.specs.declared.tree.TypedFrom.{TypedFrom}
use Rattle.hv_typing.specs.declared.tree.TypedUnion.{TypedUnion}
use Rattle.hv_typing.specs.declared.tree.TypedQuery.{TypedQuery}
use Rattle.hv_typing.specs.Rows.{width_behind}
use Rattle.hv_law_query.specs.Mapped.{mapped_join, mapped_sources, mapped_union, mapped_query}
use Rattle.hv_rewrite.specs.Conditions.{conjuncts_of}
use Rattle.hv_rewrite.specs.Reach.{passes, met_behind, known_right, known, spot_at, Placed, placed, joined_spots, from_spots, select_spots, union_spots, query_spots}
use Rattle.hv_rewrite.specs.Wide.{has_items, union_has_items, shows, join_wide, joins_wide, from_wide, select_wide, union_wide, unions_wide, query_wide}
use Rattle.hv_rewrite.proofs.Lists.{Each, each-append, front-true, back-true}

module _ {X Y : Type 0} (f : X → Y) where
  abbrev pub place_mapped : Placed X → Placed Y
  place_mapped one = placed (f one.source) one.spot

  known-mapped : (joins : List (TypedJoin X)) (condition : Option TypedExpr) → known (map (mapped_join f) joins) condition ≡ known joins condition
  known-mapped [] condition = refl
  known-mapped (join ∷ joins) condition =
      ap (λ later. if passes join.kind then met_behind join.kind (conjuncts_of join.on) ++ later else []) (known-mapped joins condition)

  joined-mapped : (width : ℕ) (joins : List (TypedJoin X)) (condition : Option TypedExpr)
      → joined_spots width (map (mapped_join f) joins) condition ≡ map place_mapped (joined_spots width joins condition)
  joined-mapped width [] condition = refl
  joined-mapped width (join ∷ joins) condition = λ i.
      placed (f join.source) (spot_at width join.width (known_right join.kind (conjuncts_of join.on) (known-mapped joins condition i)))
      ∷ joined-mapped (width_behind join.kind width join.width) joins condition i

  from-mapped : (from : Option (TypedFrom X)) (condition : Option TypedExpr)
      → from_spots (mapped_sources f from) condition ≡ map place_mapped (from_spots from condition)
  from-mapped None condition = refl
  from-mapped (Some from) condition = λ i.
      placed (f from.source) (spot_at 0 from.width (known-mapped from.joins condition i)) ∷ joined-mapped from.width from.joins condition i

  unions-mapped : (unions : List (TypedUnion X)) → flat_map union_spots (map (mapped_union f) unions) ≡ map place_mapped (flat_map union_spots unions)
  unions-mapped [] = refl
  unions-mapped (next ∷ unions) =
      (λ i. from-mapped next.select.from next.select.filter i ++ unions-mapped unions i)
      ∙ sym (map-append place_mapped (select_spots next.select) (flat_map union_spots unions))

  pub spots-mapped : (query : TypedQuery X) → query_spots (mapped_query f query) ≡ map (λ (one : Placed X). placed (f one.source) one.spot) (query_spots query)
  spots-mapped query =
      (λ i. from-mapped query.select.from query.select.filter i ++ unions-mapped query.unions i)
      ∙ sym (map-append place_mapped (select_spots query.select) (flat_map union_spots query.unions))

  -- ---- widths

  module _ (wide : Y → ℕ → Bool) where
    abbrev through : X → ℕ → Bool
    through x width = wide (f x) width

    joins-wide : (joins : List (TypedJoin X)) → joins_wide wide (map (mapped_join f) joins) ≡ joins_wide through joins
    joins-wide [] = refl
    joins-wide (join ∷ joins) = ap (λ rest. through join.source join.width && rest) (joins-wide joins)

    from-wide : (from : Option (TypedFrom X)) → from_wide wide (mapped_sources f from) ≡ from_wide through from
    from-wide None = refl
    from-wide (Some from) = ap (λ rest. through from.source from.width && rest) (joins-wide from.joins)

    unions-wide : (unions : List (TypedUnion X)) → unions_wide wide (map (mapped_union f) unions) ≡ unions_wide through unions
    unions-wide [] = refl
    unions-wide (next ∷ unions) = λ i. from-wide next.select.from i && unions-wide unions i

    pub wide-mapped : (query : TypedQuery X) → query_wide wide (mapped_query f query) ≡ query_wide (λ x width. wide (f x) width) query
    wide-mapped query = λ i. from-wide query.select.from i && unions-wide query.unions i

  module _ (width : ℕ) where
    unions-show : (unions : List (TypedUnion X)) → list_all (union_has_items width) (map (mapped_union f) unions) ≡ list_all (union_has_items width) unions
    unions-show [] = refl
    unions-show (next ∷ unions) = ap (λ rest. has_items width next.select && rest) (unions-show unions)

    pub shows-mapped : (query : TypedQuery X) → shows width (mapped_query f query) ≡ shows width query
    shows-mapped query = ap (λ rest. has_items width query.select && rest) (unions-show query.unions)

-- ---- at each spot of a query that is as wide as it should be its source is

module _ {S : Type 0} (wide : S → ℕ → Bool) where
  abbrev IsWideAt : Placed S → Type 0
  IsWideAt one = wide one.source one.spot.width ≡ true

  joined-at : (width : ℕ) (joins : List (TypedJoin S)) (condition : Option TypedExpr) → joins_wide wide joins ≡ true
      → Each IsWideAt (joined_spots width joins condition)
  joined-at width [] condition h = tt
  joined-at width (join ∷ joins) condition h = (
    front-true (join_wide wide join) (joins_wide wide joins) h,
    joined-at (width_behind join.kind width join.width) joins condition (back-true (join_wide wide join) (joins_wide wide joins) h),
  )

  from-at : (from : Option (TypedFrom S)) (condition : Option TypedExpr) → from_wide wide from ≡ true → Each IsWideAt (from_spots from condition)
  from-at None condition h = tt
  from-at (Some from) condition h = (
    front-true (wide from.source from.width) (joins_wide wide from.joins) h,
    joined-at from.width from.joins condition (back-true (wide from.source from.width) (joins_wide wide from.joins) h),
  )

  unions-at : (unions : List (TypedUnion S)) → unions_wide wide unions ≡ true → Each IsWideAt (flat_map union_spots unions)
  unions-at [] h = tt
  unions-at (next ∷ unions) h =
      each-append IsWideAt (select_spots next.select) (flat_map union_spots unions)
      (from-at next.select.from next.select.filter (front-true (union_wide wide next) (unions_wide wide unions) h))
      (unions-at unions (back-true (union_wide wide next) (unions_wide wide unions) h))

  pub query-at : (query : TypedQuery S) → query_wide wide query ≡ true
      → Each (λ (one : Placed S). wide one.source one.spot.width ≡ true) (query_spots query)
  query-at query h =
      each-append IsWideAt (select_spots query.select) (flat_map union_spots query.unions)
      (from-at query.select.from query.select.filter (front-true (select_wide wide query.select) (unions_wide wide query.unions) h))
      (unions-at query.unions (back-true (select_wide wide query.select) (unions_wide wide query.unions) h))
