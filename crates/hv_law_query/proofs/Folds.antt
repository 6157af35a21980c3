-- What a fold over sources gives of a table and of a query; and what holds of every source where it holds of tables, and of a
-- query of whose sources it holds.
use Rattle.std.proofs.Common.{◌≡◌, ℕ, List, [], ◌∷◌, map, Option, Some, None, refl, sym, ap, ◌∙◌, subst}
use Rattle.hv_typing.specs.declared.tree.TypedJoin.{TypedJoin}
use Rattle.hv_typing.specs.declared.tree.TypedFrom.{TypedFrom}
use Rattle.hv_typing.specs.declared.tree.TypedSelect.{TypedSelect}
use Rattle.hv_typing.specs.declared.tree.TypedUnion.{TypedUnion}
use Rattle.hv_typing.specs.declared.tree.TypedQuery.{TypedQuery}
use Rattle.hv_typing.specs.declared.tree.TypedSource.{TypedSource}
use Rattle.hv_typing.specs.declared.tree.TypedSource.TheOpen.{TypedSource-F}
use Rattle.hv_typing.specs.declared.tree.TypedSource.TheFolds.{fold-TypedSource, fold_out-TypedSource, ind-TypedSource, map-TypedSource}
use Rattle.hv_typing.specs.declared.tree.TypedSource.TheShapes
use Rattle.hv_typing.specs.declared.tree.TypedSource.TheVariants as source
use Rattle.hv_typing.specs.declared.tree.TypedSource.TheVariants.{rolls-Table, rolls-Query}
use Rattle.hv_typing.specs.declared.tree.TypedSource.TheViews.{out-TypedSource, roll-TypedSource, out-roll-TypedSource}
use Rattle.hv_law_query.specs.Mapped.{mapped_join, mapped_sources, mapped_select, mapped_union, mapped_query}

-- ---- one layer of a query in FROM

module _ {X Y : Type 0} (f : X → Y) where
  abbrev with_joins : TypedFrom X → List (TypedJoin Y) → TypedFrom Y
  with_joins from joins = record { source = f from.source; width = from.width; joins = joins; laterals = from.laterals }

  abbrev with_sources : TypedSelect X → Option (TypedFrom Y) → TypedSelect Y
  with_sources select from =
      record { distinct = select.distinct; items = select.items; from = from; filter = select.filter; groups = select.groups }

  abbrev with_select : TypedUnion X → TypedSelect Y → TypedUnion Y
  with_select next select = record { all = next.all; select = select }

  abbrev with_parts : TypedQuery X → TypedSelect Y → List (TypedUnion Y) → TypedQuery Y
  with_parts query select unions =
      record { select = select; unions = unions; order = query.order; limit = query.limit; columns = query.columns }

  joins_first : (joins : List (TypedJoin X)) → map ((TheShapes.former-TypedSource-Query-0-at-8).map X Y f) joins ≡ map (mapped_join f) joins
  joins_first [] = refl
  joins_first (join ∷ joins) = ap (λ rest. mapped_join f join ∷ rest) (joins_first joins)

  from_first : (from : Option (TypedFrom X)) → (TheShapes.former-TypedSource-Query-0-at-12).map X Y f from ≡ mapped_sources f from
  from_first None = refl
  from_first (Some from) = ap (λ joins. Some (with_joins from joins)) (joins_first from.joins)

  select_first : (select : TypedSelect X) → (TheShapes.former-TypedSource-Query-0-at-15).map X Y f select ≡ mapped_select f select
  select_first select = ap (with_sources select) (from_first select.from)

  joins_later : (joins : List (TypedJoin X)) → map ((TheShapes.former-TypedSource-Query-0-at-25).map X Y f) joins ≡ map (mapped_join f) joins
  joins_later [] = refl
  joins_later (join ∷ joins) = ap (λ rest. mapped_join f join ∷ rest) (joins_later joins)

  from_later : (from : Option (TypedFrom X)) → (TheShapes.former-TypedSource-Query-0-at-29).map X Y f from ≡ mapped_sources f from
  from_later None = refl
  from_later (Some from) = ap (λ joins. Some (with_joins from joins)) (joins_later from.joins)

  select_later : (select : TypedSelect X) → (TheShapes.former-TypedSource-Query-0-at-32).map X Y f select ≡ mapped_select f select
  select_later select = ap (with_sources select) (from_later select.from)

  unions_later : (unions : List (TypedUnion X)) → map ((TheShapes.former-TypedSource-Query-0-at-33).map X Y f) unions ≡ map (mapped_union f) unions
  unions_later [] = refl
  unions_later (next ∷ unions) = λ i. with_select next (select_later next.select i) ∷ unions_later unions i

  layer_mapped : (query : TypedQuery X) → map-TypedSource X Y f (TypedSource-F.Query query) ≡ TypedSource-F.Query (mapped_query f query)
  layer_mapped query = λ i. TypedSource-F.Query (with_parts query (select_first query.select i) (unions_later query.unions i))

-- ---- folds

module _ {A : Type 0} (layer : TypedSource-F A → A) where
  abbrev folded : TypedSource → A
  folded = fold-TypedSource A layer

  fold-at : {s : TypedSource} (shape : TypedSource-F TypedSource) → s ≡ roll-TypedSource shape
      → folded s ≡ layer (map-TypedSource TypedSource A folded shape)
  fold-at {s = s} shape is =
      fold_out-TypedSource A layer s
      ∙ ap (λ shape. layer (map-TypedSource TypedSource A folded shape)) (ap out-TypedSource is ∙ out-roll-TypedSource shape)

  pub fold-Table : (place : ℕ) → fold-TypedSource A layer (source.Table place) ≡ layer (TypedSource-F.Table place)
  fold-Table place = fold-at (TypedSource-F.Table place) (sym (rolls-Table place))

  pub fold-Query : (query : TypedQuery TypedSource)
      → fold-TypedSource A layer (source.Query query) ≡ layer (TypedSource-F.Query (mapped_query (fold-TypedSource A layer) query))
  fold-Query query = fold-at (TypedSource-F.Query query) (sym (rolls-Query query)) ∙ ap layer (layer_mapped folded query)

-- ---- every source

module _ (P : TypedSource → Type 0) where
  abbrev pub Known : Type 0
  Known = (s : TypedSource) × P s

  abbrev pub plain : Known → TypedSource
  plain known = known.0

  abbrev forget : TypedSource-F Known → TypedSource-F TypedSource
  forget y = map-TypedSource Known TypedSource (λ known. known.0) y

  module _ (tables : (place : ℕ) → P (source.Table place)) (queries : (query : TypedQuery Known) → P (source.Query (mapped_query plain query))) where
    layers : (y : TypedSource-F Known) → P (roll-TypedSource (forget y))
    layers (TypedSource-F.Table place) = subst P (sym (rolls-Table place)) (tables place)
    layers (TypedSource-F.Query query) =
        subst P (sym (rolls-Query (mapped_query plain query)) ∙ ap roll-TypedSource (sym (layer_mapped plain query))) (queries query)

    pub by_sources : (s : TypedSource) → P s
    by_sources = ind-TypedSource P (λ x y is. subst (λ (shape : TypedSource-F TypedSource). P (roll-TypedSource shape)) is (layers y))
