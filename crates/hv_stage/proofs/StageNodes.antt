-- The stages of a source: of a table, and of a query.
use Rattle.std.proofs.Common.{◌≡◌, ℕ, not, List, [], ◌∷◌, ◌++◌, map, Option, None, Some, refl, sym, ap, ◌∙◌}
use Rattle.std.specs.List.{flat_map}
use Rattle.std.proofs.lemmas.List.{append-nil}
use Rattle.hv_typing.specs.declared.tree.TypedJoin.{TypedJoin}
use Rattle.hv_typing.specs.declared.tree.TypedFrom.{TypedFrom}
use Rattle.hv_typing.specs.declared.tree.TypedUnion.{TypedUnion}
use Rattle.hv_typing.specs.declared.tree.TypedQuery.{TypedQuery}
use Rattle.hv_typing.specs.declared.tree.TypedSource.{TypedSource}
use Rattle.hv_typing.specs.declared.tree.TypedSource.TheVariants as source
use Rattle.hv_law_query.specs.Mapped.{mapped_join, mapped_sources, mapped_union, mapped_query}
use Rattle.hv_law_query.proofs.Folds.{fold-Table, fold-Query}
use Rattle.hv_typing.specs.declared.stages.StageKind.{StageKind}
use Rattle.hv_typing.specs.Stages.{once_stages, order_stages, shown_stages, join_stages, source_of_join, build_of_join, from_stages, union_stages, query_stages, layer_stages, source_stages, stages_of}

abbrev Kinds : Type 0
Kinds = List StageKind

abbrev itself : Kinds → Kinds
itself kinds = kinds

module _ {X : Type 0} (f : X → Kinds) where
  sources-mapped : (joins : List (TypedJoin X)) → flat_map (source_of_join itself) (map (mapped_join f) joins) ≡ flat_map (source_of_join f) joins
  sources-mapped [] = refl
  sources-mapped (join ∷ joins) = ap (λ rest. f join.source ++ rest) (sources-mapped joins)

  builds-mapped : (joins : List (TypedJoin X)) → flat_map (build_of_join itself) (map (mapped_join f) joins) ≡ flat_map (build_of_join f) joins
  builds-mapped [] = refl
  builds-mapped (join ∷ joins) = ap (λ rest. join_stages join.kind ++ rest) (builds-mapped joins)

  from-mapped : (from : Option (TypedFrom X)) → from_stages itself (mapped_sources f from) ≡ from_stages f from
  from-mapped None = refl
  from-mapped (Some from) = λ i. f from.source ++ (sources-mapped from.joins i ++ builds-mapped from.joins i)

  unions-mapped : (unions : List (TypedUnion X)) → flat_map (union_stages itself) (map (mapped_union f) unions) ≡ flat_map (union_stages f) unions
  unions-mapped [] = refl
  unions-mapped (next ∷ unions) = λ i.
      ((from-mapped next.select.from i ++ shown_stages next.select.distinct next.select.groups) ++ once_stages (not next.all)) ++ unions-mapped unions i

  query-mapped : (query : TypedQuery X) → query_stages itself (mapped_query f query) ≡ query_stages f query
  query-mapped query = λ i.
      (from-mapped query.select.from i ++ shown_stages query.select.distinct query.select.groups) ++ (unions-mapped query.unions i ++ order_stages query.order)

pub stages-Table : (place : ℕ) → source_stages (source.Table place) ≡ []
unfolding source_stages
stages-Table place = fold-Table layer_stages place

pub stages-Query : (query : TypedQuery TypedSource) → source_stages (source.Query query) ≡ stages_of query
unfolding source_stages stages_of
stages-Query query = fold-Query layer_stages query ∙ query-mapped source_stages query

pub ruleset stages = (stages-Table, stages-Query)

-- where nothing is put, the list stays
pub unchanged : (kinds added : Kinds) → added ≡ [] → kinds ≡ kinds ++ added
unchanged kinds added e = sym (append-nil kinds) ∙ ap (λ more. kinds ++ more) (sym e)
