-- The stages that carry out a query. A map stage goes over parts of rows: through joins, lateral views and WHERE to
-- what is shown, or to the groups of a part. A shuffle brings what has one key together, and a reduce stage puts it
-- together.
-- Source: Hive Language Manual, Explain; which stages there are is this project's own, and no row depends on it.
use Rattle.std.specs.Prelude.{Bool, not, if◌then◌else◌, List, [], ◌∷◌, ◌++◌, flat_map, Option, None, Some}
use Rattle.hv_typing.specs.declared.tree.JoinKind.{JoinKind}
use Rattle.hv_typing.specs.declared.tree.JoinKind.TheVariants as kind
use Rattle.hv_typing.specs.declared.tree.Grouping.{Grouping}
use Rattle.hv_typing.specs.declared.tree.SortKey.{SortKey}
use Rattle.hv_typing.specs.declared.tree.TypedJoin.{TypedJoin}
use Rattle.hv_typing.specs.declared.tree.TypedFrom.{TypedFrom}
use Rattle.hv_typing.specs.declared.tree.TypedSelect.{TypedSelect}
use Rattle.hv_typing.specs.declared.tree.TypedUnion.{TypedUnion}
use Rattle.hv_typing.specs.declared.tree.TypedQuery.{TypedQuery}
use Rattle.hv_typing.specs.declared.tree.TypedSource.{TypedSource}
use Rattle.hv_typing.specs.declared.tree.TypedSource.TheOpen.{TypedSource-F}
use Rattle.hv_typing.specs.declared.tree.TypedSource.TheFolds.{fold-TypedSource}
use Rattle.hv_typing.specs.declared.stages.StageKind.{StageKind}
use Rattle.hv_typing.specs.declared.stages.StageKind.TheVariants.{Map, Shuffle, Reduce}

-- the rows of one side of a join, kept by their keys; what stands left of a RIGHT or FULL join is made whole before
abbrev pub join_stages : JoinKind → List StageKind
join_stages kind.Inner = Map ∷ Shuffle ∷ Reduce ∷ []
join_stages kind.Left = Map ∷ Shuffle ∷ Reduce ∷ []
join_stages kind.Right = Map ∷ Map ∷ Shuffle ∷ Reduce ∷ []
join_stages kind.Full = Map ∷ Map ∷ Shuffle ∷ Reduce ∷ []
join_stages kind.LeftSemi = Map ∷ Shuffle ∷ Reduce ∷ []

-- groups are brought together by their keys
abbrev pub group_stages : Option Grouping → List StageKind
group_stages None = []
group_stages (Some grouping) = Shuffle ∷ Reduce ∷ []

-- one of equal rows of all parts
abbrev pub once_stages : Bool → List StageKind
once_stages once = if once then Reduce ∷ [] else []

-- parts are sorted, and put together
abbrev pub order_stages : List SortKey → List StageKind
order_stages [] = []
order_stages (key ∷ keys) = Map ∷ Reduce ∷ []

-- behind its joins
abbrev pub shown_stages : Bool → Option Grouping → List StageKind
shown_stages distinct groups = Map ∷ (group_stages groups ++ once_stages distinct)

-- where a source has these stages
module _ {S : Type 0} (within : S → List StageKind) where
  abbrev pub source_of_join : TypedJoin S → List StageKind
  source_of_join join = within join.source

  abbrev pub build_of_join : TypedJoin S → List StageKind
  build_of_join join = join_stages join.kind

  -- the sources from the left, then the joins
  abbrev pub from_stages : Option (TypedFrom S) → List StageKind
  from_stages None = []
  from_stages (Some from) =
      within from.source ++ (flat_map source_of_join from.joins ++ flat_map build_of_join from.joins)

  abbrev pub select_stages : TypedSelect S → List StageKind
  select_stages select = from_stages select.from ++ shown_stages select.distinct select.groups

  abbrev pub union_stages : TypedUnion S → List StageKind
  union_stages next = select_stages next.select ++ once_stages (not next.all)

  abbrev pub query_stages : TypedQuery S → List StageKind
  query_stages query = select_stages query.select ++ (flat_map union_stages query.unions ++ order_stages query.order)

abbrev pub layer_stages : TypedSource-F (List StageKind) → List StageKind
layer_stages (TypedSource-F.Table place) = []
layer_stages (TypedSource-F.Query query) = query_stages (λ (stages : List StageKind). stages) query

unfoldable pub source_stages : TypedSource → List StageKind
source_stages = fold-TypedSource (List StageKind) layer_stages

unfoldable pub stages_of : TypedQuery TypedSource → List StageKind
stages_of query = query_stages source_stages query
