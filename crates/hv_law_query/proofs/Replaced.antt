-- A query whose sources are replaced has the rows that it has where each source has those of what stands for it.
use Rattle.std.proofs.Common.{◌≡◌, ℕ, List, [], ◌∷◌, ◌++◌, map, filter, if◌then◌else◌, Option, Some, None, refl, ap, ◌∙◌}
use Rattle.hv_value.specs.declared.row.Row.{Row}
use Rattle.hv_typing.specs.declared.tree.TypedJoin.{TypedJoin}
use Rattle.hv_typing.specs.declared.tree.TypedFrom.{TypedFrom}
use Rattle.hv_typing.specs.declared.tree.TypedSelect.{TypedSelect}
use Rattle.hv_typing.specs.declared.tree.TypedUnion.{TypedUnion}
use Rattle.hv_typing.specs.declared.tree.TypedQuery.{TypedQuery}
use Rattle.hv_typing.specs.Grouped.{distinct}
use Rattle.hv_typing.specs.Order.{ordered, limited}
use Rattle.hv_typing.specs.Rows.{Frame, is_met, shown, kept, same_row, viewed, width_behind, joined, joined_with, frames_from, selected, united, query_rows}
use Rattle.hv_law_query.specs.Mapped.{mapped_join, mapped_sources, mapped_select, mapped_union, mapped_query}

module _ {X Y : Type 0} (f : X → Y) (rows : Y → List Frame) where
  abbrev through : X → List Frame
  through x = rows (f x)

  pub joined_with-mapped : (width : ℕ) (lefts : List Frame) (joins : List (TypedJoin X))
      → joined_with rows width lefts (map (mapped_join f) joins) ≡ joined_with (λ x. rows (f x)) width lefts joins
  joined_with-mapped width lefts [] = refl
  joined_with-mapped width lefts (join ∷ joins) =
      joined_with-mapped (width_behind join.kind width join.width)
      (joined width join.width (λ left right. is_met join.on (left ++ right)) join.kind lefts (rows (f join.source))) joins

  pub frames_from-mapped : (from : Option (TypedFrom X)) → frames_from rows (mapped_sources f from) ≡ frames_from (λ x. rows (f x)) from
  frames_from-mapped None = refl
  frames_from-mapped (Some from) = ap (viewed from.laterals) (joined_with-mapped from.width (rows (f from.source)) from.joins)

  pub selected-mapped : (select : TypedSelect X) → selected rows (mapped_select f select) ≡ selected (λ x. rows (f x)) select
  selected-mapped select =
      ap (λ frames. kept select.distinct (shown select.items select.groups (filter (is_met select.filter) frames))) (frames_from-mapped select.from)

  abbrev behind : TypedUnion X → List Row → List Row → List Row
  behind next found more = if next.all then found ++ more else distinct same_row (found ++ more)

  pub united-mapped : (found : List Row) (unions : List (TypedUnion X))
      → united rows found (map (mapped_union f) unions) ≡ united (λ x. rows (f x)) found unions
  united-mapped found [] = refl
  united-mapped found (next ∷ unions) =
      ap (λ more. united rows (behind next found more) (map (mapped_union f) unions)) (selected-mapped next.select)
      ∙ united-mapped (behind next found (selected through next.select)) unions

  pub query_rows-mapped : (query : TypedQuery X) → query_rows rows (mapped_query f query) ≡ query_rows (λ x. rows (f x)) query
  query_rows-mapped query =
      ap (λ found. limited query.limit (ordered query.order found))
      (ap (λ found. united rows found (map (mapped_union f) query.unions)) (selected-mapped query.select)
      ∙ united-mapped (selected through query.select) query.unions)

-- ---- a query whose sources are replaced twice

module _ {X Y Z : Type 0} (f : X → Y) (g : Y → Z) where
  abbrev both : X → Z
  both x = g (f x)

  joins-twice : (joins : List (TypedJoin X)) → map (mapped_join g) (map (mapped_join f) joins) ≡ map (mapped_join both) joins
  joins-twice [] = refl
  joins-twice (join ∷ joins) = ap (λ rest. mapped_join both join ∷ rest) (joins-twice joins)

  abbrev from_with : TypedFrom X → List (TypedJoin Z) → TypedFrom Z
  from_with from joins = record { source = both from.source; width = from.width; joins = joins; laterals = from.laterals }

  sources-twice : (from : Option (TypedFrom X)) → mapped_sources g (mapped_sources f from) ≡ mapped_sources both from
  sources-twice None = refl
  sources-twice (Some from) = ap (λ joins. Some (from_with from joins)) (joins-twice from.joins)

  abbrev select_with : TypedSelect X → Option (TypedFrom Z) → TypedSelect Z
  select_with select from =
      record { distinct = select.distinct; items = select.items; from = from; filter = select.filter; groups = select.groups }

  abbrev union_with : TypedUnion X → TypedSelect Z → TypedUnion Z
  union_with next select = record { all = next.all; select = select }

  select-twice : (select : TypedSelect X) → mapped_select g (mapped_select f select) ≡ mapped_select both select
  select-twice select = ap (select_with select) (sources-twice select.from)

  unions-twice : (unions : List (TypedUnion X)) → map (mapped_union g) (map (mapped_union f) unions) ≡ map (mapped_union both) unions
  unions-twice [] = refl
  unions-twice (next ∷ unions) = λ i. union_with next (select-twice next.select i) ∷ unions-twice unions i

  abbrev query_with : TypedQuery X → TypedSelect Z → List (TypedUnion Z) → TypedQuery Z
  query_with query select unions =
      record { select = select; unions = unions; order = query.order; limit = query.limit; columns = query.columns }

  pub mapped-twice : (query : TypedQuery X) → mapped_query g (mapped_query f query) ≡ mapped_query (λ x. g (f x)) query
  mapped-twice query = λ i. query_with query (select-twice query.select i) (unions-twice query.unions i)
