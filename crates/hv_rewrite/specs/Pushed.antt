-- The query whose conditions of WHERE stand as early as they may: in the ON of the first INNER join behind which all
-- that they look at stands, where only INNER, LEFT and LEFT SEMI joins come behind that one. So none goes past the
-- right side of a LEFT join, whose NULLs it would miss, nor past a RIGHT or FULL join.
-- Source: Hive Language Manual, the page on outer join behavior (which predicates may be pushed).
use Rattle.std.specs.Prelude.{ℕ, zero, suc, ◌≡◌, Bool, true, false, ◌&&◌, if◌then◌else◌, List, [], ◌∷◌, ◌++◌, map, IsTrue, Option, None, Some, option_map}
use Rattle.std.specs.List.{list_all}
use Rattle.hv_expr.specs.declared.tree.TypedExpr.{TypedExpr}
use Rattle.hv_law_expr.specs.Places.{looks_only}
use Rattle.hv_typing.specs.declared.tree.JoinKind.{JoinKind}
use Rattle.hv_typing.specs.declared.tree.JoinKind.TheVariants as kind
use Rattle.hv_typing.specs.declared.tree.TypedJoin.{TypedJoin}
use Rattle.hv_typing.specs.declared.tree.TypedFrom.{TypedFrom}
use Rattle.hv_typing.specs.declared.tree.TypedSelect.{TypedSelect}
use Rattle.hv_typing.specs.declared.tree.TypedUnion.{TypedUnion}
use Rattle.hv_typing.specs.declared.tree.TypedQuery.{TypedQuery}
use Rattle.hv_typing.specs.declared.tree.TypedSource.{TypedSource}
use Rattle.hv_typing.specs.declared.tree.TypedSource.TheOpen.{TypedSource-F}
use Rattle.hv_typing.specs.declared.tree.TypedSource.TheFolds.{fold-TypedSource}
use Rattle.hv_typing.specs.declared.tree.TypedSource.TheVariants as source
use Rattle.hv_typing.specs.Rows.{Tables, width_behind, rows_of}
use Rattle.hv_law_query.specs.Mapped.{mapped_query}
use Rattle.hv_rewrite.specs.Conditions.{conjuncts_of, anded, within}
use Rattle.hv_rewrite.specs.Reach.{passes}
use Rattle.hv_rewrite.specs.Wide.{is_wide}

abbrev pub is_inner : JoinKind → Bool
is_inner kind.Inner = true
is_inner _ = false

-- the conditions with this one before them, where no join takes it
abbrev pub stays : Option ℕ → TypedExpr → List TypedExpr → List TypedExpr
stays None condition conditions = condition ∷ conditions
stays (Some place) condition conditions = conditions

module _ {S : Type 0} where
  abbrev pub join_passes : TypedJoin S → Bool
  join_passes join = passes join.kind

  abbrev pub all_pass : List (TypedJoin S) → Bool
  all_pass joins = list_all join_passes joins

  -- ---- one condition

  -- whether the join, behind which a row has so many values and which these joins follow, takes the condition
  abbrev pub takes : ℕ → TypedExpr → JoinKind → List (TypedJoin S) → Bool
  takes behind condition which later = is_inner which && (all_pass later && looks_only (within 0 behind) condition)

  abbrev pub with_condition : TypedExpr → TypedJoin S → TypedJoin S
  with_condition condition join = record {
    kind = join.kind;
    source = join.source;
    width = join.width;
    on = anded (conjuncts_of join.on ++ condition ∷ []);
  }

  -- the place of the first join that takes it, behind rows of so many values
  abbrev pub landing : ℕ → TypedExpr → List (TypedJoin S) → Option ℕ
  landing width condition [] = None
  landing width condition (join ∷ joins) =
      if takes (width_behind join.kind width join.width) condition join.kind joins
      then Some 0
      else option_map suc (landing (width_behind join.kind width join.width) condition joins)

  -- the join at that place with the condition in its ON
  abbrev pub added_at : ℕ → TypedExpr → List (TypedJoin S) → List (TypedJoin S)
  added_at place condition [] = []
  added_at zero condition (join ∷ joins) = with_condition condition join ∷ joins
  added_at (suc place) condition (join ∷ joins) = join ∷ added_at place condition joins

  abbrev pub joins_with : Option ℕ → TypedExpr → List (TypedJoin S) → List (TypedJoin S)
  joins_with None condition joins = joins
  joins_with (Some place) condition joins = added_at place condition joins

  -- ---- all of them, from the left

  abbrev pub spread : ℕ → List (TypedJoin S) → List TypedExpr → List (TypedJoin S)
  spread width joins [] = joins
  spread width joins (condition ∷ conditions) =
      spread width (joins_with (landing width condition joins) condition joins) conditions

  abbrev pub left_over : ℕ → List (TypedJoin S) → List TypedExpr → List TypedExpr
  left_over width joins [] = []
  left_over width joins (condition ∷ conditions) =
      stays (landing width condition joins) condition
      (left_over width (joins_with (landing width condition joins) condition joins) conditions)

  abbrev pub moved_from : List TypedExpr → TypedFrom S → TypedFrom S
  moved_from conditions from = record {
    source = from.source;
    width = from.width;
    joins = spread from.width from.joins conditions;
    laterals = from.laterals;
  }

  abbrev pub moved_over : Option (TypedFrom S) → TypedSelect S → TypedSelect S
  moved_over None select = select
  moved_over (Some from) select = record {
    distinct = select.distinct;
    items = select.items;
    from = Some (moved_from (conjuncts_of select.filter) from);
    filter = anded (left_over from.width from.joins (conjuncts_of select.filter));
    groups = select.groups;
  }

  abbrev pub moved_select : TypedSelect S → TypedSelect S
  moved_select select = moved_over select.from select

  abbrev pub moved_union : TypedUnion S → TypedUnion S
  moved_union next = record { all = next.all; select = moved_select next.select }

  -- the query with the conditions of its selects moved, not of those in its queries in FROM
  abbrev pub moved_query : TypedQuery S → TypedQuery S
  moved_query query = record {
    select = moved_select query.select;
    unions = map moved_union query.unions;
    order = query.order;
    limit = query.limit;
    columns = query.columns;
  }

-- ---- queries in FROM too

abbrev pub layer_pushed : TypedSource-F TypedSource → TypedSource
layer_pushed (TypedSource-F.Table place) = source.Table place
layer_pushed (TypedSource-F.Query query) = source.Query (moved_query query)

unfoldable pub pushed_source : TypedSource → TypedSource
pushed_source = fold-TypedSource TypedSource layer_pushed

unfoldable pub pushed : TypedQuery TypedSource → TypedQuery TypedSource
pushed query = moved_query (mapped_query pushed_source query)

-- where rows are as wide as analysis says, the query has the same rows
abbrev pub PushedKeepsRows : TypedQuery TypedSource → TypedQuery TypedSource → Type 0
PushedKeepsRows query made =
    (tables : Tables) → IsTrue (is_wide query tables) → rows_of made tables ≡ rows_of query tables
