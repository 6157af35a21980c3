-- Which conditions of a select the rows of each of its sources have to meet. A condition of WHERE is met by each row at
-- the end; an ON of an INNER or LEFT SEMI join by each row behind it. Behind a LEFT join each left row goes on, so its
-- ON says nothing of left rows, and what stands later says nothing of its right ones, which stand beside NULLs where
-- they are not matched. Nothing that stands behind a RIGHT or FULL join says anything of the rows before it.
-- Source: Hive Language Manual, Joins, and the page on outer join behavior (which predicates may be pushed).
use Rattle.std.specs.Prelude.{ℕ, ◌+◌, Bool, true, false, if◌then◌else◌, List, [], ◌∷◌, ◌++◌, flat_map, Option, None, Some}
use Rattle.hv_expr.specs.declared.tree.TypedExpr.{TypedExpr}
use Rattle.hv_typing.specs.declared.tree.JoinKind.{JoinKind}
use Rattle.hv_typing.specs.declared.tree.JoinKind.TheVariants as kind
use Rattle.hv_typing.specs.declared.tree.TypedJoin.{TypedJoin}
use Rattle.hv_typing.specs.declared.tree.TypedFrom.{TypedFrom}
use Rattle.hv_typing.specs.declared.tree.TypedSelect.{TypedSelect}
use Rattle.hv_typing.specs.declared.tree.TypedUnion.{TypedUnion}
use Rattle.hv_typing.specs.declared.tree.TypedQuery.{TypedQuery}
use Rattle.hv_typing.specs.Rows.{width_behind}
use Rattle.hv_rewrite.specs.Conditions.{conjuncts_of, only_within}

-- each row behind the join is one of its left rows, alone or with what is joined to it
abbrev pub passes : JoinKind → Bool
passes kind.Inner = true
passes kind.Left = true
passes kind.Right = false
passes kind.Full = false
passes kind.LeftSemi = true

-- the conjuncts of ON that each row behind the join meets
abbrev pub met_behind : JoinKind → List TypedExpr → List TypedExpr
met_behind kind.Inner on = on
met_behind kind.Left on = []
met_behind kind.Right on = []
met_behind kind.Full on = []
met_behind kind.LeftSemi on = on

-- of the conjuncts of ON and of what stands later: what a row of the join's own source has to meet
abbrev pub known_right : JoinKind → List TypedExpr → List TypedExpr → List TypedExpr
known_right kind.Inner on later = on ++ later
known_right kind.Left on later = on
known_right kind.Right on later = []
known_right kind.Full on later = []
known_right kind.LeftSemi on later = on

-- where a source stands among the values of a joined row, and the conditions that look at its values alone and that its
-- rows have to meet
pub record Spot : Type 0 where
  pub base : ℕ
  pub width : ℕ
  pub conditions : List TypedExpr

abbrev pub spot_at : ℕ → ℕ → List TypedExpr → Spot
spot_at first count known =
    record { base = first; width = count; conditions = only_within first (first + count) known }

pub record Placed (S : Type 0) : Type 0 where
  pub source : S
  pub spot : Spot

module _ {S : Type 0} where
  abbrev pub placed : S → Spot → Placed S
  placed one spot = record { source = one; spot = spot }

  -- what rows in front of these joins have to meet
  abbrev pub known : List (TypedJoin S) → Option TypedExpr → List TypedExpr
  known [] condition = conjuncts_of condition
  known (join ∷ joins) condition =
      if passes join.kind then met_behind join.kind (conjuncts_of join.on) ++ known joins condition else []

  -- the sources of joins behind rows of so many values
  abbrev pub joined_spots : ℕ → List (TypedJoin S) → Option TypedExpr → List (Placed S)
  joined_spots width [] condition = []
  joined_spots width (join ∷ joins) condition =
      placed join.source
      (spot_at width join.width (known_right join.kind (conjuncts_of join.on) (known joins condition)))
      ∷ joined_spots (width_behind join.kind width join.width) joins condition

  abbrev pub from_spots : Option (TypedFrom S) → Option TypedExpr → List (Placed S)
  from_spots None condition = []
  from_spots (Some from) condition =
      placed from.source (spot_at 0 from.width (known from.joins condition))
      ∷ joined_spots from.width from.joins condition

  abbrev pub select_spots : TypedSelect S → List (Placed S)
  select_spots select = from_spots select.from select.filter

  abbrev pub union_spots : TypedUnion S → List (Placed S)
  union_spots next = select_spots next.select

  -- all sources of the query, those of queries in FROM left out
  abbrev pub query_spots : TypedQuery S → List (Placed S)
  query_spots query = select_spots query.select ++ flat_map union_spots query.unions
