-- What is proved of the row that a MERGE is refused for.
use Rattle.std.specs.Prelude.{◌≡◌, ◌≤◌, Option, Some, None, List, ◌∷◌, ◌++◌, length, filter}
use Rattle.std.specs.List.{AllByRecursion}
use Rattle.hv_typing.specs.hv_expr.specs.declared.tree.TypedExpr.{TypedExpr}
use Rattle.hv_typing.specs.hv_logic.specs.declared.effect.Found.{Found}
use Rattle.hv_typing.specs.Rows.{Frame}
use Rattle.hv_meaning.specs.Merging.{target_frame, matches_on, first_twice}

-- the source rows that match a row of the target
abbrev pub matches_of : Option TypedExpr → List Frame → Found → List Frame
matches_of on sources found = filter (matches_on on (target_frame found)) sources

abbrev pub MatchesOnce : Option TypedExpr → List Frame → Found → Type 0
MatchesOnce on sources found = length (matches_of on sources found) ≤ 1

-- two source rows match it, and at most one matches each row before it
pub record IsFirstTwice (on : Option TypedExpr) (sources : List Frame) (rows : List Found) (found : Found) : Type 0 where
  pub before : List Found
  pub behind : List Found
  pub stands : rows ≡ before ++ found ∷ behind
  pub twice : 2 ≤ length (matches_of on sources found)
  pub first : AllByRecursion (MatchesOnce on sources) before

abbrev pub FirstIsNamed : Type 0
FirstIsNamed =
    (on : Option TypedExpr) (sources : List Frame) (rows : List Found) (found : Found) → first_twice on sources rows ≡ Some found
    → IsFirstTwice on sources rows found

abbrev pub NoneMatchTwice : Type 0
NoneMatchTwice =
    (on : Option TypedExpr) (sources : List Frame) (rows : List Found) → first_twice on sources rows ≡ None
    → AllByRecursion (MatchesOnce on sources) rows
