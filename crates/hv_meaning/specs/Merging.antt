-- What a MERGE comes to. A source row matches a row of the target where ON is true of both. A matched row of the target goes by the
-- first WHEN MATCHED clause whose AND is true of it and of the source row that it matches; a source row that matches none is inserted
-- where the AND of WHEN NOT MATCHED is true of it. Where a WHEN MATCHED clause stands, no row of the target may match two.
-- Source: Hive Language Manual, DML (Merge; SQL standard: the cardinality check of `hive.merge.cardinality.check`).
use Rattle.std.specs.Prelude.{Bool, false, if◌then◌else◌, is_some, List, [], ◌∷◌, ◌++◌, map, filter, Option, Some, None}
use Rattle.std.specs.List.{flat_map}
use Rattle.hv_value.specs.declared.row.Row.{Row}
use Rattle.hv_typing.specs.hv_expr.specs.declared.tree.TypedExpr.{TypedExpr}
use Rattle.hv_typing.specs.hv_logic.specs.declared.effect.Effect.{Effect}
use Rattle.hv_typing.specs.hv_logic.specs.declared.effect.Found.{Found}
use Rattle.hv_typing.specs.declared.merge.MatchedAction.{MatchedAction}
use Rattle.hv_typing.specs.declared.merge.MatchedAction.TheVariants as action
use Rattle.hv_typing.specs.declared.merge.TypedMatched.{TypedMatched}
use Rattle.hv_typing.specs.declared.merge.TypedNewcomers.{TypedNewcomers}
use Rattle.hv_typing.specs.declared.merge.TypedMerge.{TypedMerge}
use Rattle.hv_typing.specs.Joins.{first_two, alone}
use Rattle.hv_typing.specs.Rows.{Frame, is_met}

-- the values of both rows, the target's first
abbrev pub matches_on : Option TypedExpr → Frame → Frame → Bool
matches_on on target source = is_met on (target ++ source)

-- the condition turned round
abbrev pub matched_by : Option TypedExpr → Frame → Frame → Bool
matched_by on source target = is_met on (target ++ source)

abbrev pub target_frame : Found → Frame
target_frame found = found.row.values

-- ---- the first source row that a row of the target matches, and whether there is a second

abbrev pub Match : Type 0
Match = Option (Frame × Bool)

abbrev pub its_match : Option TypedExpr → List Frame → Found → Match
its_match on sources found = first_two (filter (matches_on on (target_frame found)) sources)

abbrev pub is_twice : Match → Bool
is_twice None = false
is_twice (Some pair) = pair.1

-- the first of these rows that matches two; rows stand by partition and identifier, so it is the least
unfoldable pub first_twice : Option TypedExpr → List Frame → List Found → Option Found
first_twice on sources [] = None
first_twice on sources (found ∷ rows) = if is_twice (its_match on sources found) then Some found else first_twice on sources rows

abbrev pub twice_by : Option TypedExpr → List TypedMatched → List Frame → List Found → Option Found
twice_by on [] sources rows = None
twice_by on (clause ∷ clauses) sources rows = first_twice on sources rows

abbrev pub twice_found : TypedMerge → List Frame → List Found → Option Found
twice_found merge sources rows = twice_by merge.on merge.clauses.matched sources rows

-- ---- what becomes of it: the first clause whose AND is true acts

unfoldable pub acting : List TypedMatched → Frame → Option MatchedAction
acting [] frame = None
acting (clause ∷ clauses) frame = if is_met clause.condition frame then Some clause.action else acting clauses frame

abbrev pub acting_on : List TypedMatched → Found → Match → Option MatchedAction
acting_on clauses found None = None
acting_on clauses found (Some pair) = acting clauses (target_frame found ++ pair.0)

abbrev pub is_taken : TypedMerge → List Frame → Found → Bool
is_taken merge sources found = is_some (acting_on merge.clauses.matched found (its_match merge.on sources found))

-- ---- the source rows that match none

abbrev pub unmatched : Option TypedExpr → List Frame → List Found → List Frame
unmatched on sources rows = alone (matched_by on) sources (map target_frame rows)

-- ---- the change, of a table whose new rows are made so of values and a row

module _ (stored : List TypedExpr → Frame → Row) where
  abbrev pub renewed_by : Frame → Option MatchedAction → List Row
  renewed_by frame None = []
  renewed_by frame (Some (action.Update values)) = stored values frame ∷ []
  renewed_by frame (Some action.Delete) = []

  abbrev pub renewed_from : List TypedMatched → Found → Match → List Row
  renewed_from clauses found None = []
  renewed_from clauses found (Some pair) = renewed_by (target_frame found ++ pair.0) (acting clauses (target_frame found ++ pair.0))

  abbrev pub renewed : TypedMerge → List Frame → Found → List Row
  renewed merge sources found = renewed_from merge.clauses.matched found (its_match merge.on sources found)

  abbrev pub new_rows : Option TypedNewcomers → List Frame → List Row
  new_rows None frames = []
  new_rows (Some newcomers) frames = map (stored newcomers.values) (filter (is_met newcomers.condition) frames)

  abbrev pub merge_effect : TypedMerge → List Frame → List Found → Effect
  merge_effect merge sources rows = record {
    inserts = flat_map (renewed merge sources) rows ++ new_rows merge.clauses.newcomers (unmatched merge.on sources rows);
    deletes = filter (is_taken merge sources) rows;
  }
