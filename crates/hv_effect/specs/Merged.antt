-- While a MERGE is worked out: each row of the target with the first source row that it matches, and what the walk over them finds.
use Rattle.std.specs.Prelude.{ℕ, Bool, if◌then◌else◌, List, [], ◌∷◌, drop, Option, None, Some}
use Rattle.std.specs.Borrow.{Bor}
use Rattle.hv_value.specs.declared.value.Value.{Value}
use Rattle.hv_value.specs.declared.row.Row.{Row}
use Rattle.hv_expr.specs.declared.tree.TypedExpr.{TypedExpr}
use Rattle.hv_logic.specs.declared.catalog.TableInfo.{TableInfo}
use Rattle.hv_logic.specs.declared.effect.Effect.{Effect}
use Rattle.hv_logic.specs.declared.effect.Found.{Found}
use Rattle.hv_logic.specs.declared.meaning.Meaning.{Meaning}
use Rattle.hv_logic.specs.declared.meaning.Meaning.TheVariants.{Twice}
use Rattle.hv_joins.specs.Lines.{match_at}
use Rattle.hv_typing.specs.declared.merge.MatchedAction.{MatchedAction}
use Rattle.hv_typing.specs.declared.merge.TypedMatched.{TypedMatched}
use Rattle.hv_typing.specs.declared.merge.TypedMerge.{TypedMerge}
use Rattle.hv_typing.specs.Rows.{Frame}
use Rattle.hv_meaning.specs.Meaning.{within_limits}
use Rattle.hv_meaning.specs.Merging.{Match, its_match, is_twice, acting_on, renewed_from, twice_found, merge_effect}
use Rattle.hv_effect.specs.declared.merging.TargetRow.{TargetRow}
use Rattle.hv_effect.specs.declared.merging.MergeOutcome.{MergeOutcome}
use Rattle.hv_effect.specs.declared.merging.MergeOutcome.TheVariants as outcome

abbrev pub match_of : Option (Bor (List Value)) → Bool → Match
match_of None again = None
match_of (Some source) again = Some (source.now, again)

abbrev pub match_in : TargetRow → Match
match_in beside = match_of beside.source beside.again

abbrev pub pair_seen : TargetRow → Found × Match
pair_seen beside = (beside.found.now, match_in beside)

abbrev pub paired : Option TypedExpr → List Frame → Found → Found × Match
paired on sources found = (found, its_match on sources found)

-- rows with their matches by number, in order; where no number is left there is no match
abbrev pub first_number : List (Option (ℕ × Bool)) → Option (ℕ × Bool)
first_number [] = None
first_number (number ∷ numbers) = number

abbrev pub numbered : List Frame → List Found → List (Option (ℕ × Bool)) → List (Found × Match)
numbered sources [] numbers = []
numbered sources (found ∷ rows) numbers = (found, match_at sources (first_number numbers)) ∷ numbered sources rows (drop 1 numbers)

-- the first that matches two
abbrev pub twice_in : List TargetRow → Option Found
twice_in [] = None
twice_in (beside ∷ besides) = if is_twice (match_in beside) then Some beside.found.now else twice_in besides

-- the row, where a clause acts on it
abbrev pub kept_if : Found → Option MatchedAction → List Found
kept_if found None = []
kept_if found (Some action) = found ∷ []

abbrev pub going : List TypedMatched → TargetRow → List Found
going clauses beside = kept_if beside.found.now (acting_on clauses beside.found.now (match_in beside))

-- and what takes its place
abbrev pub coming : (List TypedExpr → Frame → Row) → List TypedMatched → TargetRow → List Row
coming stored clauses beside = renewed_from stored clauses beside.found.now (match_in beside)

abbrev pub merged_by : Option Found → Effect → MergeOutcome
merged_by None effect = outcome.Change effect
merged_by (Some found) effect = outcome.Twice found.partition found.id

-- a change has its limits
abbrev pub outcome_meant : TableInfo → MergeOutcome → Meaning
outcome_meant info (outcome.Twice partition id) = Twice partition id
outcome_meant info (outcome.Change effect) = within_limits info effect

abbrev pub merged_of : (List TypedExpr → Frame → Row) → TypedMerge → List Frame → List Found → MergeOutcome
merged_of stored merge sources rows = merged_by (twice_found merge sources rows) (merge_effect stored merge sources rows)
