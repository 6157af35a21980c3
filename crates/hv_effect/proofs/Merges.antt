-- What the walk over the rows of a MERGE's target finds is what the MERGE comes to.
use Rattle.std.proofs.Common.{◌≡◌, ℕ, Bool, true, false, cond, is_some, List, [], ◌∷◌, ◌++◌, map, filter, Option, Some, None, refl, sym, ap, ◌∙◌}
use Rattle.std.specs.List.{flat_map}
use Rattle.hv_value.specs.declared.row.Row.{Row}
use Rattle.hv_expr.specs.declared.tree.TypedExpr.{TypedExpr}
use Rattle.hv_logic.specs.declared.effect.Effect.{Effect}
use Rattle.hv_logic.specs.declared.effect.Found.{Found}
use Rattle.hv_joins.specs.Lines.{match_at}
use Rattle.hv_joins.specs.Turns.{on_both}
use Rattle.hv_typing.specs.declared.merge.MatchedAction.{MatchedAction}
use Rattle.hv_typing.specs.declared.merge.TypedMatched.{TypedMatched}
use Rattle.hv_typing.specs.declared.merge.TypedMerge.{TypedMerge}
use Rattle.hv_typing.specs.declared.merge.TypedNewcomers.{TypedNewcomers}
use Rattle.hv_typing.specs.Joins.{first_matches, alone}
use Rattle.hv_typing.specs.Rows.{Frame, is_met}
use Rattle.hv_meaning.specs.Merging.{Match, target_frame, matched_by, its_match, is_twice, first_twice, twice_by, acting, acting_on, is_taken, renewed_by, renewed_from, renewed, new_rows, merge_effect}
use Rattle.hv_effect.specs.declared.merging.TargetRow.{TargetRow}
use Rattle.hv_effect.specs.declared.merging.MergeOutcome.TheVariants as outcome
use Rattle.hv_logic.specs.declared.catalog.TableInfo.{TableInfo}
use Rattle.hv_meaning.specs.Meaning.{twice_or}
use Rattle.hv_effect.specs.Merged.{outcome_meant, pair_seen, paired, numbered, twice_in, kept_if, going, coming, merged_by, merged_of}

-- ---- matches by number

firsts : (on : Option TypedExpr) (sources : List Frame) (rows : List Found)
    → first_matches (on_both on) (map target_frame rows) sources ≡ map (its_match on sources) rows
firsts on sources [] = refl
firsts on sources (found ∷ rows) = ap (λ l. its_match on sources found ∷ l) (firsts on sources rows)

beside-numbers : (on : Option TypedExpr) (sources : List Frame) (rows : List Found) (numbers : List (Option (ℕ × Bool)))
    → map (match_at sources) numbers ≡ map (its_match on sources) rows → numbered sources rows numbers ≡ map (paired on sources) rows
beside-numbers on sources [] numbers e = refl
beside-numbers on sources (found ∷ rows) [] e = cc
beside-numbers on sources (found ∷ rows) (number ∷ numbers) e =
    let first : match_at sources number ≡ its_match on sources found = cc in
    let rest : map (match_at sources) numbers ≡ map (its_match on sources) rows = cc in
    λ i. (found, first i) ∷ beside-numbers on sources rows numbers rest i

pub rows-paired : (on : Option TypedExpr) (sources lines : List Frame) (rows : List Found) (numbers : List (Option (ℕ × Bool)))
    → lines ≡ map target_frame rows → map (match_at sources) numbers ≡ first_matches (on_both on) lines sources
    → numbered sources rows numbers ≡ map (paired on sources) rows
rows-paired on sources lines rows numbers stand e =
    beside-numbers on sources rows numbers (e ∙ ap (λ ls. first_matches (on_both on) ls sources) stand ∙ firsts on sources rows)

-- ---- a clause more

pub new-more : (stored : List TypedExpr → Frame → Row) (newcomers : TypedNewcomers) (frames : List Frame) (frame : Frame)
    → new_rows stored (Some newcomers) (frames ++ frame ∷ []) ≡ new_rows stored (Some newcomers) frames ++ new_rows stored (Some newcomers) (frame ∷ [])
new-more stored newcomers [] frame = refl
new-more stored newcomers (first ∷ frames) frame = by (is_met newcomers.condition first) (new-more stored newcomers frames frame)
  where
    by : (b : Bool)
        → new_rows stored (Some newcomers) (frames ++ frame ∷ []) ≡ new_rows stored (Some newcomers) frames ++ new_rows stored (Some newcomers) (frame ∷ [])
        → map (stored newcomers.values) (cond b (first ∷ filter (is_met newcomers.condition) (frames ++ frame ∷ [])) (filter (is_met newcomers.condition) (frames ++ frame ∷ [])))
        ≡ map (stored newcomers.values) (cond b (first ∷ filter (is_met newcomers.condition) frames) (filter (is_met newcomers.condition) frames))
        ++ new_rows stored (Some newcomers) (frame ∷ [])
    by true h = ap (λ l. stored newcomers.values first ∷ l) h
    by false h = h

put : {A : Type 0} (b : Bool) (x : A) (xs : List A) → cond b (x ∷ xs) xs ≡ cond b (x ∷ []) [] ++ xs
put true x xs = refl
put false x xs = refl

if-some : (found : Found) (action : Option MatchedAction) → kept_if found action ≡ cond (is_some action) (found ∷ []) []
if-some found None = refl
if-some found (Some action) = refl

module _ (stored : List TypedExpr → Frame → Row) (merge : TypedMerge) (sources : List Frame) where
  abbrev clauses : List TypedMatched
  clauses = merge.clauses.matched

  -- ---- without a clause for matched rows

  none-acts : (found : Found) (match : Match) → clauses ≡ [] → acting_on clauses found match ≡ None
  unfolding acting
  none-acts found None e = refl
  none-acts found (Some pair) e = ap (λ (cs : List TypedMatched). acting cs (target_frame found ++ pair.0)) e

  none-renewed : (found : Found) (match : Match) → clauses ≡ [] → renewed_from stored clauses found match ≡ []
  unfolding acting
  none-renewed found None e = refl
  none-renewed found (Some pair) e =
      ap (λ (cs : List TypedMatched). renewed_by stored (target_frame found ++ pair.0) (acting cs (target_frame found ++ pair.0))) e

  none-taken : (rows : List Found) → clauses ≡ [] → filter (is_taken merge sources) rows ≡ []
  none-taken [] e = refl
  none-taken (found ∷ rows) e =
      ap (λ (action : Option MatchedAction). cond (is_some action) (found ∷ filter (is_taken merge sources) rows) (filter (is_taken merge sources) rows))
      (none-acts found (its_match merge.on sources found) e)
      ∙ none-taken rows e

  none-come : (rows : List Found) → clauses ≡ [] → flat_map (renewed stored merge sources) rows ≡ []
  none-come [] e = refl
  none-come (found ∷ rows) e = λ i. none-renewed found (its_match merge.on sources found) e i ++ none-come rows e i

  pub only-new : (lines : List Frame) (rows : List Found) (inserts : List Row) → lines ≡ map target_frame rows → clauses ≡ []
      → inserts ≡ [] ++ new_rows stored merge.clauses.newcomers (alone (matched_by merge.on) sources lines)
      → outcome.Change (record { inserts = inserts; deletes = [] }) ≡ merged_of stored merge sources rows
  only-new lines rows inserts stand none made =
      (λ i. outcome.Change (record {
        inserts = (made ∙ (λ j. sym (none-come rows none) j ++ new_rows stored merge.clauses.newcomers (alone (matched_by merge.on) sources (stand j)))) i;
        deletes = sym (none-taken rows none) i;
      }))
      ∙ ap (λ (cs : List TypedMatched). merged_by (twice_by merge.on cs sources rows) (merge_effect stored merge sources rows)) (sym none)

  -- ---- with one

  twice-same : (cs : List TypedMatched) (rows : List Found) → (cs ≡ [] → ⊥) → twice_by merge.on cs sources rows ≡ first_twice merge.on sources rows
  twice-same [] rows some = absurd (some refl)
  twice-same (clause ∷ cs) rows some = refl

  abbrev Paired : List TargetRow → List Found → Type 0
  Paired besides rows = map pair_seen besides ≡ map (paired merge.on sources) rows

  twice-is : (besides : List TargetRow) (rows : List Found) → Paired besides rows → twice_in besides ≡ first_twice merge.on sources rows
  unfolding first_twice
  twice-is [] [] e = refl
  twice-is [] (found ∷ rows) e = cc
  twice-is (beside ∷ besides) [] e = cc
  twice-is (beside ∷ besides) (found ∷ rows) e =
      let first : pair_seen beside ≡ paired merge.on sources found = cc in
      let rest : Paired besides rows = cc in
      λ i. cond (is_twice (first i).1) (Some (first i).0) (twice-is besides rows rest i)

  gone-are : (besides : List TargetRow) (rows : List Found) → Paired besides rows → flat_map (going clauses) besides ≡ filter (is_taken merge sources) rows
  gone-are [] [] e = refl
  gone-are [] (found ∷ rows) e = cc
  gone-are (beside ∷ besides) [] e = cc
  gone-are (beside ∷ besides) (found ∷ rows) e =
      let first : pair_seen beside ≡ paired merge.on sources found = cc in
      let rest : Paired besides rows = cc in
      (λ i. kept_if (first i).0 (acting_on clauses (first i).0 (first i).1) ++ gone-are besides rows rest i)
      ∙ ap (λ (l : List Found). l ++ filter (is_taken merge sources) rows) (if-some found (acting_on clauses found (its_match merge.on sources found)))
      ∙ sym (put (is_taken merge sources found) found (filter (is_taken merge sources) rows))

  new-are : (besides : List TargetRow) (rows : List Found) → Paired besides rows
      → flat_map (coming stored clauses) besides ≡ flat_map (renewed stored merge sources) rows
  new-are [] [] e = refl
  new-are [] (found ∷ rows) e = cc
  new-are (beside ∷ besides) [] e = cc
  new-are (beside ∷ besides) (found ∷ rows) e =
      let first : pair_seen beside ≡ paired merge.on sources found = cc in
      let rest : Paired besides rows = cc in
      λ i. renewed_from stored clauses (first i).0 (first i).1 ++ new-are besides rows rest i

  pub is-change : (lines : List Frame) (besides : List TargetRow) (rows : List Found) (inserts renewals : List Row) (deletes : List Found)
      → lines ≡ map target_frame rows → Paired besides rows → renewals ≡ flat_map (coming stored clauses) besides
      → inserts ≡ renewals ++ new_rows stored merge.clauses.newcomers (alone (matched_by merge.on) sources lines)
      → deletes ≡ flat_map (going clauses) besides
      → record { inserts = inserts; deletes = deletes } ≡ merge_effect stored merge sources rows
  is-change lines besides rows inserts renewals deletes stand pairs renews made goes =
      λ i. record {
        inserts = (made ∙ (λ j. (renews ∙ new-are besides rows pairs) j ++ new_rows stored merge.clauses.newcomers (alone (matched_by merge.on) sources (stand j)))) i;
        deletes = (goes ∙ gone-are besides rows pairs) i;
      }

  pub outcome-is : (besides : List TargetRow) (rows : List Found) (found : Option Found) (effect : Effect) → (clauses ≡ [] → ⊥) → Paired besides rows
      → found ≡ twice_in besides → effect ≡ merge_effect stored merge sources rows → merged_by found effect ≡ merged_of stored merge sources rows
  outcome-is besides rows found effect some pairs finds whole =
      λ i. merged_by ((finds ∙ twice-is besides rows pairs ∙ sym (twice-same clauses rows some)) i) (whole i)

-- ---- what the outcome means

pub outcome-is-meant : (info : TableInfo) (found : Option Found) (effect : Effect) → outcome_meant info (merged_by found effect) ≡ twice_or info found effect
outcome-is-meant info None effect = refl
outcome-is-meant info (Some found) effect = refl
