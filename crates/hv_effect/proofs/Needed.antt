-- A statement comes to the same without the rows of partitions that it doesn't need.
use Rattle.std.proofs.Common.{if◌then◌else◌, ◌≡◌, ℕ, zero, suc, Bool, true, false, ◌||◌, List, [], ◌∷◌, length, map, filter, slice_get, Option, None, Some, option_map, Result, Ok, Err, refl, sym, ap, ◌∙◌, subst, eq-eqb}
use Rattle.std.specs.List.{AllByRecursion}
use Rattle.hv_base.specs.declared.refusal.Refusal.{Refusal}
use Rattle.hv_ast.specs.declared.statement.Stmt.{Stmt}
use Rattle.hv_value.specs.declared.value.Value.{Value}
use Rattle.hv_value.specs.declared.row.Row.{Row}
use Rattle.hv_expr.specs.declared.tree.TypedExpr.{TypedExpr}
use Rattle.hv_logic.specs.declared.catalog.TableInfo.{TableInfo}
use Rattle.hv_logic.specs.declared.effect.Found.{Found}
use Rattle.hv_route.specs.Partitions.{partition_values}
use Rattle.hv_typing.specs.declared.change.Deletes.{Deletes}
use Rattle.hv_typing.specs.declared.change.Deletes.TheVariants as deletes
use Rattle.hv_typing.specs.declared.change.Origin.{Origin}
use Rattle.hv_typing.specs.declared.change.Origin.TheVariants as origin
use Rattle.hv_typing.specs.declared.change.TypedChange.{TypedChange}
use Rattle.hv_typing.specs.declared.logic.Logic.{Logic}
use Rattle.hv_typing.specs.declared.logic.Logic.TheVariants as logic
use Rattle.hv_typing.specs.Analysis.{analysed}
use Rattle.hv_typing.specs.Columns.{columns_of}
use Rattle.hv_meaning.specs.Meaning.{tables_of, column_name, is_matched, matched, frame_of, frames_from, stored_row, inserts_of, is_received, deleted, change_effect, within_limits, or_none, changed_in, merged_in, meant}
use Rattle.hv_logic.specs.declared.meaning.Meaning.TheVariants.{Listing}
use Rattle.hv_meaning.specs.Needs.{Needs, later, rows_wanted, all_wanted, IsSaid, AreSaid, KeepMeaning}
use Rattle.hv_rewrite.proofs.Lists.{each-every, each-more, front-any, filter-all, filter-weaker}
use Rattle.hv_rewrite.proofs.Pruning.{matching-rows-are-kept}
use Rattle.hv_effect.specs.Needs.{width_of, widths_of, parts_at, condition_needs, query_needs, deletes_need, deletes_need_of, origin_needs, own_needs, change_needs, logic_needs, needs_of}
use Rattle.hv_effect.proofs.Wanted.{parts_count, each-of, said-parts, Kept, by_parts, all-stay, query-rows}

back-any : (a b : Bool) → b ≡ true → (a || b) ≡ true
back-any true b h = refl
back-any false b h = h

-- ---- the table at a place

wanted-at : (needs : Needs) (found : List (List Found)) (place : ℕ)
    → slice_get (all_wanted needs found) place ≡ option_map (rows_wanted (needs place)) (slice_get found place)
wanted-at needs [] place = refl
wanted-at needs (rows ∷ found) zero = refl
wanted-at needs (rows ∷ found) (suc place) = wanted-at (later needs) found place

or-none-wanted : (wants : List ℕ → Bool) (rows : Option (List Found)) → or_none (option_map (rows_wanted wants) rows) ≡ rows_wanted wants (or_none rows)
or-none-wanted wants None = refl
or-none-wanted wants (Some rows) = refl

said-at : (infos : List TableInfo) (found : List (List Found)) → AreSaid infos found → (place : ℕ) (info : TableInfo) → slice_get infos place ≡ Some info
    → AllByRecursion (IsSaid info) (or_none (slice_get found place))
said-at [] [] said place info is = tt
said-at [] (rows ∷ found) said place info is = absurd said
said-at (first ∷ infos) [] said place info is = absurd said
said-at (first ∷ infos) (rows ∷ found) said zero info is =
    let same : first ≡ info = cc in
    subst (λ (one : TableInfo). AllByRecursion (IsSaid one) rows) same said.0
said-at (first ∷ infos) (rows ∷ found) said (suc place) info is = said-at infos found said.1 place info is

-- ---- a change of the table of this description

module _ (infos : List TableInfo) (change : TypedChange) (info : TableInfo) (is : slice_get infos change.table ≡ Some info) where
  abbrev kept : Kept
  kept place values = change_needs infos place values change

  abbrev wants : List ℕ → Bool
  wants = by_parts kept infos change.table

  -- what is needed for the rows that it deletes
  own-is : (text : List ℕ) → own_needs infos change.table (partition_values (parts_at (slice_get infos change.table)) text) change
      ≡ deletes_need info (partition_values info.shape.parts text) change.deletes
  own-is text =
      ap (λ b. if b then deletes_need_of (slice_get infos change.table) (partition_values (parts_at (slice_get infos change.table)) text) change.deletes else false)
      (eq-eqb change.table change.table refl)
      ∙ ap (λ (o : Option TableInfo). deletes_need_of o (partition_values (parts_at o) text) change.deletes) is

  wanted-own : (text : List ℕ) → deletes_need info (partition_values info.shape.parts text) change.deletes ≡ true → wants text ≡ true
  wanted-own text h =
      let values : List Value = partition_values (parts_at (slice_get infos change.table)) text in
      front-any (own_needs infos change.table values change) (origin_needs (widths_of infos) change.table values change.origin) (own-is text ∙ h)

  module _ (rows : List Found) (said : AllByRecursion (IsSaid info) rows) where
    abbrev few : List Found
    few = rows_wanted wants rows

    met-wanted : (condition : Option TypedExpr) → change.deletes ≡ deletes.Matching condition → (found : Found) → IsSaid info found
        → is_matched condition found ≡ true → wants found.partition ≡ true
    met-wanted condition by found one met =
        wanted-own found.partition
        (ap (deletes_need info (partition_values info.shape.parts found.partition)) by
        ∙ ap (condition_needs (width_of info) condition) (sym (said-parts info found one))
        ∙ matching-rows-are-kept condition (width_of info) (parts_count info) found.row.values one.wide met)

    same-matched : (gone : Deletes) → change.deletes ≡ gone → matched gone few ≡ matched gone rows
    same-matched deletes.Nothing by = refl
    same-matched (deletes.Matching condition) by =
        filter-weaker (λ (found : Found). wants found.partition) (is_matched condition) rows
        (each-more (IsSaid info) (λ (found : Found). is_matched condition found ≡ true → wants found.partition ≡ true)
        (met-wanted condition by) rows (each-of (IsSaid info) rows said))
    same-matched deletes.Received by = refl

    same-deleted : (width : ℕ) (made : List Row) (gone : Deletes) → change.deletes ≡ gone → deleted width gone made few ≡ deleted width gone made rows
    same-deleted width made deletes.Nothing by = refl
    same-deleted width made (deletes.Matching condition) by = same-matched (deletes.Matching condition) by
    same-deleted width made deletes.Received by =
        ap (filter (is_received width made))
        (filter-all (λ (found : Found). wants found.partition) rows
        (each-every (λ (found : Found). wants found.partition ≡ true)
        (λ found. wanted-own found.partition (ap (deletes_need info (partition_values info.shape.parts found.partition)) by)) rows))

    module _ (found : List (List Found)) (all_said : AreSaid infos found) where
      abbrev narrow : List (List Found)
      narrow = all_wanted (by_parts kept infos) found

      same-frames : (from : Origin) → change.origin ≡ from → (gone : List Found)
          → frames_from from gone (tables_of narrow) ≡ frames_from from gone (tables_of found)
      same-frames (origin.Values values) by gone = refl
      same-frames (origin.Query query) by gone =
          ap (map frame_of)
          (query-rows query infos kept
          (λ place values h.
          back-any (own_needs infos place values change) (origin_needs (widths_of infos) place values change.origin)
          (ap (origin_needs (widths_of infos) place values) by ∙ h)) found all_said)
      same-frames origin.Deleted by gone = refl

      same-inserts : inserts_of info.shape change (matched change.deletes few) (tables_of narrow)
          ≡ inserts_of info.shape change (matched change.deletes rows) (tables_of found)
      same-inserts =
          ap (λ (gone : List Found). inserts_of info.shape change gone (tables_of narrow)) (same-matched change.deletes refl)
          ∙ ap (map (stored_row (columns_of info.shape) change.values)) (same-frames change.origin refl (matched change.deletes rows))

      same-effect : change_effect info.shape change few (tables_of narrow) ≡ change_effect info.shape change rows (tables_of found)
      same-effect = λ i. record {
        inserts = same-inserts i;
        deletes = (ap (λ (made : List Row). deleted (length info.shape.columns) change.deletes made few) same-inserts
            ∙ same-deleted (length info.shape.columns) (inserts_of info.shape change (matched change.deletes rows) (tables_of found)) change.deletes refl) i;
      }

-- ---- what a typed statement comes to

module _ (infos : List TableInfo) (found : List (List Found)) (said : AreSaid infos found) where
  change-same : (change : TypedChange) (info : Option TableInfo) → slice_get infos change.table ≡ info
      → changed_in info (slice_get (all_wanted (by_parts (λ place values. change_needs infos place values change) infos) found) change.table)
      (tables_of (all_wanted (by_parts (λ place values. change_needs infos place values change) infos) found)) change
      ≡ changed_in info (slice_get found change.table) (tables_of found) change
  change-same change None is = refl
  change-same change (Some info) is =
      let needs : Needs = by_parts (λ place values. change_needs infos place values change) infos in
      let rows : List Found = or_none (slice_get found change.table) in
      let few : or_none (slice_get (all_wanted needs found) change.table) ≡ rows_wanted (needs change.table) rows =
      ap or_none (wanted-at needs found change.table) ∙ or-none-wanted (needs change.table) (slice_get found change.table) in
      ap (λ (some : List Found). Some (within_limits info (change_effect info.shape change some (tables_of (all_wanted needs found))))) few
      ∙ ap (λ effect. Some (within_limits info effect))
      (same-effect infos change info is rows (said-at infos found said change.table info is) found said)

  typed-same : (typed : Result Logic Refusal)
      → meant infos (all_wanted (by_parts (λ place values. logic_needs infos place values typed) infos) found) typed ≡ meant infos found typed
  typed-same (Ok (logic.Query query)) =
      ap (λ rows. Some (Listing (map column_name query.columns) rows))
      (query-rows query infos (λ place values. query_needs (widths_of infos) place values query) (λ place values h. h) found said)
  typed-same (Ok (logic.Change change)) = change-same change (slice_get infos change.table) refl
  typed-same (Ok (logic.Merge merge)) =
      ap (λ (all : List (List Found)). merged_in (slice_get infos merge.table) (slice_get all merge.table) (tables_of all) merge)
      (all-stay (by_parts (λ place values. true) infos) found (λ place text. refl))
  typed-same (Ok (logic.Make shape)) = refl
  typed-same (Ok (logic.Unmake table)) = refl
  typed-same (Ok logic.Nothing) = refl
  typed-same (Ok (logic.Describe columns)) = refl
  typed-same (Ok (logic.Explain query)) = refl
  typed-same (Ok (logic.Ask ask)) = refl
  typed-same (Err why) = refl

pub needs-keep : (infos : List TableInfo) (tree : Stmt) → KeepMeaning tree infos (needs_of infos (analysed infos tree))
unfolding needs_of
needs-keep infos tree found said = typed-same infos found said (analysed infos tree)
