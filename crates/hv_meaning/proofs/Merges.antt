-- What the analysis of a MERGE can give, and what a MERGE can come to.
use Rattle.std.proofs.Common.{◌≡◌, ◌++◌, ℕ, Bool, true, false, cond, List, [], ◌∷◌, slice_get, Option, Some, None, Result, Ok, Err, refl}
use Rattle.std.specs.List.{AllByRecursion, flat_map}
use Rattle.hv_base.specs.declared.ids.RowId.{RowId}
use Rattle.hv_base.specs.declared.ids.Touch.{Touch}
use Rattle.hv_base.specs.declared.refusal.Refusal.{Refusal}
use Rattle.hv_base.specs.declared.refusal.Refusal.TheVariants as refusal
use Rattle.hv_ast.specs.declared.change.Merge.{Merge}
use Rattle.hv_typing.specs.hv_expr.specs.declared.tree.TypedExpr.{TypedExpr}
use Rattle.hv_typing.specs.hv_logic.specs.declared.catalog.Shape.{Shape}
use Rattle.hv_typing.specs.hv_logic.specs.declared.catalog.TableInfo.{TableInfo}
use Rattle.hv_typing.specs.hv_logic.specs.declared.effect.Effect.{Effect}
use Rattle.hv_typing.specs.hv_logic.specs.declared.effect.Found.{Found}
use Rattle.hv_typing.specs.hv_logic.specs.declared.meaning.Meaning.{Meaning}
use Rattle.hv_typing.specs.hv_logic.specs.declared.meaning.Meaning.TheVariants.{Change, Twice, RowLimit, PartitionLimit}
use Rattle.hv_route.specs.Touching.{touched}
use Rattle.hv_typing.specs.declared.merge.TypedClauses.{TypedClauses}
use Rattle.hv_typing.specs.declared.merge.TypedMerge.{TypedMerge}
use Rattle.hv_typing.specs.declared.opened.Brought.{Brought}
use Rattle.hv_typing.specs.declared.scope.Over.TheVariants as over
use Rattle.hv_typing.specs.Scopes.{same_name}
use Rattle.hv_typing.specs.Typing.{condition_of}
use Rattle.hv_typing.specs.Columns.{columns_of}
use Rattle.hv_typing.specs.Creates.{place_of}
use Rattle.hv_typing.specs.Subqueries.{brought}
use Rattle.hv_typing.specs.Merges.{clauses_clash, no_clauses, clauses_typed, target_alias, target_fields, merge_of, merge_typed, merge_over, merged_table, merged_at, merged}
use Rattle.hv_meaning.specs.Meaning.{twice_or}
use Rattle.hv_meaning.proofs.Outcomes.{OnOk, then-ok}
use Rattle.hv_meaning.proofs.Limits.{limits-come}

-- ---- a MERGE of the table of that name

pub record IsMergeOf (tables : List TableInfo) (name : List ℕ) (typed : TypedMerge) : Type 0 where
  pub place : ℕ
  pub info : TableInfo
  pub named : place_of name tables ≡ Some place
  pub here : slice_get tables place ≡ Some info
  pub table : typed.table ≡ place

unless-ok : {A : Type 0} (P : A → Type 0) (b : Bool) (why : Refusal) (r : Result A Refusal) → OnOk P r → OnOk P (cond b (Err why) r)
unless-ok P true why r h = tt
unless-ok P false why r h = h

module _ (P : TypedMerge → Type 0) (place : ℕ) (shape : Shape) (merge : Merge) (source : Brought)
    (each : (on : TypedExpr) (clauses : TypedClauses) → P (merge_of place source.source on clauses)) where
  typed-is : OnOk P (merge_typed place shape merge source)
  unfolding merge_typed
  typed-is =
      then-ok P (condition_of (target_fields shape merge ++ source.fields) merge.on over.Row) _ (λ on e.
      then-ok P (clauses_typed shape (columns_of shape) (target_fields shape merge ++ source.fields) source.fields no_clauses merge.clauses) _ (λ clauses f.
      each on clauses))

  over-is : OnOk P (merge_over place shape merge source)
  unfolding merge_over
  over-is =
      unless-ok P (same_name source.alias (target_alias merge)) refusal.Ambiguous _
      (unless-ok P (clauses_clash merge.clauses) refusal.MergeClauses _ typed-is)

pub merges-are : (tables : List TableInfo) (merge : Merge) → OnOk (IsMergeOf tables merge.table) (merged tables merge)
unfolding merged
merges-are tables merge = at (place_of merge.table tables) refl
  where
    into : (place : ℕ) (info : Option TableInfo) → place_of merge.table tables ≡ Some place → slice_get tables place ≡ info
        → OnOk (IsMergeOf tables merge.table) (merged_table tables merge place info)
    into place None named here = tt
    into place (Some info) named here =
        then-ok (IsMergeOf tables merge.table) (brought tables merge.source) _ (λ source e.
        over-is (IsMergeOf tables merge.table) place info.shape merge source (λ on clauses.
        record { place = place; info = info; named = named; here = here; table = refl }))

    at : (place : Option ℕ) → place_of merge.table tables ≡ place → OnOk (IsMergeOf tables merge.table) (merged_at tables merge place)
    at None named = tt
    at (Some place) named = into place (slice_get tables place) named refl

-- ---- what holds of the limits, of rows that match twice, and of a change that is within the limits, holds of what comes of it

pub merges-come : (P : Option Meaning → Type 0) (twice : (partition : List ℕ) (id : RowId) → P (Some (Twice partition id)))
    (row : P (Some RowLimit)) (partition : P (Some PartitionLimit)) (info : TableInfo) (found : Option Found) (effect : Effect)
    → ((touches : List Touch) → touched info effect ≡ Ok touches → P (Some (Change info effect))) → P (Some (twice_or info found effect))
merges-come P twice row partition info None effect h = limits-come P row partition info effect h
merges-come P twice row partition info (Some found) effect h = twice found.partition found.id

-- ---- all of two lists, and of what comes of each item

module _ {A : Type 0} (P : A → Type 0) where
  pub all-both : (xs ys : List A) → AllByRecursion P xs → AllByRecursion P ys → AllByRecursion P (xs ++ ys)
  all-both [] ys all more = more
  all-both (x ∷ xs) ys all more = (all.0, all-both xs ys all.1 more)

  pub all-made : {B : Type 0} (f : B → List A) (bs : List B) → ((b : B) → AllByRecursion P (f b)) → AllByRecursion P (flat_map f bs)
  all-made f [] each = tt
  all-made f (b ∷ bs) each = all-both (f b) (flat_map f bs) (each b) (all-made f bs each)
