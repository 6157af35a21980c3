-- What a statement's meaning says, by the laws of meanings.
use Rattle.std.proofs.Common.{◌≡◌, ◌⊎◌, None, slice_get, inl, inr, ℕ, suc, Bool, Option, Some, Result, Ok, Err, List, [], ◌∷◌, length, map, filter, refl, ap, ◌∙◌}
use Rattle.std.specs.List.{AllByRecursion}
use Rattle.hv_base.specs.declared.refusal.Refusal.{Refusal}
use Rattle.hv_ast.specs.declared.statement.Stmt.{Stmt}
use Rattle.hv_history.specs.hv_built.specs.Built.{IsBuilt}
use Rattle.hv_value.specs.declared.value.Value.{Value}
use Rattle.hv_history.specs.hv_meaning.specs.hv_typing.specs.hv_logic.specs.declared.catalog.Column.{Column}
use Rattle.hv_history.specs.hv_meaning.specs.hv_typing.specs.hv_logic.specs.declared.catalog.TableInfo.{TableInfo}
use Rattle.hv_history.specs.hv_meaning.specs.hv_typing.specs.hv_logic.specs.declared.effect.Effect.{Effect}
use Rattle.hv_history.specs.hv_meaning.specs.hv_typing.specs.hv_logic.specs.declared.effect.Found.{Found}
use Rattle.hv_history.specs.hv_meaning.specs.hv_typing.specs.hv_logic.specs.declared.seen.Seen.{Seen}
use Rattle.hv_history.specs.hv_meaning.specs.hv_typing.specs.hv_logic.specs.declared.meaning.Meaning.{Meaning}
use Rattle.hv_history.specs.hv_meaning.specs.hv_typing.specs.hv_logic.specs.declared.meaning.Meaning.TheVariants.{Listing, Change, Twice, RowLimit, PartitionLimit}
use Rattle.hv_history.specs.hv_meaning.specs.hv_typing.specs.hv_logic.specs.Tables.{named}
use Rattle.hv_history.specs.hv_meaning.specs.hv_typing.specs.Rows.{Tables, source_frames}
use Rattle.hv_history.specs.hv_meaning.specs.hv_typing.specs.declared.merge.TypedMerge.{TypedMerge}
use Rattle.hv_history.specs.hv_meaning.specs.hv_typing.specs.declared.logic.Logic.{Logic}
use Rattle.hv_history.specs.hv_meaning.specs.hv_typing.specs.declared.logic.Logic.TheVariants as logic
use Rattle.hv_history.specs.hv_meaning.specs.hv_typing.specs.Analysis.{analysed}
use Rattle.hv_history.specs.hv_meaning.specs.hv_typing.specs.Columns.{columns_of}
use Rattle.hv_history.specs.hv_meaning.specs.hv_typing.specs.declared.change.TypedChange.{TypedChange}
use Rattle.hv_base.specs.declared.ids.Touch.{Touch}
use Rattle.hv_history.specs.hv_meaning.specs.hv_route.specs.Touching.{touched}
use Rattle.hv_history.specs.hv_meaning.specs.hv_route.specs.declared.fault.RouteFault.{RouteFault}
use Rattle.hv_history.specs.hv_meaning.specs.hv_route.specs.declared.fault.RouteFault.TheVariants as route_fault
use Rattle.hv_history.specs.hv_meaning.specs.Meaning.{info_of, found_in, tables_of, or_none, stored_row, change_effect, changed_in, twice_or, merged_in, unless_limited, meant, meaning_over, meaning_in, meaning_of}
use Rattle.hv_history.specs.hv_meaning.specs.Merging.{twice_found, merge_effect}
use Rattle.hv_history.specs.hv_meaning.specs.Laws.{MeansSomething, AreOf, IsRowOf, FitsTable}
use Rattle.hv_stands.specs.Sound.{HasAllValues}
use Rattle.hv_stands.proofs.Soundness.{all-mapped}
use Rattle.hv_history.specs.hv_meaning.proofs.Forms.{forms-mean}
use Rattle.hv_history.specs.hv_meaning.proofs.Meanings.{changes-named}

-- ---- a change is of a table that is seen, and deletes rows that stand in it

-- of these rows those that a test is true of, in their order
abbrev pub ArePicked : List Found → List Found → Type 0
ArePicked rows picked = (test : Found → Bool) × (picked ≡ filter test rows)

-- a row of the types of columns has a value for each
of-columns : (columns : List Column) (values : List Value) → AreOf columns values → length values ≡ length columns
of-columns [] [] are = refl
of-columns [] (v ∷ values) are = absurd are
of-columns (column ∷ columns) [] are = absurd are
of-columns (column ∷ columns) (v ∷ values) are = ap (λ n. suc n) (of-columns columns values are.1)

pub record ChangesLive (tables : List Seen) (info : TableInfo) (effect : Effect) : Type 0 where
  pub name : List ℕ
  pub seen : Seen
  pub here : named name tables ≡ Some seen
  pub info_is : info ≡ seen.info
  pub deletes : ArePicked seen.rows effect.deletes
  pub whole : AllByRecursion (HasAllValues info.shape) effect.inserts
  pub fits : FitsTable info effect

pub changes-seen : (tree : Stmt) (tables : List Seen) (info : TableInfo) (effect : Effect) → meaning_of tables tree ≡ Some (Change info effect)
    → ChangesLive tables info effect
changes-seen tree tables info effect e =
    let change = changes-named tree tables info effect e in
    record {
      name = change.name;
      seen = change.seen;
      here = change.here;
      info_is = change.info_is;
      deletes = (change.stand.test, change.stand.deletes_are);
      whole = all-mapped (IsRowOf (columns_of info.shape)) (HasAllValues info.shape) (λ row are. of-columns (columns_of info.shape) row.values are) effect.inserts change.fits.typed;
      fits = change.fits;
    }

-- ---- a statement of a form that is built means something

pub built-means : (tables : List Seen) (tree : Stmt) → IsBuilt tree → MeansSomething (meaning_of tables tree)
built-means tables tree built = forms-mean tree tables built

-- ---- over tables of the same descriptions, whatever their rows, it means the same, or what may come of rows

abbrev pub ComesOfRows : Option Meaning → Type 0
ComesOfRows (Some (Listing names rows)) = Unit {0}
ComesOfRows (Some (Change info effect)) = Unit {0}
ComesOfRows (Some (Twice region row)) = Unit {0}
ComesOfRows (Some RowLimit) = Unit {0}
ComesOfRows (Some PartitionLimit) = Unit {0}
ComesOfRows _ = ⊥

limited : (info : TableInfo) (effect : Effect) (r : Result (List Touch) RouteFault) → ComesOfRows (Some (unless_limited info effect r))
limited info effect (Ok touches) = tt
limited info effect (Err route_fault.RowLimit) = tt
limited info effect (Err route_fault.PartitionLimit) = tt
limited info effect (Err route_fault.NoMemory) = tt

changed-alike : (info : Option TableInfo) (one : Option (List Found)) (other : Option (List Found)) (rows others : Tables) (change : TypedChange)
    → (changed_in info one rows change ≡ changed_in info other others change) ⊎ ComesOfRows (changed_in info one rows change)
changed-alike None one other rows others change = inl refl
changed-alike (Some info) one other rows others change =
    let effect = change_effect info.shape change (or_none one) rows in
    inr (limited info effect (touched info effect))

merge-comes : (info : TableInfo) (effect : Effect) (found : Option Found) → ComesOfRows (Some (twice_or info found effect))
merge-comes info effect None = limited info effect (touched info effect)
merge-comes info effect (Some found) = tt

merged-alike : (info : Option TableInfo) (one other : Option (List Found)) (rows others : Tables) (merge : TypedMerge)
    → (merged_in info one rows merge ≡ merged_in info other others merge) ⊎ ComesOfRows (merged_in info one rows merge)
merged-alike None one other rows others merge = inl refl
merged-alike (Some info) one other rows others merge =
    let sources = source_frames merge.source rows in
    inr (merge-comes info (merge_effect (stored_row (columns_of info.shape)) merge sources (or_none one)) (twice_found merge sources (or_none one)))

alike : (infos : List TableInfo) (found others : List (List Found)) (r : Result Logic Refusal)
    → (meant infos found r ≡ meant infos others r) ⊎ ComesOfRows (meant infos found r)
alike infos found others (Ok (logic.Query query)) = inr tt
alike infos found others (Ok (logic.Change change)) =
    changed-alike (slice_get infos change.table) (slice_get found change.table) (slice_get others change.table) (tables_of found) (tables_of others) change
alike infos found others (Ok (logic.Merge merge)) =
    merged-alike (slice_get infos merge.table) (slice_get found merge.table) (slice_get others merge.table) (tables_of found) (tables_of others) merge
alike infos found others (Ok (logic.Make shape)) = inl refl
alike infos found others (Ok (logic.Unmake table)) = inl refl
alike infos found others (Ok (logic.Ask ask)) = inl refl
alike infos found others (Ok logic.Nothing) = inl refl
alike infos found others (Ok (logic.Describe columns)) = inl refl
alike infos found others (Ok (logic.Explain query)) = inl refl
alike infos found others (Err why) = inl refl

pub same-or-rows : (tree : Stmt) (tables others : List Seen) → map info_of tables ≡ map info_of others
    → (meaning_in tree tables ≡ meaning_in tree others) ⊎ ComesOfRows (meaning_in tree tables)
unfolding meaning_in
same-or-rows tree tables others same =
    by (alike (map info_of tables) (map found_in tables) (map found_in others) (analysed (map info_of tables) tree))
  where
    by : (meaning_over tree (map info_of tables) (map found_in tables) ≡ meaning_over tree (map info_of tables) (map found_in others))
        ⊎ ComesOfRows (meaning_over tree (map info_of tables) (map found_in tables))
        → (meaning_over tree (map info_of tables) (map found_in tables) ≡ meaning_over tree (map info_of others) (map found_in others))
        ⊎ ComesOfRows (meaning_over tree (map info_of tables) (map found_in tables))
    by (inl e) = inl (e ∙ ap (λ infos. meaning_over tree infos (map found_in others)) same)
    by (inr l) = inr l
