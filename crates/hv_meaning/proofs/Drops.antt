-- What drops a table: a DROP TABLE of its name.
use Rattle.std.proofs.Common.{◌≡◌, ℕ, List, [], map, slice_get, Option, Some, None, Result, Ok, Err, refl, sym, subst}
use Rattle.hv_base.specs.declared.refusal.Refusal.{Refusal}
use Rattle.hv_base.specs.declared.refusal.Refusal.TheVariants as refusal
use Rattle.hv_ast.specs.declared.statement.Stmt.{Stmt}
use Rattle.hv_ast.specs.declared.statement.Stmt.TheVariants as stmt
use Rattle.hv_ast.specs.declared.table.DropTable.{DropTable}
use Rattle.hv_typing.specs.hv_logic.specs.declared.catalog.TableInfo.{TableInfo}
use Rattle.hv_typing.specs.hv_logic.specs.declared.effect.Found.{Found}
use Rattle.hv_typing.specs.hv_logic.specs.declared.meaning.Meaning.{Meaning}
use Rattle.hv_typing.specs.hv_logic.specs.declared.meaning.Meaning.TheVariants.{Unmake}
use Rattle.hv_typing.specs.hv_logic.specs.declared.seen.Seen.{Seen}
use Rattle.hv_typing.specs.hv_logic.specs.Tables.{named}
use Rattle.hv_typing.specs.Rows.{Tables, source_frames}
use Rattle.hv_typing.specs.declared.change.TypedChange.{TypedChange}
use Rattle.hv_typing.specs.declared.merge.TypedMerge.{TypedMerge}
use Rattle.hv_typing.specs.declared.logic.Logic.{Logic}
use Rattle.hv_typing.specs.declared.logic.Logic.TheVariants as logic
use Rattle.hv_typing.specs.Analysis.{form_analysed, query_analysed, explain_analysed, change_analysed, merge_analysed}
use Rattle.hv_typing.specs.Changes.{change_of}
use Rattle.hv_typing.specs.Columns.{columns_of}
use Rattle.hv_typing.specs.Creates.{created, place_of, is_table}
use Rattle.hv_typing.specs.Descriptions.{described}
use Rattle.hv_typing.specs.Drops.{dropped, dropped_at}
use Rattle.hv_typing.specs.Merges.{merged}
use Rattle.hv_typing.specs.Shows.{show_analysed}
use Rattle.hv_typing.specs.Settings.{set_analysed}
use Rattle.hv_typing.specs.Asks.{asked}
use Rattle.hv_typing.specs.Subqueries.{selected}
use Rattle.hv_meaning.specs.Meaning.{its_tables, info_of, found_in, tables_of, stored_row, change_effect, or_none, changed_in, merged_in, meant, meaning_in, meaning_of}
use Rattle.hv_meaning.specs.Merging.{twice_found, merge_effect}
use Rattle.hv_meaning.specs.Laws.{DropsNamed, DropsAreNamed}
use Rattle.hv_meaning.proofs.Outcomes.{OnOk, then-ok, if-ok, creates-are, describes-are, explains-are, shows-are, settings-are, compacts-are, asking-is}
use Rattle.hv_meaning.proofs.Limits.{limits-come}
use Rattle.hv_meaning.proofs.Merges.{merges-come}
use Rattle.hv_meaning.proofs.Meanings.{Comes, meant-is, form-is, infos_of, place-first, named-same}

abbrev Unmakes : Stmt → List Seen → Option Meaning → Type 0
Unmakes tree tables (Some (Unmake table)) = DropsNamed tree tables table
Unmakes tree tables _ = Unit {0}

-- ---- the other forms drop nothing

abbrev Stays : Logic → Type 0
Stays (logic.Unmake table) = ⊥
Stays typed = Unit {0}

change-stays : (infos : List TableInfo) (name : List ℕ) (tree : Stmt) → OnOk Stays (change_analysed infos name tree)
change-stays infos name tree = then-ok Stays (change_of infos name tree) _ (λ change e. tt)

changed-unmakes : (tree : Stmt) (tables : List Seen) (info : Option TableInfo) (found : Option (List Found)) (rows : Tables) (change : TypedChange)
    → Unmakes tree tables (changed_in info found rows change)
changed-unmakes tree tables None found rows change = tt
changed-unmakes tree tables (Some info) found rows change =
    limits-come (Unmakes tree tables) tt tt info (change_effect info.shape change (or_none found) rows) (λ touches is. tt)

merged-unmakes : (tree : Stmt) (tables : List Seen) (info : Option TableInfo) (found : Option (List Found)) (rows : Tables) (merge : TypedMerge)
    → Unmakes tree tables (merged_in info found rows merge)
merged-unmakes tree tables None found rows merge = tt
merged-unmakes tree tables (Some info) found rows merge =
    let sources = source_frames merge.source rows in
    merges-come (Unmakes tree tables) (λ partition id. tt) tt tt info (twice_found merge sources (or_none found))
    (merge_effect (stored_row (columns_of info.shape)) merge sources (or_none found)) (λ touches is. tt)

module _ (tree : Stmt) (tables : List Seen) (infos : List TableInfo) (found : List (List Found)) where
  comes-stays : (typed : Logic) → Stays typed → Comes (Unmakes tree tables) tt (λ why. tt) infos found typed
  comes-stays (logic.Query query) stays = tt
  comes-stays (logic.Change change) stays =
      changed-unmakes tree tables (slice_get infos change.table) (slice_get found change.table) (tables_of found) change
  comes-stays (logic.Merge merge) stays =
      merged-unmakes tree tables (slice_get infos merge.table) (slice_get found merge.table) (tables_of found) merge
  comes-stays (logic.Make shape) stays = tt
  comes-stays (logic.Unmake table) stays = absurd stays
  comes-stays logic.Nothing stays = tt
  comes-stays (logic.Describe columns) stays = tt
  comes-stays (logic.Explain query) stays = tt
  comes-stays (logic.Ask ask) stays = asking-is (Unmakes tree tables) ask (λ short. tt) tt

  on-stays : (r : Result Logic Refusal) → OnOk Stays r → OnOk (Comes (Unmakes tree tables) tt (λ why. tt) infos found) r
  on-stays (Ok typed) stays = comes-stays typed stays
  on-stays (Err why) stays = tt

  meant-stays : (r : Result Logic Refusal) → OnOk Stays r → Unmakes tree tables (meant infos found r)
  meant-stays r stays = meant-is (Unmakes tree tables) tt (λ why. tt) infos found r (on-stays r stays)

-- ---- a DROP TABLE is of the table that has its name among those that it names

drop-comes : (drop : DropTable) (tables : List Seen) (rows : List (List Found)) (found : Option Seen) → named drop.table tables ≡ found
    → OnOk (Comes (Unmakes (stmt.DropTable drop) tables) tt (λ why. tt) (infos_of found) rows)
    (dropped_at (infos_of found) drop.if_exists (place_of drop.table (infos_of found)))
drop-comes drop tables rows None is =
    if-ok (Comes (Unmakes (stmt.DropTable drop) tables) tt (λ why. tt) (infos_of None) rows) drop.if_exists (Ok logic.Nothing) refusal.NoTable (λ exists. tt)
drop-comes drop tables rows (Some seen) is =
    let Q = Comes (Unmakes (stmt.DropTable drop) tables) tt (λ why. tt) (infos_of (Some seen)) rows in
    let its : DropsNamed (stmt.DropTable drop) tables seen.info.table =
    record { said = drop; tree_is = refl; seen = seen; here = is; table_is = refl } in
    subst (λ (place : Option ℕ). OnOk Q (dropped_at (infos_of (Some seen)) drop.if_exists place))
    (sym (place-first (is_table drop.table) seen.info [] (named-same drop.table tables seen is))) its

abbrev its_infos : Stmt → List Seen → List TableInfo
its_infos tree tables = map info_of (its_tables tree tables)

abbrev its_found : Stmt → List Seen → List (List Found)
its_found tree tables = map found_in (its_tables tree tables)

-- a statement of another form
stays-form : (tree : Stmt) (tables : List Seen) (r : Result Logic Refusal) → OnOk Stays r → Unmakes tree tables (meant (its_infos tree tables) (its_found tree tables) r)
stays-form tree tables r stays = meant-stays tree tables (its_infos tree tables) (its_found tree tables) r stays

changes-form : (tree : Stmt) (tables : List Seen) (name : List ℕ)
    → Unmakes tree tables (meant (its_infos tree tables) (its_found tree tables) (change_analysed (its_infos tree tables) name tree))
changes-form tree tables name =
    stays-form tree tables (change_analysed (its_infos tree tables) name tree) (change-stays (its_infos tree tables) name tree)

unmakes-form : (tree : Stmt) (tables : List Seen)
    → Unmakes tree tables (meant (its_infos tree tables) (its_found tree tables) (form_analysed (its_infos tree tables) tree))
unfolding form_analysed dropped
unmakes-form (stmt.Query query) tables =
    let infos = its_infos (stmt.Query query) tables in
    stays-form (stmt.Query query) tables (query_analysed infos query) (then-ok Stays (selected infos query) _ (λ typed e. tt))
unmakes-form (stmt.Insert insert) tables = changes-form (stmt.Insert insert) tables insert.table
unmakes-form (stmt.Update update) tables = changes-form (stmt.Update update) tables update.table
unmakes-form (stmt.Delete delete) tables = changes-form (stmt.Delete delete) tables delete.table
unmakes-form (stmt.Merge merge) tables =
    let infos = its_infos (stmt.Merge merge) tables in
    stays-form (stmt.Merge merge) tables (merge_analysed infos merge) (then-ok Stays (merged infos merge) _ (λ typed e. tt))
unmakes-form (stmt.Truncate truncate) tables = changes-form (stmt.Truncate truncate) tables truncate.table
unmakes-form (stmt.CreateTable create) tables =
    let infos = its_infos (stmt.CreateTable create) tables in
    stays-form (stmt.CreateTable create) tables (created infos create) (creates-are Stays infos create tt tt)
unmakes-form (stmt.DropTable drop) tables =
    let infos = its_infos (stmt.DropTable drop) tables in
    let found = its_found (stmt.DropTable drop) tables in
    meant-is (Unmakes (stmt.DropTable drop) tables) tt (λ why. tt) infos found (dropped infos drop)
    (drop-comes drop tables found (named drop.table tables) refl)
unmakes-form (stmt.Describe table) tables =
    let infos = its_infos (stmt.Describe table) tables in
    stays-form (stmt.Describe table) tables (described infos table) (describes-are Stays infos table (λ columns. tt))
unmakes-form (stmt.Show what) tables =
    let infos = its_infos (stmt.Show what) tables in
    stays-form (stmt.Show what) tables (show_analysed infos what) (shows-are Stays infos what tt)
unmakes-form (stmt.Compact compact) tables =
    let infos = its_infos (stmt.Compact compact) tables in
    stays-form (stmt.Compact compact) tables (asked infos compact) (compacts-are Stays infos compact (λ ask. tt))
unmakes-form (stmt.Set setting) tables = stays-form (stmt.Set setting) tables (set_analysed setting) (settings-are Stays setting tt)
unmakes-form (stmt.Explain query) tables =
    let infos = its_infos (stmt.Explain query) tables in
    stays-form (stmt.Explain query) tables (explain_analysed infos query) (explains-are Stays infos query (λ typed. tt))
unmakes-form other tables = tt

unmakes-all : (tree : Stmt) (tables : List Seen) → Unmakes tree tables (meaning_of tables tree)
unfolding meaning_in
unmakes-all tree tables =
    form-is (Unmakes tree tables) tt (λ why. tt) tree (its_infos tree tables) (its_found tree tables) (unmakes-form tree tables)

pub drops-named : DropsAreNamed
drops-named tree tables table e = subst (Unmakes tree tables) e (unmakes-all tree tables)
