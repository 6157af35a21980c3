-- What asks for a compaction: a COMPACT of the table of its name.
use Rattle.std.proofs.Common.{◌≡◌, ℕ, List, [], map, length, slice_get, Option, Some, None, Result, Ok, Err, refl, sym, subst}
use Rattle.std.proofs.lemmas.Bool.{leb-true}
use Rattle.hv_base.specs.declared.refusal.Refusal.{Refusal}
use Rattle.hv_ast.specs.declared.statement.Stmt.{Stmt}
use Rattle.hv_ast.specs.declared.statement.Stmt.TheVariants as stmt
use Rattle.hv_ast.specs.declared.table.Compact.{Compact}
use Rattle.hv_typing.specs.hv_logic.specs.declared.catalog.TableInfo.{TableInfo}
use Rattle.hv_typing.specs.hv_logic.specs.declared.effect.Found.{Found}
use Rattle.hv_typing.specs.hv_logic.specs.declared.meaning.Meaning.{Meaning}
use Rattle.hv_typing.specs.hv_logic.specs.declared.meaning.Meaning.TheVariants.{Ask}
use Rattle.hv_typing.specs.hv_logic.specs.declared.seen.Seen.{Seen}
use Rattle.hv_typing.specs.hv_logic.specs.Tables.{named}
use Rattle.hv_typing.specs.Rows.{Tables, source_frames}
use Rattle.hv_typing.specs.declared.change.TypedChange.{TypedChange}
use Rattle.hv_typing.specs.declared.merge.TypedMerge.{TypedMerge}
use Rattle.hv_typing.specs.declared.logic.Logic.{Logic}
use Rattle.hv_typing.specs.declared.logic.Logic.TheVariants as logic
use Rattle.hv_typing.specs.Analysis.{form_analysed, query_analysed, explain_analysed, change_analysed, merge_analysed}
use Rattle.hv_typing.specs.Changes.{change_of}
use Rattle.hv_typing.specs.Columns.{columns_of}
use Rattle.hv_typing.specs.Creates.{created, place_of, is_table}
use Rattle.hv_typing.specs.Descriptions.{described}
use Rattle.hv_typing.specs.Drops.{dropped}
use Rattle.hv_typing.specs.Merges.{merged}
use Rattle.hv_typing.specs.Shows.{show_analysed}
use Rattle.hv_typing.specs.Settings.{set_analysed}
use Rattle.hv_route.specs.Touching.{text_limit}
use Rattle.hv_typing.specs.Asks.{list_typed, asked_of, asked_at, asked}
use Rattle.hv_typing.specs.Subqueries.{selected}
use Rattle.hv_meaning.specs.Meaning.{its_tables, info_of, found_in, tables_of, stored_row, change_effect, or_none, changed_in, merged_in, asked_partition, meant, meaning_in, meaning_of}
use Rattle.hv_meaning.specs.Merging.{twice_found, merge_effect}
use Rattle.hv_meaning.specs.Laws.{AsksNamed, AsksAreNamed}
use Rattle.hv_meaning.proofs.Outcomes.{OnOk, then-ok, creates-are, drops-are, describes-are, explains-are, shows-are, settings-are, asking-is}
use Rattle.hv_meaning.proofs.Limits.{limits-come}
use Rattle.hv_meaning.proofs.Merges.{merges-come}
use Rattle.hv_meaning.proofs.Meanings.{Comes, meant-is, form-is, infos_of, place-first, named-same}

abbrev Asks : Stmt → List Seen → Option Meaning → Type 0
Asks tree tables (Some (Ask table partition kind)) = AsksNamed tree tables table partition kind
Asks tree tables _ = Unit {0}

-- ---- the other forms ask for nothing

abbrev Stays : Logic → Type 0
Stays (logic.Ask ask) = ⊥
Stays typed = Unit {0}

change-stays : (infos : List TableInfo) (name : List ℕ) (tree : Stmt) → OnOk Stays (change_analysed infos name tree)
change-stays infos name tree = then-ok Stays (change_of infos name tree) _ (λ change e. tt)

changed-asks : (tree : Stmt) (tables : List Seen) (info : Option TableInfo) (found : Option (List Found)) (rows : Tables) (change : TypedChange)
    → Asks tree tables (changed_in info found rows change)
changed-asks tree tables None found rows change = tt
changed-asks tree tables (Some info) found rows change =
    limits-come (Asks tree tables) tt tt info (change_effect info.shape change (or_none found) rows) (λ touches is. tt)

merged-asks : (tree : Stmt) (tables : List Seen) (info : Option TableInfo) (found : Option (List Found)) (rows : Tables) (merge : TypedMerge)
    → Asks tree tables (merged_in info found rows merge)
merged-asks tree tables None found rows merge = tt
merged-asks tree tables (Some info) found rows merge =
    let sources = source_frames merge.source rows in
    merges-come (Asks tree tables) (λ partition id. tt) tt tt info (twice_found merge sources (or_none found))
    (merge_effect (stored_row (columns_of info.shape)) merge sources (or_none found)) (λ touches is. tt)

module _ (tree : Stmt) (tables : List Seen) (infos : List TableInfo) (found : List (List Found)) where
  comes-stays : (typed : Logic) → Stays typed → Comes (Asks tree tables) tt (λ why. tt) infos found typed
  comes-stays (logic.Query query) stays = tt
  comes-stays (logic.Change change) stays =
      changed-asks tree tables (slice_get infos change.table) (slice_get found change.table) (tables_of found) change
  comes-stays (logic.Merge merge) stays =
      merged-asks tree tables (slice_get infos merge.table) (slice_get found merge.table) (tables_of found) merge
  comes-stays (logic.Make shape) stays = tt
  comes-stays (logic.Unmake table) stays = tt
  comes-stays logic.Nothing stays = tt
  comes-stays (logic.Describe columns) stays = tt
  comes-stays (logic.Explain query) stays = tt
  comes-stays (logic.Ask ask) stays = absurd stays

  on-stays : (r : Result Logic Refusal) → OnOk Stays r → OnOk (Comes (Asks tree tables) tt (λ why. tt) infos found) r
  on-stays (Ok typed) stays = comes-stays typed stays
  on-stays (Err why) stays = tt

  meant-stays : (r : Result Logic Refusal) → OnOk Stays r → Asks tree tables (meant infos found r)
  meant-stays r stays = meant-is (Asks tree tables) tt (λ why. tt) infos found r (on-stays r stays)

-- ---- a COMPACT is of the table that has its name among those that it names

compact-comes : (compact : Compact) (tables : List Seen) (rows : List (List Found)) (found : Option Seen) → named compact.table tables ≡ found
    → OnOk (Comes (Asks (stmt.Compact compact) tables) tt (λ why. tt) (infos_of found) rows)
    (asked_at (infos_of found) compact (place_of compact.table (infos_of found)))
compact-comes compact tables rows None is = tt
compact-comes compact tables rows (Some seen) is =
    let A = Asks (stmt.Compact compact) tables in
    let Q = Comes A tt (λ why. tt) (infos_of (Some seen)) rows in
    subst (λ (place : Option ℕ). OnOk Q (asked_at (infos_of (Some seen)) compact place))
    (sym (place-first (is_table compact.table) seen.info [] (named-same compact.table tables seen is)))
    (then-ok Q (list_typed seen.info.shape.parts compact.partition) _ (λ values e.
    asking-is A (asked_of compact seen.info values) (λ within. record {
      said = compact;
      tree_is = refl;
      seen = seen;
      here = is;
      table_is = refl;
      kind_is = refl;
      short = leb-true (length (asked_partition (asked_of compact seen.info values))) text_limit within;
    }) tt))

abbrev its_infos : Stmt → List Seen → List TableInfo
its_infos tree tables = map info_of (its_tables tree tables)

abbrev its_found : Stmt → List Seen → List (List Found)
its_found tree tables = map found_in (its_tables tree tables)

-- a statement of another form
stays-form : (tree : Stmt) (tables : List Seen) (r : Result Logic Refusal) → OnOk Stays r → Asks tree tables (meant (its_infos tree tables) (its_found tree tables) r)
stays-form tree tables r stays = meant-stays tree tables (its_infos tree tables) (its_found tree tables) r stays

changes-form : (tree : Stmt) (tables : List Seen) (name : List ℕ)
    → Asks tree tables (meant (its_infos tree tables) (its_found tree tables) (change_analysed (its_infos tree tables) name tree))
changes-form tree tables name =
    stays-form tree tables (change_analysed (its_infos tree tables) name tree) (change-stays (its_infos tree tables) name tree)

asks-form : (tree : Stmt) (tables : List Seen)
    → Asks tree tables (meant (its_infos tree tables) (its_found tree tables) (form_analysed (its_infos tree tables) tree))
unfolding form_analysed asked
asks-form (stmt.Query query) tables =
    let infos = its_infos (stmt.Query query) tables in
    stays-form (stmt.Query query) tables (query_analysed infos query) (then-ok Stays (selected infos query) _ (λ typed e. tt))
asks-form (stmt.Insert insert) tables = changes-form (stmt.Insert insert) tables insert.table
asks-form (stmt.Update update) tables = changes-form (stmt.Update update) tables update.table
asks-form (stmt.Delete delete) tables = changes-form (stmt.Delete delete) tables delete.table
asks-form (stmt.Merge merge) tables =
    let infos = its_infos (stmt.Merge merge) tables in
    stays-form (stmt.Merge merge) tables (merge_analysed infos merge) (then-ok Stays (merged infos merge) _ (λ typed e. tt))
asks-form (stmt.Truncate truncate) tables = changes-form (stmt.Truncate truncate) tables truncate.table
asks-form (stmt.CreateTable create) tables =
    let infos = its_infos (stmt.CreateTable create) tables in
    stays-form (stmt.CreateTable create) tables (created infos create) (creates-are Stays infos create tt tt)
asks-form (stmt.DropTable drop) tables =
    let infos = its_infos (stmt.DropTable drop) tables in
    stays-form (stmt.DropTable drop) tables (dropped infos drop) (drops-are Stays infos drop tt (λ table. tt))
asks-form (stmt.Describe table) tables =
    let infos = its_infos (stmt.Describe table) tables in
    stays-form (stmt.Describe table) tables (described infos table) (describes-are Stays infos table (λ columns. tt))
asks-form (stmt.Show what) tables =
    let infos = its_infos (stmt.Show what) tables in
    stays-form (stmt.Show what) tables (show_analysed infos what) (shows-are Stays infos what tt)
asks-form (stmt.Compact compact) tables =
    let infos = its_infos (stmt.Compact compact) tables in
    let found = its_found (stmt.Compact compact) tables in
    meant-is (Asks (stmt.Compact compact) tables) tt (λ why. tt) infos found (asked infos compact)
    (compact-comes compact tables found (named compact.table tables) refl)
asks-form (stmt.Set setting) tables = stays-form (stmt.Set setting) tables (set_analysed setting) (settings-are Stays setting tt)
asks-form (stmt.Explain query) tables =
    let infos = its_infos (stmt.Explain query) tables in
    stays-form (stmt.Explain query) tables (explain_analysed infos query) (explains-are Stays infos query (λ typed. tt))
asks-form other tables = tt

asks-all : (tree : Stmt) (tables : List Seen) → Asks tree tables (meaning_of tables tree)
unfolding meaning_in
asks-all tree tables =
    form-is (Asks tree tables) tt (λ why. tt) tree (its_infos tree tables) (its_found tree tables) (asks-form tree tables)

pub asks-named : AsksAreNamed
asks-named tree tables table partition kind e = subst (Asks tree tables) e (asks-all tree tables)
