-- What a statement's meaning can be, by the statement's form.
use Rattle.std.proofs.lemmas.List.{length-append, length-map}
use Rattle.std.proofs.lemmas.Bool.{leb-true, le-ltb, lt-ltb}
use Rattle.std.proofs.Common.{◌≡◌, ◌++◌, ℕ, zero, suc, Bool, true, false, cond, not, nat_eq, List, [], ◌∷◌, map, slice_get, length, Option, Some, None, Result, Ok, Err, refl, sym, ap, ◌∙◌, subst, arith, ◌+◌, ◌≤◌, ◌&&◌}
use Rattle.std.specs.Prelude.{is_some, nat_lt, position, nat_le, filter, drop}
use Rattle.std.specs.List.{position_or_len, flat_map}
use Rattle.std.specs.List.{AllByRecursion, list_all, list_any}
use Rattle.std.specs.Option.{option_map, option_to_list}
use Rattle.std.specs.Cmp.Lexicographic.{pointwise}
use Rattle.hv_base.specs.declared.ids.TableId.{TableId}
use Rattle.hv_base.specs.declared.ids.Touch.{Touch}
use Rattle.hv_base.specs.declared.refusal.Refusal.{Refusal}
use Rattle.hv_base.specs.declared.refusal.Refusal.TheVariants as refusal
use Rattle.hv_ast.specs.declared.change.Insert.{Insert}
use Rattle.hv_ast.specs.declared.change.Merge.{Merge}
use Rattle.hv_ast.specs.declared.query.Query.{Query}
use Rattle.hv_ast.specs.declared.query.Source.{Source}
use Rattle.hv_ast.specs.declared.statement.Setting.{Setting}
use Rattle.hv_ast.specs.declared.statement.Show.{Show}
use Rattle.hv_ast.specs.declared.statement.Stmt.{Stmt}
use Rattle.hv_ast.specs.declared.statement.Stmt.TheVariants as stmt
use Rattle.hv_ast.specs.declared.table.Compact.{Compact}
use Rattle.hv_ast.specs.declared.table.CompactionKind.{CompactionKind}
use Rattle.hv_ast.specs.declared.table.CreateTable.{CreateTable}
use Rattle.hv_ast.specs.declared.table.DropTable.{DropTable}
use Rattle.hv_value.specs.declared.row.Row.{Row}
use Rattle.hv_value.specs.declared.sql_type.SqlType.{SqlType}
use Rattle.hv_value.specs.declared.sql_type.SqlType.TheVariants as type
use Rattle.hv_value.specs.declared.value.Value.TheOpen.{Value-F}
use Rattle.hv_value.specs.declared.value.Value.TheVariants as value
use Rattle.hv_value.specs.declared.value.Value.TheVariants.{rolls-Null}
use Rattle.hv_value.specs.declared.value.Value.TheViews.{out-Value, out-roll-Value}
use Rattle.hv_value.specs.Conversion.{is_of, is_layer_in}
use Rattle.hv_value.proofs.ConversionLemmas.{converted-is_of}
use Rattle.hv_typing.specs.hv_expr.specs.declared.tree.TypedExpr.{TypedExpr}
use Rattle.hv_typing.specs.hv_expr.specs.Evaluation.{value_of}
use Rattle.hv_typing.specs.hv_logic.specs.declared.catalog.Column.{Column}
use Rattle.hv_typing.specs.hv_logic.specs.declared.catalog.Shape.{Shape}
use Rattle.hv_typing.specs.hv_logic.specs.declared.catalog.TableInfo.{TableInfo}
use Rattle.hv_typing.specs.hv_logic.specs.declared.effect.Effect.{Effect}
use Rattle.hv_typing.specs.hv_logic.specs.declared.effect.Found.{Found}
use Rattle.hv_typing.specs.hv_logic.specs.declared.meaning.Meaning.{Meaning}
use Rattle.hv_typing.specs.hv_logic.specs.declared.meaning.Meaning.TheVariants.{Refused, Listing, Change, Make, Unmake, Ask, Plain, PartitionLimit}
use Rattle.hv_typing.specs.hv_logic.specs.declared.seen.Seen.{Seen}
use Rattle.hv_typing.specs.hv_logic.specs.Tables.{named}
use Rattle.hv_typing.specs.hv_logic.specs.Shapes.{column_of, shape_of, bucket_names}
use Rattle.hv_locks.specs.declared.table.Lock.{Lock}
use Rattle.hv_typing.specs.hv_logic.specs.Names.{shared, rows_names, source_names}
use Rattle.hv_route.specs.Back.{AreFlat}
use Rattle.hv_route.specs.Touching.{touched}
use Rattle.hv_typing.specs.Rows.{Frame, Tables, is_met, source_frames}
use Rattle.hv_typing.specs.declared.merge.MatchedAction.{MatchedAction}
use Rattle.hv_typing.specs.declared.merge.MatchedAction.TheVariants as action
use Rattle.hv_typing.specs.declared.merge.TypedMatched.{TypedMatched}
use Rattle.hv_typing.specs.declared.merge.TypedMerge.{TypedMerge}
use Rattle.hv_typing.specs.declared.merge.TypedNewcomers.{TypedNewcomers}
use Rattle.hv_typing.specs.Merges.{merged}
use Rattle.hv_meaning.specs.Merging.{Match, target_frame, its_match, twice_found, acting, is_taken, renewed_by, renewed_from, renewed, new_rows, unmatched, merge_effect}
use Rattle.hv_typing.specs.declared.change.Deletes.{Deletes}
use Rattle.hv_typing.specs.declared.change.Deletes.TheVariants as deletes
use Rattle.hv_typing.specs.declared.change.TypedChange.{TypedChange}
use Rattle.hv_typing.specs.Columns.{columns_of}
use Rattle.hv_typing.specs.declared.logic.Logic.{Logic}
use Rattle.hv_typing.specs.declared.logic.Logic.TheVariants as logic
use Rattle.hv_typing.specs.Analysis.{analysed, form_analysed, is_form, query_analysed, explain_analysed, change_analysed, merge_analysed}
use Rattle.hv_typing.specs.Creates.{created, created_beside, place_of, is_table, fault_of, names_repeat, is_bucket_column, has_array, is_array_named, arrays_route, numbers_fit}
use Rattle.hv_typing.specs.Changes.{changing, change_of}
use Rattle.hv_typing.specs.Drops.{dropped}
use Rattle.hv_typing.specs.Descriptions.{described}
use Rattle.hv_typing.specs.Shows.{show_analysed}
use Rattle.hv_typing.specs.Settings.{set_analysed}
use Rattle.hv_typing.specs.Asks.{asked}
use Rattle.hv_typing.specs.Subqueries.{selected}
use Rattle.hv_meaning.specs.Meaning.{its_tables, named_by, info_of, found_in, tables_of, is_matched, matched, frames_from, first_value, stored_values, stored_row, is_received, deleted, change_effect, within_limits, or_none, changed_in, merge_of, merged_in, refused_for, meant, meaning_in, meaning_of}
use Rattle.hv_meaning.specs.Laws.{MakesNew, TablesAreNew, AreOf, IsRowOf, AreOfRows, change_name, ChangesNamed, ChangesAreNamed, ChangesSeen, ChangesAreSeen, only_inserts, InsertsDeleteNothing}
use Rattle.hv_meaning.proofs.Outcomes.{OnOk, on_ok, then-ok, IsGone, IsChangeOf, inserts-are, changes-are, creates-are, drops-are, describes-are, explains-are, shows-are, settings-are, compacts-are, asking-is, makes}
use Rattle.hv_meaning.proofs.Stored.{both}
use Rattle.hv_meaning.proofs.Limits.{neither, limits-come, fits-table, flat-columns}
use Rattle.hv_meaning.proofs.Merges.{IsMergeOf, merges-are, merges-come, all-both, all-made}

-- ---- a fact of what a statement comes to

module _ (P : Option Meaning → Type 0) (unbuilt : P None) (refused : (why : Refusal) → P (Some (Refused why))) where
  refused-is : (why : Refusal) → P (refused_for why)
  refused-is refusal.Syntax = unbuilt
  refused-is why = refused why

  abbrev pub Comes : List TableInfo → List (List Found) → Logic → Type 0
  Comes infos found logic = P (meant infos found (Ok logic))

  pub meant-is : (infos : List TableInfo) (found : List (List Found)) (r : Result Logic Refusal) → OnOk (Comes infos found) r → P (meant infos found r)
  meant-is infos found (Ok logic) h = h
  meant-is infos found (Err why) h = refused-is why

  -- a statement of a form that isn't built comes to nothing
  pub form-is : (tree : Stmt) (infos : List TableInfo) (found : List (List Found)) → P (meant infos found (form_analysed infos tree)) → P (meant infos found (analysed infos tree))
  unfolding analysed
  form-is tree infos found h = by (is_form tree)
    where
      by : (b : Bool) → P (meant infos found (cond b (form_analysed infos tree) (Err refusal.Syntax)))
      by true = h
      by false = unbuilt

  pub queries-come : (infos : List TableInfo) (found : List (List Found)) (query : Query Source) → ((names : List (List ℕ)) (rows : List Row) → P (Some (Listing names rows)))
      → P (meant infos found (query_analysed infos query))
  queries-come infos found query listing =
      meant-is infos found (query_analysed infos query) (then-ok (Comes infos found) (selected infos query) _ (λ typed e. listing _ _))

  pub drops-come : (infos : List TableInfo) (found : List (List Found)) (dropping : DropTable) → P (Some Plain) → ((table : TableId) → P (Some (Unmake table)))
      → P (meant infos found (dropped infos dropping))
  drops-come infos found dropping plain unmake =
      meant-is infos found (dropped infos dropping) (drops-are (Comes infos found) infos dropping plain unmake)

  pub describes-come : (infos : List TableInfo) (found : List (List Found)) (name : List ℕ) → ((names : List (List ℕ)) (rows : List Row) → P (Some (Listing names rows)))
      → P (meant infos found (described infos name))
  describes-come infos found name listing =
      meant-is infos found (described infos name) (describes-are (Comes infos found) infos name (λ columns. listing _ _))

  pub explains-come : (infos : List TableInfo) (found : List (List Found)) (query : Query Source) → ((names : List (List ℕ)) (rows : List Row) → P (Some (Listing names rows)))
      → P (meant infos found (explain_analysed infos query))
  explains-come infos found query listing =
      meant-is infos found (explain_analysed infos query) (explains-are (Comes infos found) infos query (λ typed. listing _ _))

  pub shows-come : (infos : List TableInfo) (found : List (List Found)) (what : Show) → P (Some Plain) → P (meant infos found (show_analysed infos what))
  shows-come infos found what plain = meant-is infos found (show_analysed infos what) (shows-are (Comes infos found) infos what plain)

  pub settings-come : (infos : List TableInfo) (found : List (List Found)) (setting : Setting) → P (Some Plain) → P (meant infos found (set_analysed setting))
  settings-come infos found setting plain = meant-is infos found (set_analysed setting) (settings-are (Comes infos found) setting plain)

  pub compacts-come : (infos : List TableInfo) (found : List (List Found)) (compact : Compact)
      → ((table : TableId) (partition : List ℕ) (kind : CompactionKind) → P (Some (Ask table partition kind))) → P (Some PartitionLimit)
      → P (meant infos found (asked infos compact))
  compacts-come infos found compact asks long =
      meant-is infos found (asked infos compact)
      (compacts-are (Comes infos found) infos compact (λ ask. asking-is P ask (λ short. asks ask.table.table _ ask.kind) long))

-- ---- places of names

len-none : {X : Type 0} (p : X → Bool) (xs : List X) → AllByRecursion (λ (x : X). p x ≡ false) xs → position_or_len p xs ≡ length xs
len-none p [] h = refl
len-none p (x ∷ xs) h =
    let rest = len-none p xs h.1 in
    let more : 1 + position_or_len p xs ≡ length (x ∷ xs) = omega (arith, rest) in
    ap (λ b. cond (not b) (1 + position_or_len p xs) 0) h.0 ∙ more

place-none : {X : Type 0} (p : X → Bool) (xs : List X) → AllByRecursion (λ (x : X). p x ≡ false) xs → position p xs ≡ None
place-none p xs h =
    ap (λ n. cond (nat_lt n (length xs)) (Some n) None) (len-none p xs h)
    ∙ ap (λ b. cond b (Some (length xs)) None) (le-ltb (length xs) (length xs) (omega arith))

pub place-first : {X : Type 0} (p : X → Bool) (x : X) (xs : List X) → p x ≡ true → position p (x ∷ xs) ≡ Some 0
place-first p x xs here =
    let first : position_or_len p (x ∷ xs) ≡ 0 = ap (λ b. cond (not b) (1 + position_or_len p xs) 0) here in
    ap (λ n. cond (nat_lt n (length (x ∷ xs))) (Some n) None) first
    ∙ ap (λ b. cond b (Some 0) None) (lt-ltb 0 (length (x ∷ xs)) (omega arith))

first-same : (name : List ℕ) (first seen : Seen) (rest : Option Seen) → (rest ≡ Some seen → pointwise nat_eq seen.info.shape.name name ≡ true)
    → (b : Bool) → pointwise nat_eq first.info.shape.name name ≡ b → cond b (Some first) rest ≡ Some seen
    → pointwise nat_eq seen.info.shape.name name ≡ true
first-same name first seen rest more true is found =
    let same : first ≡ seen = cc in
    ap (λ (s : Seen). pointwise nat_eq s.info.shape.name name) (sym same) ∙ is
first-same name first seen rest more false is found = more found

pub named-same : (name : List ℕ) (tables : List Seen) (seen : Seen) → named name tables ≡ Some seen → pointwise nat_eq seen.info.shape.name name ≡ true
named-same name [] seen e = cc
named-same name (first ∷ tables) seen e =
    first-same name first seen (named name tables) (named-same name tables seen) (pointwise nat_eq first.info.shape.name name) refl e

-- ---- the table that a change names: it is the first of those that the statement names

-- a table of another name
abbrev HasOther : List ℕ → Seen → Type 0
HasOther name seen = pointwise nat_eq seen.info.shape.name name ≡ false

other-by : (name : List ℕ) (seen : Seen) (rest : List Seen) (b : Bool) → pointwise nat_eq seen.info.shape.name name ≡ b
    → cond b (Some seen) (named name rest) ≡ None → (named name rest ≡ None → AllByRecursion (HasOther name) rest)
    → HasOther name seen × AllByRecursion (HasOther name) rest
other-by name seen rest true is none more = cc
other-by name seen rest false is none more = (is, more none)

other-named : (name : List ℕ) (tables : List Seen) → named name tables ≡ None → AllByRecursion (HasOther name) tables
other-named name [] e = tt
other-named name (seen ∷ tables) e = other-by name seen tables (pointwise nat_eq seen.info.shape.name name) refl e (other-named name tables)

module _ (P : Seen → Type 0) where
  first-all : (seen : Seen) (rest : Option Seen) (b : Bool) → P seen → AllByRecursion P (option_to_list rest) → AllByRecursion P (option_to_list (cond b (Some seen) rest))
  first-all seen rest true one more = (one, tt)
  first-all seen rest false one more = more

  found-all : (name : List ℕ) (tables : List Seen) → AllByRecursion P tables → AllByRecursion P (option_to_list (named name tables))
  found-all name [] all = tt
  found-all name (seen ∷ tables) all =
      first-all seen (named name tables) (pointwise nat_eq seen.info.shape.name name) all.0 (found-all name tables all.1)

  all-beside : (xs ys : List Seen) → AllByRecursion P xs → AllByRecursion P ys → AllByRecursion P (xs ++ ys)
  all-beside [] ys all more = more
  all-beside (x ∷ xs) ys all more = (all.0, all-beside xs ys all.1 more)

  all-named : (tables : List Seen) (locks : List Lock) → AllByRecursion P tables → AllByRecursion P (flat_map (named_by tables) locks)
  all-named tables [] all = tt
  all-named tables (lock ∷ locks) all =
      all-beside (named_by tables lock) (flat_map (named_by tables) locks) (found-all lock.name tables all) (all-named tables locks all)

abbrev IsNot : List ℕ → TableInfo → Type 0
IsNot name info = is_table name info ≡ false

others-infos : (name : List ℕ) (tables : List Seen) → AllByRecursion (HasOther name) tables → AllByRecursion (IsNot name) (map info_of tables)
others-infos name [] all = tt
others-infos name (seen ∷ tables) all = (all.0, others-infos name tables all.1)

-- the place is the first, and its table the one of that name
record IsTarget (name : List ℕ) (tables : List Seen) (info : TableInfo) (rows : List Found) : Type 0 where
  seen : Seen
  here : named name tables ≡ Some seen
  info_is : info ≡ seen.info
  rows_are : rows ≡ seen.rows

module _ (name : List ℕ) (tables : List Seen) (rest : List Seen) (info : TableInfo) where
  target-first : (seen : Seen) (n : ℕ) → named name tables ≡ Some seen → n ≡ 0 → slice_get (map info_of (seen ∷ rest)) n ≡ Some info
      → IsTarget name tables info (or_none (slice_get (map found_in (seen ∷ rest)) n))
  target-first seen zero is zeroth found = let same : seen.info ≡ info = cc in record { seen = seen; here = is; info_is = sym same; rows_are = refl }
  target-first seen (suc n) is zeroth found = absurd (omega (arith, zeroth))

  target-by : (o : Option Seen) (place : ℕ) → named name tables ≡ o → (o ≡ None → AllByRecursion (HasOther name) rest)
      → place_of name (map info_of (option_to_list o ++ rest)) ≡ Some place
      → slice_get (map info_of (option_to_list o ++ rest)) place ≡ Some info
      → IsTarget name tables info (or_none (slice_get (map found_in (option_to_list o ++ rest)) place))
  target-by None place is others placed found =
      let none : place_of name (map info_of rest) ≡ None = place-none (is_table name) (map info_of rest) (others-infos name rest (others refl)) in
      let never : None ≡ Some place = sym none ∙ placed in
      cc
  target-by (Some seen) place is others placed found =
      let zeroth : place_of name (map info_of (seen ∷ rest)) ≡ Some 0 =
      place-first (is_table name) seen.info (map info_of rest) (named-same name tables seen is) in
      let same : Some place ≡ Some 0 = sym placed ∙ zeroth in
      let is_zero : place ≡ 0 = cc in
      target-first seen place is is_zero found

target : (name : List ℕ) (tables : List Seen) (locks : List Lock) (place : ℕ) (info : TableInfo)
    → place_of name (map info_of (named_by tables (shared name) ++ flat_map (named_by tables) locks)) ≡ Some place
    → slice_get (map info_of (named_by tables (shared name) ++ flat_map (named_by tables) locks)) place ≡ Some info
    → IsTarget name tables info (or_none (slice_get (map found_in (named_by tables (shared name) ++ flat_map (named_by tables) locks)) place))
target name tables locks place info =
    target-by name tables (flat_map (named_by tables) locks) info (named name tables) place refl
    (λ none. all-named (HasOther name) tables locks (other-named name tables none))

-- ---- rows of a table's types

null-layer : (kind : SqlType) → is_layer_in kind Value-F.Null ≡ true
null-layer type.Null = refl
null-layer type.Boolean = refl
null-layer type.Int = refl
null-layer type.BigInt = refl
null-layer type.Str = refl
null-layer type.Date = refl
null-layer (type.ArrayOf e) = refl

null-of : (kind : SqlType) → is_of kind value.Null ≡ true
null-of kind = ap (is_layer_in kind) (ap out-Value (sym rolls-Null) ∙ out-roll-Value Value-F.Null) ∙ null-layer kind

first-of : (column : Column) (xs : List TypedExpr) (frame : Frame) → is_of column.kind (first_value column xs frame) ≡ true
first-of column [] frame = null-of column.kind
first-of column (x ∷ xs) frame = converted-is_of (value_of x frame) column.kind

row-of : (columns : List Column) (xs : List TypedExpr) (frame : Frame) → AreOf columns (stored_values columns xs frame)
row-of [] xs frame = tt
row-of (column ∷ columns) xs frame = (first-of column xs frame, row-of columns (drop 1 xs) frame)

rows-of : (columns : List Column) (xs : List TypedExpr) (frames : List Frame) → AllByRecursion (IsRowOf columns) (map (stored_row columns xs) frames)
rows-of columns xs [] = tt
rows-of columns xs (frame ∷ frames) = (row-of columns xs frame, rows-of columns xs frames)

-- those of a MERGE

renewed-of : (columns : List Column) (frame : Frame) (act : Option MatchedAction) → AllByRecursion (IsRowOf columns) (renewed_by (stored_row columns) frame act)
renewed-of columns frame None = tt
renewed-of columns frame (Some (action.Update values)) = (row-of columns values frame, tt)
renewed-of columns frame (Some action.Delete) = tt

renewed-rows : (columns : List Column) (clauses : List TypedMatched) (found : Found) (match : Match)
    → AllByRecursion (IsRowOf columns) (renewed_from (stored_row columns) clauses found match)
renewed-rows columns clauses found None = tt
renewed-rows columns clauses found (Some pair) = renewed-of columns (target_frame found ++ pair.0) (acting clauses (target_frame found ++ pair.0))

newcomers-of : (columns : List Column) (newcomers : Option TypedNewcomers) (frames : List Frame)
    → AllByRecursion (IsRowOf columns) (new_rows (stored_row columns) newcomers frames)
newcomers-of columns None frames = tt
newcomers-of columns (Some newcomers) frames = rows-of columns newcomers.values (filter (is_met newcomers.condition) frames)

merged-rows : (columns : List Column) (merge : TypedMerge) (sources : List Frame) (rows : List Found)
    → AllByRecursion (IsRowOf columns) (merge_effect (stored_row columns) merge sources rows).inserts
merged-rows columns merge sources rows =
    all-both (IsRowOf columns) (flat_map (renewed (stored_row columns) merge sources) rows)
    (new_rows (stored_row columns) merge.clauses.newcomers (unmatched merge.on sources rows))
    (all-made (IsRowOf columns) (renewed (stored_row columns) merge sources) rows (λ found. renewed-rows columns merge.clauses.matched found (its_match merge.on sources found)))
    (newcomers-of columns merge.clauses.newcomers (unmatched merge.on sources rows))

-- ---- rows that stand

abbrev never : Found → Bool
never found = false

none-kept : (rows : List Found) → [] ≡ filter never rows
none-kept [] = refl
none-kept (row ∷ rows) = none-kept rows

deleted-stand : (width : ℕ) (gone : Deletes) (rows : List Row) (found : List Found) → AreOfRows found (deleted width gone rows found)
deleted-stand width deletes.Nothing rows found = record { test = never; deletes_are = none-kept found }
deleted-stand width (deletes.Matching condition) rows found = record { test = is_matched condition; deletes_are = refl }
deleted-stand width deletes.Received rows found = record { test = is_received width rows; deletes_are = refl }

-- ---- changes

module _ (tree : Stmt) (tables : List Seen) where
  abbrev Named : Option Meaning → Type 0
  Named (Some (Change info effect)) = ChangesNamed tree tables info effect
  Named _ = Unit {0}

  within-named : (info : TableInfo) (effect : Effect)
      → ((touches : List Touch) → touched info effect ≡ Ok touches → ChangesNamed tree tables info effect) → Named (Some (within_limits info effect))
  within-named info effect h = limits-come Named tt tt info effect h

-- the rows that were found, or none
some-found : (info : TableInfo) (found : Option (List Found)) (rows : Tables) (change : TypedChange)
    → changed_in (Some info) found rows change ≡ changed_in (Some info) (Some (or_none found)) rows change
some-found info None rows change = refl
some-found info (Some those) rows change = refl

effect-named : (tree : Stmt) (tables : List Seen) (name : List ℕ) (all_rows : Tables) → change_name tree ≡ Some name
    → (info : TableInfo) (rows : List Found) (change : TypedChange) → IsTarget name tables info rows
    → Named tree tables (changed_in (Some info) (Some rows) all_rows change)
effect-named tree tables name all_rows names info rows change aim =
    let columns = columns_of info.shape in
    let effect = change_effect info.shape change rows all_rows in
    let all = rows-of columns change.values (frames_from change.origin (matched change.deletes rows) all_rows) in
    within-named tree tables info effect (λ touches is. record {
      seen = aim.seen;
      name = name;
      name_is = names;
      here = aim.here;
      info_is = aim.info_is;
      stand = subst (λ (found : List Found). AreOfRows found effect.deletes) aim.rows_are
          (deleted-stand (length info.shape.columns) change.deletes effect.inserts rows);
      fits = fits-table info effect touches is all;
    })

merge-is : (tree : Stmt) (tables : List Seen) (name : List ℕ) (sources : List Frame) → change_name tree ≡ Some name
    → (info : TableInfo) (rows : List Found) (merge : TypedMerge) → IsTarget name tables info rows
    → Named tree tables (Some (merge_of info rows sources merge))
merge-is tree tables name sources names info rows merge aim =
    let columns = columns_of info.shape in
    let effect = merge_effect (stored_row columns) merge sources rows in
    merges-come (Named tree tables) (λ partition id. tt) tt tt info (twice_found merge sources rows) effect (λ touches is. record {
      seen = aim.seen;
      name = name;
      name_is = names;
      here = aim.here;
      info_is = aim.info_is;
      stand = subst (λ (found : List Found). AreOfRows found effect.deletes) aim.rows_are (record { test = is_taken merge sources; deletes_are = refl });
      fits = fits-table info effect touches is (merged-rows columns merge sources rows);
    })

-- over the target and these other tables
module _ (tree : Stmt) (tables : List Seen) (name : List ℕ) (locks : List Lock) where
  abbrev its : List Seen
  its = named_by tables (shared name) ++ flat_map (named_by tables) locks

  target-named : change_name tree ≡ Some name → (change : TypedChange) → IsChangeOf (map info_of its) name tree change
      → Named tree tables (changed_in (slice_get (map info_of its) change.table) (slice_get (map found_in its) change.table) (tables_of (map found_in its)) change)
  target-named names change is =
      let all_rows = tables_of (map found_in its) in
      let aim = target name tables locks is.place is.info is.named is.here in
      subst (λ (n : ℕ). Named tree tables (changed_in (slice_get (map info_of its) n) (slice_get (map found_in its) n) all_rows change)) (sym is.table)
      (subst (λ (o : Option TableInfo). Named tree tables (changed_in o (slice_get (map found_in its) is.place) all_rows change)) (sym is.here)
      (subst (λ (o : Option Meaning). Named tree tables o) (sym (some-found is.info (slice_get (map found_in its) is.place) all_rows change))
      (effect-named tree tables name all_rows names is.info (or_none (slice_get (map found_in its) is.place)) change aim)))

  change-named : change_name tree ≡ Some name → Named tree tables (meant (map info_of its) (map found_in its) (change_analysed (map info_of its) name tree))
  change-named names =
      meant-is (Named tree tables) tt (λ why. tt) (map info_of its) (map found_in its) (change_analysed (map info_of its) name tree)
      (then-ok (Comes (Named tree tables) tt (λ why. tt) (map info_of its) (map found_in its)) (change_of (map info_of its) name tree) (λ (change : TypedChange). Ok (logic.Change change)) (λ change e.
      target-named names change
      (on_ok (IsChangeOf (map info_of its) name tree) (change_of (map info_of its) name tree) change (changes-are (map info_of its) name tree) e)))

-- of a MERGE
module _ (merge : Merge) (tables : List Seen) (locks : List Lock) where
  abbrev all_of : List Seen
  all_of = named_by tables (shared merge.table) ++ flat_map (named_by tables) locks

  merge-named : (typed : TypedMerge) → IsMergeOf (map info_of all_of) merge.table typed
      → Named (stmt.Merge merge) tables
      (merged_in (slice_get (map info_of all_of) typed.table) (slice_get (map found_in all_of) typed.table) (tables_of (map found_in all_of)) typed)
  merge-named typed is =
      let found = map found_in all_of in
      let sources = source_frames typed.source (tables_of found) in
      let aim = target merge.table tables locks is.place is.info is.named is.here in
      subst (λ (n : ℕ). Named (stmt.Merge merge) tables (merged_in (slice_get (map info_of all_of) n) (slice_get found n) (tables_of found) typed)) (sym is.table)
      (subst (λ (o : Option TableInfo). Named (stmt.Merge merge) tables (merged_in o (slice_get found is.place) (tables_of found) typed)) (sym is.here)
      (merge-is (stmt.Merge merge) tables merge.table sources refl is.info (or_none (slice_get found is.place)) typed aim))

  merges-named : Named (stmt.Merge merge) tables (meant (map info_of all_of) (map found_in all_of) (merge_analysed (map info_of all_of) merge))
  merges-named =
      let infos = map info_of all_of in
      let found = map found_in all_of in
      let N = Named (stmt.Merge merge) tables in
      meant-is N tt (λ why. tt) infos found (merge_analysed infos merge)
      (then-ok (Comes N tt (λ why. tt) infos found) (merged infos merge) (λ (typed : TypedMerge). Ok (logic.Merge typed)) (λ typed e.
      merge-named typed (on_ok (IsMergeOf infos merge.table) (merged infos merge) typed (merges-are infos merge) e)))

named-form : (tree : Stmt) (tables : List Seen)
    → Named tree tables (meant (map info_of (its_tables tree tables)) (map found_in (its_tables tree tables)) (form_analysed (map info_of (its_tables tree tables)) tree))
unfolding form_analysed
named-form (stmt.Query query) tables = queries-come (Named (stmt.Query query) tables) tt (λ why. tt) _ _ query (λ names rows. tt)
named-form (stmt.Insert insert) tables = change-named (stmt.Insert insert) tables insert.table (rows_names insert.rows) refl
named-form (stmt.Update update) tables = change-named (stmt.Update update) tables update.table [] refl
named-form (stmt.Delete delete) tables = change-named (stmt.Delete delete) tables delete.table [] refl
named-form (stmt.Merge merge) tables = merges-named merge tables (source_names merge.source)
named-form (stmt.Truncate truncate) tables = change-named (stmt.Truncate truncate) tables truncate.table [] refl
named-form (stmt.CreateTable create) tables =
    let N = Named (stmt.CreateTable create) tables in
    let infos = map info_of (its_tables (stmt.CreateTable create) tables) in
    let found = map found_in (its_tables (stmt.CreateTable create) tables) in
    meant-is N tt (λ why. tt) infos found (created infos create) (creates-are (Comes N tt (λ why. tt) infos found) infos create tt tt)
named-form (stmt.DropTable dropping) tables = drops-come (Named (stmt.DropTable dropping) tables) tt (λ why. tt) _ _ dropping tt (λ table. tt)
named-form (stmt.Describe table) tables =
    describes-come (Named (stmt.Describe table) tables) tt (λ why. tt) _ _ table (λ names rows. tt)
named-form (stmt.Compact compact) tables =
    let own = its_tables (stmt.Compact compact) tables in
    compacts-come (Named (stmt.Compact compact) tables) tt (λ why. tt) (map info_of own) (map found_in own) compact (λ table partition kind. tt) tt
named-form (stmt.Show what) tables =
    let own = its_tables (stmt.Show what) tables in
    shows-come (Named (stmt.Show what) tables) tt (λ why. tt) (map info_of own) (map found_in own) what tt
named-form (stmt.Set setting) tables =
    let own = its_tables (stmt.Set setting) tables in
    settings-come (Named (stmt.Set setting) tables) tt (λ why. tt) (map info_of own) (map found_in own) setting tt
named-form (stmt.Explain query) tables = explains-come (Named (stmt.Explain query) tables) tt (λ why. tt) _ _ query (λ names rows. tt)
named-form other tables = tt

named-all : (tree : Stmt) (tables : List Seen) → Named tree tables (meaning_of tables tree)
unfolding meaning_in
named-all tree tables = form-is (Named tree tables) tt (λ why. tt) tree (map info_of (its_tables tree tables)) (map found_in (its_tables tree tables)) (named-form tree tables)

pub changes-named : ChangesAreNamed
changes-named tree tables info effect e = subst (Named tree tables) e (named-all tree tables)

-- ---- changes, over whatever tables are seen

abbrev SeenOf : List Seen → Option Meaning → Type 0
SeenOf tables (Some (Change info effect)) = ChangesSeen tables info effect
SeenOf tables _ = Unit {0}

within-seen : (tables : List Seen) (info : TableInfo) (effect : Effect)
    → ((touches : List Touch) → touched info effect ≡ Ok touches → ChangesSeen tables info effect) → SeenOf tables (Some (within_limits info effect))
within-seen tables info effect h = limits-come (SeenOf tables) tt tt info effect h

pub get-mapped : {A B : Type 0} (f : A → B) (xs : List A) (n : ℕ) → slice_get (map f xs) n ≡ option_map f (slice_get xs n)
get-mapped f [] n = refl
get-mapped f (x ∷ xs) zero = refl
get-mapped f (x ∷ xs) (suc n) = get-mapped f xs n

effect-seen : (tables : List Seen) (place : ℕ) (all_rows : Tables) (change : TypedChange) (o : Option Seen) → slice_get tables place ≡ o
    → SeenOf tables (changed_in (option_map info_of o) (option_map found_in o) all_rows change)
effect-seen tables place all_rows change None at = tt
effect-seen tables place all_rows change (Some seen) at =
    let columns = columns_of seen.info.shape in
    let effect = change_effect seen.info.shape change seen.rows all_rows in
    let all = rows-of columns change.values (frames_from change.origin (matched change.deletes seen.rows) all_rows) in
    within-seen tables seen.info effect (λ touches is. record {
      place = place;
      seen = seen;
      here = at;
      info_is = refl;
      stand = deleted-stand (length seen.info.shape.columns) change.deletes effect.inserts seen.rows;
      fits = fits-table seen.info effect touches is all;
    })

merge-seen : (tables : List Seen) (place : ℕ) (rows : Tables) (merge : TypedMerge) (o : Option Seen) → slice_get tables place ≡ o
    → SeenOf tables (merged_in (option_map info_of o) (option_map found_in o) rows merge)
merge-seen tables place rows merge None at = tt
merge-seen tables place rows merge (Some seen) at =
    let columns = columns_of seen.info.shape in
    let sources = source_frames merge.source rows in
    let effect = merge_effect (stored_row columns) merge sources seen.rows in
    merges-come (SeenOf tables) (λ partition id. tt) tt tt seen.info (twice_found merge sources seen.rows) effect (λ touches is. record {
      place = place;
      seen = seen;
      here = at;
      info_is = refl;
      stand = record { test = is_taken merge sources; deletes_are = refl };
      fits = fits-table seen.info effect touches is (merged-rows columns merge sources seen.rows);
    })

any-seen : (tables : List Seen) (r : Result Logic Refusal) → SeenOf tables (meant (map info_of tables) (map found_in tables) r)
any-seen tables (Ok (logic.Query query)) = tt
any-seen tables (Ok (logic.Change change)) =
    let all_rows = tables_of (map found_in tables) in
    subst (λ (o : Option TableInfo). SeenOf tables (changed_in o (slice_get (map found_in tables) change.table) all_rows change))
    (sym (get-mapped info_of tables change.table))
    (subst (λ (o : Option (List Found)). SeenOf tables (changed_in (option_map info_of (slice_get tables change.table)) o all_rows change))
    (sym (get-mapped found_in tables change.table))
    (effect-seen tables change.table all_rows change (slice_get tables change.table) refl))
any-seen tables (Ok (logic.Merge merge)) =
    let all_rows = tables_of (map found_in tables) in
    subst (λ (o : Option TableInfo). SeenOf tables (merged_in o (slice_get (map found_in tables) merge.table) all_rows merge))
    (sym (get-mapped info_of tables merge.table))
    (subst (λ (o : Option (List Found)). SeenOf tables (merged_in (option_map info_of (slice_get tables merge.table)) o all_rows merge))
    (sym (get-mapped found_in tables merge.table))
    (merge-seen tables merge.table all_rows merge (slice_get tables merge.table) refl))
any-seen tables (Ok (logic.Make shape)) = tt
any-seen tables (Ok (logic.Unmake table)) = tt
any-seen tables (Ok logic.Nothing) = tt
any-seen tables (Ok (logic.Describe columns)) = tt
any-seen tables (Ok (logic.Explain query)) = tt
any-seen tables (Ok (logic.Ask ask)) = asking-is (SeenOf tables) ask (λ short. tt) tt
any-seen tables (Err why) = refused-is (SeenOf tables) tt (λ other. tt) why

pub changes-seen : ChangesAreSeen
unfolding meaning_in
changes-seen tree tables info effect e = subst (SeenOf tables) e (any-seen tables (analysed (map info_of tables) tree))

-- ---- INSERT INTO deletes nothing

abbrev Keeps : Option Meaning → Type 0
Keeps (Some (Change info effect)) = effect.deletes ≡ []
Keeps _ = Unit {0}

within-keeps : (info : TableInfo) (effect : Effect) → effect.deletes ≡ [] → Keeps (Some (within_limits info effect))
within-keeps info effect h = limits-come Keeps tt tt info effect (λ touches is. h)

change-keeps : (info : Option TableInfo) (found : Option (List Found)) (tables : Tables) (change : TypedChange) → change.deletes ≡ deletes.Nothing
    → Keeps (changed_in info found tables change)
change-keeps None found tables change none = tt
change-keeps (Some info) found tables change none =
    within-keeps info (change_effect info.shape change (or_none found) tables)
    (ap (λ (gone : Deletes). deleted (length info.shape.columns) gone (change_effect info.shape change (or_none found) tables).inserts (or_none found)) none)

abbrev GoesNothing : TypedChange → Type 0
GoesNothing change = change.deletes ≡ deletes.Nothing

not-true : (b : Bool) → not b ≡ true → b ≡ false
not-true true e = cc
not-true false e = refl

insert-keeps : (tables : List TableInfo) (place : ℕ) (shape : Shape) (insert : Insert) → not insert.overwrite ≡ true
    → OnOk GoesNothing (changing tables place shape (stmt.Insert insert))
unfolding changing
insert-keeps tables place shape insert into =
    inserts-are GoesNothing tables place shape insert (λ gone values o none is. subst (λ b. IsGone b gone) (not-true insert.overwrite into) none)

keeps-change : (infos : List TableInfo) (found : List (List Found)) (insert : Insert) → not insert.overwrite ≡ true
    → Keeps (meant infos found (change_analysed infos insert.table (stmt.Insert insert)))
keeps-change infos found insert into =
    meant-is Keeps tt (λ why. tt) infos found (change_analysed infos insert.table (stmt.Insert insert))
    (then-ok (Comes Keeps tt (λ why. tt) infos found) (change_of infos insert.table (stmt.Insert insert)) (λ (change : TypedChange). Ok (logic.Change change)) (λ change e.
    let is = on_ok (IsChangeOf infos insert.table (stmt.Insert insert)) (change_of infos insert.table (stmt.Insert insert)) change (changes-are infos insert.table (stmt.Insert insert)) e in
    change-keeps (slice_get infos change.table) (slice_get found change.table) (tables_of found) change
    (on_ok GoesNothing (changing infos is.place is.info.shape (stmt.Insert insert)) change (insert-keeps infos is.place is.info.shape insert into) is.is)))

keeps-form : (tree : Stmt) (infos : List TableInfo) (found : List (List Found)) → only_inserts tree ≡ true → Keeps (meant infos found (form_analysed infos tree))
unfolding form_analysed
keeps-form (stmt.Insert insert) infos found e = keeps-change infos found insert e
keeps-form other infos found e = cc

pub inserts-keep : InsertsDeleteNothing
unfolding meaning_in
inserts-keep tree tables info effect only e =
    subst Keeps e
    (form-is Keeps tt (λ why. tt) tree (map info_of (its_tables tree tables)) (map found_in (its_tables tree tables))
    (keeps-form tree (map info_of (its_tables tree tables)) (map found_in (its_tables tree tables)) only))

-- ---- new tables

abbrev MakesAt : Stmt → List Seen → Option Meaning → Type 0
MakesAt tree tables (Some (Make shape)) = MakesNew tree tables shape
MakesAt tree tables _ = Unit {0}

abbrev pub infos_of : Option Seen → List TableInfo
infos_of found = map info_of (option_to_list found ++ [])

none-of : (b : Bool) (why : Refusal) (rest : Option Refusal) → cond b (Some why) rest ≡ None → (b ≡ false) × (rest ≡ None)
none-of true why rest e = cc
none-of false why rest e = (refl, e)

not-false : (b : Bool) → not b ≡ false → b ≡ true
not-false true e = refl
not-false false e = cc

-- what has no fault has at most 64 columns
few-columns : (exists : Bool) (create : CreateTable) → fault_of exists create ≡ None → length (columns_of (shape_of create)) ≤ 64
few-columns exists create e =
    let named = (none-of (exists && not create.if_absent) refusal.TableExists _ e).1 in
    let apart = (none-of (names_repeat create) refusal.Ambiguous _ named).1 in
    let buckets = (none-of (not (list_all (is_bucket_column create.columns) (bucket_names create.clustering))) refusal.NoColumn _ apart).1 in
    let types = (none-of (arrays_route create) refusal.BadType _ buckets).1 in
    let fit = not-false (numbers_fit create) (none-of (not (numbers_fit create)) refusal.Limit _ types).0 in
    let most = leb-true (length create.columns + length create.partitions) 64 (both (nat_le (length create.columns + length create.partitions) 64) _ fit).0 in
    let whole = length-append (map column_of create.columns) (map column_of create.partitions) in
    let columns = length-map create.columns column_of in
    let parts = length-map create.partitions column_of in
    omega (arith, most, whole, columns, parts)

-- nor an ARRAY among its partition columns
flat-parts : (exists : Bool) (create : CreateTable) → fault_of exists create ≡ None → AreFlat (shape_of create).parts
flat-parts exists create e =
    let named = (none-of (exists && not create.if_absent) refusal.TableExists _ e).1 in
    let apart = (none-of (names_repeat create) refusal.Ambiguous _ named).1 in
    let buckets = (none-of (not (list_all (is_bucket_column create.columns) (bucket_names create.clustering))) refusal.NoColumn _ apart).1 in
    let flat = (none-of (arrays_route create) refusal.BadType _ buckets).0 in
    flat-columns create.partitions
    (neither (list_any has_array create.partitions) (list_any (is_array_named create.columns) (bucket_names create.clustering)) flat).0

create-comes : (create : CreateTable) (tables : List Seen) (rows : List (List Found)) (found : Option Seen) → named create.table tables ≡ found
    → OnOk (Comes (MakesAt (stmt.CreateTable create) tables) tt (λ why. tt) (infos_of found) rows)
    (created_beside (is_some (place_of create.table (infos_of found))) create)
create-comes create tables rows None is =
    makes (Comes (MakesAt (stmt.CreateTable create) tables) tt (λ why. tt) (infos_of None) rows) (fault_of false create) (logic.Make (shape_of create))
    (λ none. record { create = create; tree_is = refl; absent = is; shape_is = refl; few = few-columns false create none; flat = flat-parts false create none })
create-comes create tables rows (Some seen) is =
    let Q = Comes (MakesAt (stmt.CreateTable create) tables) tt (λ why. tt) (infos_of (Some seen)) rows in
    subst (λ (b : Bool). OnOk Q (created_beside b create))
    (sym (ap is_some (place-first (is_table create.table) seen.info [] (named-same create.table tables seen is))))
    (makes Q (fault_of true create) logic.Nothing (λ none. tt))

changed-makes : (tree : Stmt) (tables : List Seen) (info : Option TableInfo) (found : Option (List Found)) (rows : Tables) (change : TypedChange)
    → MakesAt tree tables (changed_in info found rows change)
changed-makes tree tables None found rows change = tt
changed-makes tree tables (Some info) found rows change =
    limits-come (MakesAt tree tables) tt tt info (change_effect info.shape change (or_none found) rows) (λ touches is. tt)

change-makes : (tree : Stmt) (tables : List Seen) (infos : List TableInfo) (found : List (List Found)) (name : List ℕ) (said : Stmt)
    → MakesAt tree tables (meant infos found (change_analysed infos name said))
change-makes tree tables infos found name said =
    meant-is (MakesAt tree tables) tt (λ why. tt) infos found (change_analysed infos name said)
    (then-ok (Comes (MakesAt tree tables) tt (λ why. tt) infos found) (change_of infos name said) (λ (change : TypedChange). Ok (logic.Change change)) (λ change e.
    changed-makes tree tables (slice_get infos change.table) (slice_get found change.table) (tables_of found) change))

merge-makes-in : (tree : Stmt) (tables : List Seen) (info : Option TableInfo) (found : Option (List Found)) (rows : Tables) (merge : TypedMerge)
    → MakesAt tree tables (merged_in info found rows merge)
merge-makes-in tree tables None found rows merge = tt
merge-makes-in tree tables (Some info) found rows merge =
    let sources = source_frames merge.source rows in
    merges-come (MakesAt tree tables) (λ partition id. tt) tt tt info (twice_found merge sources (or_none found))
    (merge_effect (stored_row (columns_of info.shape)) merge sources (or_none found)) (λ touches is. tt)

merge-makes : (merge : Merge) (tables : List Seen) (infos : List TableInfo) (found : List (List Found))
    → MakesAt (stmt.Merge merge) tables (meant infos found (merge_analysed infos merge))
merge-makes merge tables infos found =
    let M = MakesAt (stmt.Merge merge) tables in
    meant-is M tt (λ why. tt) infos found (merge_analysed infos merge)
    (then-ok (Comes M tt (λ why. tt) infos found) (merged infos merge) (λ (typed : TypedMerge). Ok (logic.Merge typed)) (λ typed e.
    merge-makes-in (stmt.Merge merge) tables (slice_get infos typed.table) (slice_get found typed.table) (tables_of found) typed))

makes-form : (tree : Stmt) (tables : List Seen)
    → MakesAt tree tables (meant (map info_of (its_tables tree tables)) (map found_in (its_tables tree tables)) (form_analysed (map info_of (its_tables tree tables)) tree))
unfolding form_analysed created
makes-form (stmt.Query query) tables = queries-come (MakesAt (stmt.Query query) tables) tt (λ why. tt) _ _ query (λ names rows. tt)
makes-form (stmt.Insert insert) tables = change-makes (stmt.Insert insert) tables _ _ insert.table (stmt.Insert insert)
makes-form (stmt.Update update) tables = change-makes (stmt.Update update) tables _ _ update.table (stmt.Update update)
makes-form (stmt.Delete delete) tables = change-makes (stmt.Delete delete) tables _ _ delete.table (stmt.Delete delete)
makes-form (stmt.Merge merge) tables = merge-makes merge tables _ _
makes-form (stmt.Truncate truncate) tables = change-makes (stmt.Truncate truncate) tables _ _ truncate.table (stmt.Truncate truncate)
makes-form (stmt.CreateTable create) tables =
    let infos = map info_of (its_tables (stmt.CreateTable create) tables) in
    let found = map found_in (its_tables (stmt.CreateTable create) tables) in
    meant-is (MakesAt (stmt.CreateTable create) tables) tt (λ why. tt) infos found (created infos create)
    (create-comes create tables found (named create.table tables) refl)
makes-form (stmt.DropTable dropping) tables = drops-come (MakesAt (stmt.DropTable dropping) tables) tt (λ why. tt) _ _ dropping tt (λ table. tt)
makes-form (stmt.Describe table) tables =
    describes-come (MakesAt (stmt.Describe table) tables) tt (λ why. tt) _ _ table (λ names rows. tt)
makes-form (stmt.Compact compact) tables =
    let own = its_tables (stmt.Compact compact) tables in
    compacts-come (MakesAt (stmt.Compact compact) tables) tt (λ why. tt) (map info_of own) (map found_in own) compact (λ table partition kind. tt) tt
makes-form (stmt.Show what) tables =
    let own = its_tables (stmt.Show what) tables in
    shows-come (MakesAt (stmt.Show what) tables) tt (λ why. tt) (map info_of own) (map found_in own) what tt
makes-form (stmt.Set setting) tables =
    let own = its_tables (stmt.Set setting) tables in
    settings-come (MakesAt (stmt.Set setting) tables) tt (λ why. tt) (map info_of own) (map found_in own) setting tt
makes-form (stmt.Explain query) tables = explains-come (MakesAt (stmt.Explain query) tables) tt (λ why. tt) _ _ query (λ names rows. tt)
makes-form other tables = tt

makes-all : (tree : Stmt) (tables : List Seen) → MakesAt tree tables (meaning_of tables tree)
unfolding meaning_in
makes-all tree tables =
    form-is (MakesAt tree tables) tt (λ why. tt) tree (map info_of (its_tables tree tables)) (map found_in (its_tables tree tables)) (makes-form tree tables)

pub tables-new : TablesAreNew
tables-new tree tables shape e = subst (MakesAt tree tables) e (makes-all tree tables)
