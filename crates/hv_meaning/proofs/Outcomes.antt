-- What analysis can give, form by form.
use Rattle.std.proofs.Common.{◌≡◌, ℕ, Bool, true, false, cond, ◌==◌, List, map, slice_get, length, Option, Some, None, Result, Ok, Err, refl, subst}
use Rattle.std.specs.Prelude.{nat_le}
use Rattle.std.specs.List.{list_all}
use Rattle.hv_base.specs.declared.ids.TableId.{TableId}
use Rattle.hv_base.specs.declared.refusal.Refusal.{Refusal}
use Rattle.hv_base.specs.declared.refusal.Refusal.TheVariants as refusal
use Rattle.hv_ast.specs.declared.change.Delete.{Delete}
use Rattle.hv_ast.specs.declared.change.Insert.{Insert}
use Rattle.hv_ast.specs.declared.change.PartitionItem.{PartitionItem}
use Rattle.hv_ast.specs.declared.change.Rows.{Rows}
use Rattle.hv_ast.specs.declared.change.Rows.TheVariants as source_rows
use Rattle.hv_ast.specs.declared.change.Truncate.{Truncate}
use Rattle.hv_ast.specs.declared.change.Update.{Update}
use Rattle.hv_ast.specs.declared.query.Query.{Query}
use Rattle.hv_ast.specs.declared.query.Source.{Source}
use Rattle.hv_ast.specs.declared.statement.Setting.{Setting}
use Rattle.hv_ast.specs.declared.statement.Show.{Show}
use Rattle.hv_ast.specs.declared.statement.Show.TheVariants as show
use Rattle.hv_ast.specs.declared.statement.Stmt.{Stmt}
use Rattle.hv_ast.specs.declared.statement.Stmt.TheVariants as stmt
use Rattle.hv_ast.specs.declared.table.Compact.{Compact}
use Rattle.hv_ast.specs.declared.table.CreateTable.{CreateTable}
use Rattle.hv_ast.specs.declared.table.DropTable.{DropTable}
use Rattle.hv_typing.specs.hv_expr.specs.declared.tree.TypedExpr.{TypedExpr}
use Rattle.hv_value.specs.declared.sql_type.SqlType.{SqlType}
use Rattle.hv_typing.specs.hv_logic.specs.declared.catalog.Column.{Column}
use Rattle.hv_typing.specs.hv_logic.specs.declared.catalog.Shape.{Shape}
use Rattle.hv_typing.specs.hv_logic.specs.declared.catalog.TableInfo.{TableInfo}
use Rattle.hv_typing.specs.hv_logic.specs.Shapes.{shape_of}
use Rattle.hv_typing.specs.hv_logic.specs.declared.meaning.Meaning.{Meaning}
use Rattle.hv_typing.specs.hv_logic.specs.declared.meaning.Meaning.TheVariants.{Ask, PartitionLimit}
use Rattle.hv_route.specs.Touching.{text_limit}
use Rattle.hv_typing.specs.Faults.{and_then}
use Rattle.hv_typing.specs.Sources.{filter_typed}
use Rattle.hv_typing.specs.declared.asks.TypedAsk.{TypedAsk}
use Rattle.hv_typing.specs.declared.change.Deletes.{Deletes}
use Rattle.hv_typing.specs.declared.change.Deletes.TheVariants as deletes
use Rattle.hv_typing.specs.declared.change.Origin.{Origin}
use Rattle.hv_typing.specs.declared.change.Origin.TheVariants as origin
use Rattle.hv_typing.specs.declared.change.TypedChange.{TypedChange}
use Rattle.hv_typing.specs.declared.tree.TypedQuery.{TypedQuery}
use Rattle.hv_typing.specs.declared.tree.TypedSource.{TypedSource}
use Rattle.hv_typing.specs.Analysis.{explain_analysed}
use Rattle.hv_typing.specs.Columns.{columns_of, fields_of, kinds_of}
use Rattle.hv_typing.specs.Inserts.{is_empty, rows_typed, has_count, converts, converted_row, output_kind, outputs_convert, values_for, overwritten, insert_of, insert_typed, if_convertible, values_inserted, query_inserted}
use Rattle.hv_typing.specs.Targets.{targets_of}
use Rattle.hv_typing.specs.Updates.{sets_of, update_of, updated, delete_of, deleted, partitions_met, truncated}
use Rattle.hv_typing.specs.declared.logic.Logic.{Logic}
use Rattle.hv_typing.specs.declared.logic.Logic.TheVariants as logic
use Rattle.hv_typing.specs.Creates.{place_of, created, created_beside, made, unless_fault, fault_of}
use Rattle.hv_typing.specs.Drops.{dropped, dropped_as, dropped_at}
use Rattle.hv_typing.specs.Descriptions.{described, described_as, described_at}
use Rattle.hv_typing.specs.Shows.{partitions_as, partitions_at, partitions_shown, show_analysed}
use Rattle.hv_typing.specs.Settings.{set_analysed, takes_value}
use Rattle.hv_typing.specs.Asks.{list_typed, asked_of, asked_as, asked_at, asked}
use Rattle.hv_typing.specs.Changes.{source_inserted, inserted, changing, changing_table, changing_at, change_of}
use Rattle.hv_typing.specs.Subqueries.{selected}
use Rattle.hv_meaning.specs.Meaning.{asked_partition, asking}

-- ---- a fact of what is Ok

module _ {A : Type 0} (P : A → Type 0) where
  abbrev pub OnOk : Result A Refusal → Type 0
  OnOk (Ok a) = P a
  OnOk (Err why) = Unit {0}

  pub on_ok : (r : Result A Refusal) (a : A) → OnOk r → r ≡ Ok a → P a
  on_ok r a h e = subst OnOk e h

-- what follows, where each step gives it
pub then-ok : {A B : Type 0} (P : B → Type 0) (r : Result A Refusal) (next : A → Result B Refusal)
    → ((a : A) → r ≡ Ok a → OnOk P (next a)) → OnOk P (and_then r next)
then-ok P (Ok a) next h = h a refl
then-ok P (Err why) next h = tt

pub if-ok : {A : Type 0} (P : A → Type 0) (b : Bool) (r : Result A Refusal) (why : Refusal) → (b ≡ true → OnOk P r) → OnOk P (cond b r (Err why))
if-ok P true r why h = h refl
if-ok P false r why h = tt

-- ---- what an INSERT, an UPDATE, a DELETE and a TRUNCATE can come to

-- INSERT INTO deletes nothing
abbrev pub IsGone : Bool → Deletes → Type 0
IsGone true gone = Unit {0}
IsGone false gone = gone ≡ deletes.Nothing

any-gone : (r : Result Deletes Refusal) → OnOk (IsGone true) r
any-gone (Ok gone) = tt
any-gone (Err why) = tt

gone-is : (overwrite : Bool) (shape : Shape) (items : List PartitionItem) → OnOk (IsGone overwrite) (overwritten overwrite shape items)
unfolding overwritten
gone-is true shape items = any-gone _
gone-is false shape items = refl

-- the rows of VALUES are over no row
abbrev pub IsFrom : Rows → Origin → Type 0
IsFrom (source_rows.Values values) o = (rows : List (List TypedExpr)) × (o ≡ origin.Values rows)
IsFrom (source_rows.Query query) o = Unit {0}

module _ (P : TypedChange → Type 0) (tables : List TableInfo) (place : ℕ) (shape : Shape) where
  abbrev Inserts : Insert → Rows → Type 0
  Inserts insert r = (gone : Deletes) (values : List TypedExpr) (o : Origin) → IsGone insert.overwrite gone → IsFrom r o → P (insert_of place gone values o)

  typed-is : (insert : Insert) (targets : List Column) (kinds : List SqlType) (o : Origin)
      → ((gone : Deletes) (values : List TypedExpr) → IsGone insert.overwrite gone → P (insert_of place gone values o))
      → OnOk P (insert_typed place shape insert targets kinds o)
  unfolding insert_typed
  typed-is insert targets kinds o each =
      then-ok P (values_for insert.partition targets kinds (columns_of shape)) _ (λ values e.
      then-ok P (overwritten insert.overwrite shape insert.partition) _ (λ gone f.
      each gone values (on_ok (IsGone insert.overwrite) (overwritten insert.overwrite shape insert.partition) gone (gone-is insert.overwrite shape insert.partition) f)))

  convertible-is : (r : Result TypedChange Refusal) (b : Bool) → OnOk P r → OnOk P (and_then r (if_convertible b))
  convertible-is (Ok change) b h = if-ok P b (Ok change) refusal.BadType (λ e. h)
  convertible-is (Err why) b h = tt

  source-is : (insert : Insert) (r : Rows) (targets : List Column) → Inserts insert r → OnOk P (source_inserted tables place shape insert r targets)
  unfolding source_inserted values_inserted query_inserted
  source-is insert (source_rows.Values values) targets each =
      then-ok P (rows_typed values) _ (λ typed e.
      if-ok P (list_all (has_count (length targets)) typed) _ refusal.BadCount (λ counts.
      let o = origin.Values (map (converted_row targets) typed) in
      convertible-is (insert_typed place shape insert targets (kinds_of targets) o) (list_all (converts targets) typed)
      (typed-is insert targets (kinds_of targets) o (λ gone made is. each gone made o is (map (converted_row targets) typed, refl)))))
  source-is insert (source_rows.Query query) targets each =
      then-ok P (selected tables query) _ (λ typed e.
      if-ok P (length typed.columns == length targets) _ refusal.BadCount (λ counts.
      convertible-is (insert_typed place shape insert targets (map output_kind typed.columns) (origin.Query typed)) (outputs_convert targets typed.columns)
      (typed-is insert targets (map output_kind typed.columns) (origin.Query typed) (λ gone made is. each gone made (origin.Query typed) is tt))))

  pub inserts-are : (insert : Insert) → Inserts insert insert.rows → OnOk P (inserted tables place shape insert)
  unfolding inserted
  inserts-are insert each = then-ok P (targets_of shape insert.partition insert.columns) _ (λ targets e. source-is insert insert.rows targets each)

  pub updates-are : (update : Update) → ((values : List TypedExpr) (filter : Option TypedExpr) → P (update_of place values filter)) → OnOk P (updated place shape update)
  unfolding updated
  updates-are update each =
      then-ok P (sets_of shape (columns_of shape) update.assignments) _ (λ values e.
      then-ok P (filter_typed (fields_of shape) update.filter) _ (λ filter f. each values filter))

  pub deletes-are : (delete : Delete) → ((filter : Option TypedExpr) → P (delete_of place filter)) → OnOk P (deleted place shape delete)
  unfolding deleted
  deletes-are delete each = then-ok P (filter_typed (fields_of shape) delete.filter) _ (λ filter e. each filter)

  pub truncates-are : (truncate : Truncate) → ((condition : Option TypedExpr) → P (delete_of place condition)) → OnOk P (truncated place shape truncate)
  unfolding truncated
  truncates-are truncate each = then-ok P (partitions_met shape truncate.partition) _ (λ condition e. each condition)

-- a change is of its table
abbrev IsAt : ℕ → TypedChange → Type 0
IsAt place change = change.table ≡ place

pub changes-at : (tables : List TableInfo) (place : ℕ) (shape : Shape) (tree : Stmt) → OnOk (λ (change : TypedChange). change.table ≡ place) (changing tables place shape tree)
unfolding changing
changes-at tables place shape (stmt.Insert insert) = inserts-are (IsAt place) tables place shape insert (λ gone values o none is. refl)
changes-at tables place shape (stmt.Update update) = updates-are (IsAt place) tables place shape update (λ values filter. refl)
changes-at tables place shape (stmt.Delete delete) = deletes-are (IsAt place) tables place shape delete (λ filter. refl)
changes-at tables place shape (stmt.Truncate truncate) = truncates-are (IsAt place) tables place shape truncate (λ condition. refl)
changes-at tables place shape other = tt

-- a change of the table of that name
pub record IsChangeOf (tables : List TableInfo) (name : List ℕ) (tree : Stmt) (change : TypedChange) : Type 0 where
  pub place : ℕ
  pub info : TableInfo
  pub named : place_of name tables ≡ Some place
  pub here : slice_get tables place ≡ Some info
  pub table : change.table ≡ place
  pub is : changing tables place info.shape tree ≡ Ok change

pub changes-are : (tables : List TableInfo) (name : List ℕ) (tree : Stmt) → OnOk (IsChangeOf tables name tree) (change_of tables name tree)
unfolding change_of
changes-are tables name tree = at (place_of name tables) refl
  where
    only : (place : ℕ) (info : TableInfo) → place_of name tables ≡ Some place → slice_get tables place ≡ Some info
        → (r : Result TypedChange Refusal) → changing tables place info.shape tree ≡ r → OnOk (λ (change : TypedChange). change.table ≡ place) r
        → OnOk (IsChangeOf tables name tree) r
    only place info named here (Ok change) is table = record { place = place; info = info; named = named; here = here; table = table; is = is }
    only place info named here (Err why) is table = tt

    into : (place : ℕ) (info : Option TableInfo) → place_of name tables ≡ Some place → slice_get tables place ≡ info
        → OnOk (IsChangeOf tables name tree) (changing_table tables tree place info)
    into place None named here = tt
    into place (Some info) named here =
        only place info named here (changing tables place info.shape tree) refl (changes-at tables place info.shape tree)

    at : (place : Option ℕ) → place_of name tables ≡ place → OnOk (IsChangeOf tables name tree) (changing_at tables tree place)
    at None named = tt
    at (Some place) named = into place (slice_get tables place) named refl

-- ---- what a CREATE TABLE can come to

module _ (P : Logic → Type 0) where
  pub makes : (fault : Option Refusal) (made : Logic) → (fault ≡ None → P made) → OnOk P (unless_fault fault made)
  makes None made h = h refl
  makes (Some why) made h = tt

  pub creates-are : (tables : List TableInfo) (create : CreateTable) → P logic.Nothing → P (logic.Make (shape_of create)) → OnOk P (created tables create)
  unfolding created
  creates-are tables create nothing make = by _
    where
      by : (exists : Bool) → OnOk P (created_beside exists create)
      by true = makes (fault_of true create) logic.Nothing (λ none. nothing)
      by false = makes (fault_of false create) (logic.Make (shape_of create)) (λ none. make)

-- ---- what a DROP TABLE can come to

module _ (P : Logic → Type 0) where
  -- over the table that its name has
  pub dropped-is : (if_exists : Bool) (info : Option TableInfo) → P logic.Nothing → ((table : TableId) → P (logic.Unmake table))
      → OnOk P (dropped_as if_exists info)
  dropped-is if_exists None nothing each = if-ok P if_exists (Ok logic.Nothing) refusal.NoTable (λ exists. nothing)
  dropped-is if_exists (Some info) nothing each = each info.table

  pub drops-are : (tables : List TableInfo) (drop : DropTable) → P logic.Nothing → ((table : TableId) → P (logic.Unmake table))
      → OnOk P (dropped tables drop)
  unfolding dropped
  drops-are tables drop nothing each = at (place_of drop.table tables)
    where
      at : (place : Option ℕ) → OnOk P (dropped_at tables drop.if_exists place)
      at None = dropped-is drop.if_exists None nothing each
      at (Some place) = dropped-is drop.if_exists (slice_get tables place) nothing each

-- ---- what a DESCRIBE, an EXPLAIN, a SHOW and a SET can come to

module _ (P : Logic → Type 0) where
  pub describes-are : (tables : List TableInfo) (name : List ℕ) → ((columns : List Column) → P (logic.Describe columns)) → OnOk P (described tables name)
  unfolding described
  describes-are tables name each = at (place_of name tables)
    where
      told : (info : Option TableInfo) → OnOk P (described_as info)
      told None = tt
      told (Some info) = each (columns_of info.shape)

      at : (place : Option ℕ) → OnOk P (described_at tables place)
      at None = tt
      at (Some place) = told (slice_get tables place)

  pub explains-are : (tables : List TableInfo) (query : Query Source) → ((typed : TypedQuery TypedSource) → P (logic.Explain typed))
      → OnOk P (explain_analysed tables query)
  explains-are tables query each = then-ok P (selected tables query) _ (λ typed e. each typed)

  parts-are : (empty : Bool) → P logic.Nothing → OnOk P (cond empty (Err refusal.BadCount) (Ok logic.Nothing))
  parts-are true nothing = tt
  parts-are false nothing = nothing

  partitions-are : (tables : List TableInfo) (name : List ℕ) → P logic.Nothing → OnOk P (partitions_shown tables name)
  unfolding partitions_shown
  partitions-are tables name nothing = at (place_of name tables)
    where
      told : (info : Option TableInfo) → OnOk P (partitions_as info)
      told None = tt
      told (Some info) = parts-are (is_empty info.shape.parts) nothing

      at : (place : Option ℕ) → OnOk P (partitions_at tables place)
      at None = tt
      at (Some place) = told (slice_get tables place)

  pub shows-are : (tables : List TableInfo) (what : Show) → P logic.Nothing → OnOk P (show_analysed tables what)
  unfolding show_analysed
  shows-are tables show.Tables nothing = nothing
  shows-are tables (show.Partitions name) nothing = partitions-are tables name nothing
  shows-are tables show.Transactions nothing = nothing
  shows-are tables show.Locks nothing = nothing
  shows-are tables show.Compactions nothing = nothing

  pub settings-are : (setting : Setting) → P logic.Nothing → OnOk P (set_analysed setting)
  unfolding set_analysed
  settings-are setting nothing = if-ok P (takes_value setting) (Ok logic.Nothing) refusal.BadType (λ takes. nothing)

-- ---- what a COMPACT can come to, and what it means then

module _ (P : Logic → Type 0) where
  pub compacts-are : (tables : List TableInfo) (compact : Compact) → ((ask : TypedAsk) → P (logic.Ask ask)) → OnOk P (asked tables compact)
  unfolding asked
  compacts-are tables compact each = at (place_of compact.table tables)
    where
      told : (info : Option TableInfo) → OnOk P (asked_as compact info)
      told None = tt
      told (Some info) = then-ok P (list_typed info.shape.parts compact.partition) _ (λ values e. each (asked_of compact info values))

      at : (place : Option ℕ) → OnOk P (asked_at tables compact place)
      at None = tt
      at (Some place) = told (slice_get tables place)

pub asking-is : (P : Option Meaning → Type 0) (ask : TypedAsk)
    → (nat_le (length (asked_partition ask)) text_limit ≡ true → P (Some (Ask ask.table.table (asked_partition ask) ask.kind)))
    → P (Some PartitionLimit) → P (Some (asking ask))
asking-is P ask asks long = by (nat_le (length (asked_partition ask)) text_limit) refl
  where
    by : (b : Bool) → nat_le (length (asked_partition ask)) text_limit ≡ b
        → P (Some (cond b (Ask ask.table.table (asked_partition ask) ask.kind) PartitionLimit))
    by true is = asks is
    by false is = long
