-- A statement that reads no rows means the same whatever rows its tables have.
use Rattle.std.proofs.Common.{◌≡◌, ◌++◌, ◌||◌, not, slice_get, ℕ, Bool, true, false, cond, List, [], ◌∷◌, map, Option, Some, None, Result, Ok, Err, refl, sym, ap, ◌∙◌, subst, nat_eq}
use Rattle.std.proofs.lemmas.List.{map-append}
use Rattle.std.specs.List.{flat_map}
use Rattle.std.specs.Option.{option_map, option_to_list}
use Rattle.std.specs.Cmp.Lexicographic.{pointwise}
use Rattle.hv_base.specs.declared.refusal.Refusal.{Refusal}
use Rattle.hv_base.specs.declared.refusal.Refusal.TheVariants as refusal
use Rattle.hv_locks.specs.declared.table.Lock.{Lock}
use Rattle.hv_ast.specs.declared.change.Insert.{Insert}
use Rattle.hv_ast.specs.declared.change.Rows.{Rows}
use Rattle.hv_ast.specs.declared.change.Rows.TheVariants as source_rows
use Rattle.hv_ast.specs.declared.statement.Stmt.{Stmt}
use Rattle.hv_ast.specs.declared.statement.Stmt.TheVariants as stmt
use Rattle.hv_typing.specs.hv_logic.specs.declared.catalog.Shape.{Shape}
use Rattle.hv_typing.specs.hv_logic.specs.declared.catalog.TableInfo.{TableInfo}
use Rattle.hv_typing.specs.hv_logic.specs.declared.effect.Effect.{Effect}
use Rattle.hv_typing.specs.hv_logic.specs.declared.effect.Found.{Found}
use Rattle.hv_typing.specs.hv_logic.specs.declared.seen.Seen.{Seen}
use Rattle.hv_typing.specs.hv_logic.specs.Names.{names_in}
use Rattle.hv_typing.specs.hv_logic.specs.Tables.{named}
use Rattle.hv_typing.specs.Rows.{Tables}
use Rattle.hv_typing.specs.hv_expr.specs.declared.tree.TypedExpr.{TypedExpr}
use Rattle.hv_typing.specs.declared.change.Deletes.{Deletes}
use Rattle.hv_typing.specs.declared.change.Deletes.TheVariants as deletes
use Rattle.hv_typing.specs.declared.change.Origin.{Origin}
use Rattle.hv_typing.specs.declared.change.Origin.TheVariants as origin
use Rattle.hv_typing.specs.declared.change.TypedChange.{TypedChange}
use Rattle.hv_typing.specs.Columns.{columns_of}
use Rattle.hv_typing.specs.Inserts.{insert_of}
use Rattle.hv_typing.specs.declared.logic.Logic.{Logic}
use Rattle.hv_typing.specs.Analysis.{analysed, form_analysed, explain_analysed, is_form}
use Rattle.hv_typing.specs.Changes.{changing, change_of}
use Rattle.hv_typing.specs.Creates.{created}
use Rattle.hv_typing.specs.Drops.{dropped}
use Rattle.hv_typing.specs.Descriptions.{described}
use Rattle.hv_typing.specs.Shows.{show_analysed}
use Rattle.hv_typing.specs.Settings.{set_analysed}
use Rattle.hv_typing.specs.Asks.{asked}
use Rattle.hv_meaning.specs.Meaning.{info_of, found_in, tables_of, named_by, its_tables, matched, frames_from, stored_row, effect_of, change_effect, within_limits, or_none, changed_in, meant, meaning_over, meaning_in}
use Rattle.hv_meaning.specs.Laws.{are_values, reads_rows, RowsAreUnseen, RowsAreUnseenIn}
use Rattle.hv_meaning.proofs.Outcomes.{OnOk, on_ok, then-ok, IsGone, IsFrom, IsChangeOf, inserts-are, changes-are, creates-are, drops-are, describes-are, explains-are, shows-are, settings-are, compacts-are}

-- ---- over these descriptions, with one tables' rows and with others

-- nothing is deleted, and the new rows are made of values
record IsAlone (change : TypedChange) : Type 0 where
  gone : change.deletes ≡ deletes.Nothing
  rows : List (List TypedExpr)
  made : change.origin ≡ origin.Values rows

-- of a change, what its parts come to
abbrev effect-by : Shape → List TypedExpr → Deletes → Origin → List Found → Tables → Effect
effect-by shape values gone o found tables =
    effect_of shape gone (map (stored_row (columns_of shape) values) (frames_from o (matched gone found) tables)) found

either : (a b : Bool) → (a || b) ≡ false → (a ≡ false) × (b ≡ false)
either true b h = cc
either false b h = (refl, h)

module _ (infos : List TableInfo) (found others : List (List Found)) where
  abbrev Same : Logic → Type 0
  Same logic = meant infos found (Ok logic) ≡ meant infos others (Ok logic)

  same-meant : (r : Result Logic Refusal) → OnOk Same r → meant infos found r ≡ meant infos others r
  same-meant (Ok logic) h = h
  same-meant (Err why) h = refl

  same-effect : (shape : Shape) (change : TypedChange) (rows more : List Found) → IsAlone change
      → change_effect shape change rows (tables_of found) ≡ change_effect shape change more (tables_of others)
  same-effect shape change rows more alone =
      (λ i. effect-by shape change.values (alone.gone i) (alone.made i) rows (tables_of found))
      ∙ sym (λ i. effect-by shape change.values (alone.gone i) (alone.made i) more (tables_of others))

  same-change : (info : Option TableInfo) (rows more : Option (List Found)) (change : TypedChange) → IsAlone change
      → changed_in info rows (tables_of found) change ≡ changed_in info more (tables_of others) change
  same-change None rows more change alone = refl
  same-change (Some info) rows more change alone =
      ap (λ effect. Some (within_limits info effect)) (same-effect info.shape change (or_none rows) (or_none more) alone)

  made-alone : (place : ℕ) (insert : Insert) (r : Rows) (gone : Deletes) (values : List TypedExpr) (o : Origin) → IsGone insert.overwrite gone → IsFrom r o
      → (insert.overwrite ≡ false) × (not (are_values r) ≡ false) → IsAlone (insert_of place gone values o)
  made-alone place insert (source_rows.Values values) gone made o none is neither =
      record { gone = subst (λ b. IsGone b gone) neither.0 none; rows = is.0; made = is.1 }
  made-alone place insert (source_rows.Query query) gone made o none is neither = let never = neither.1 in cc

  insert-alone : (place : ℕ) (shape : Shape) (insert : Insert) → reads_rows (stmt.Insert insert) ≡ false → OnOk IsAlone (changing infos place shape (stmt.Insert insert))
  unfolding changing
  insert-alone place shape insert e =
      inserts-are IsAlone infos place shape insert (λ gone values o none is.
      made-alone place insert insert.rows gone values o none is (either insert.overwrite (not (are_values insert.rows)) e))

  unseen-form : (tree : Stmt) → reads_rows tree ≡ false → meant infos found (form_analysed infos tree) ≡ meant infos others (form_analysed infos tree)
  unfolding form_analysed
  unseen-form (stmt.Insert insert) e =
      same-meant _
      (then-ok Same (change_of infos insert.table (stmt.Insert insert)) _ (λ change is.
      let of = on_ok (IsChangeOf infos insert.table (stmt.Insert insert)) (change_of infos insert.table (stmt.Insert insert)) change (changes-are infos insert.table (stmt.Insert insert)) is in
      same-change (slice_get infos change.table) (slice_get found change.table) (slice_get others change.table) change
      (on_ok IsAlone (changing infos of.place of.info.shape (stmt.Insert insert)) change (insert-alone of.place of.info.shape insert e) of.is)))
  unseen-form (stmt.CreateTable create) e = same-meant (created infos create) (creates-are Same infos create refl refl)
  unseen-form (stmt.DropTable drop) e = same-meant (dropped infos drop) (drops-are Same infos drop refl (λ table. refl))
  unseen-form (stmt.Describe table) e = same-meant (described infos table) (describes-are Same infos table (λ columns. refl))
  unseen-form (stmt.Show what) e = same-meant (show_analysed infos what) (shows-are Same infos what refl)
  unseen-form (stmt.Compact compact) e = same-meant (asked infos compact) (compacts-are Same infos compact (λ ask. refl))
  unseen-form (stmt.Set setting) e = same-meant (set_analysed setting) (settings-are Same setting refl)
  unseen-form (stmt.AbortTransactions txns) e = refl
  unseen-form (stmt.Explain query) e = same-meant (explain_analysed infos query) (explains-are Same infos query (λ typed. refl))
  unseen-form other e = cc

  unseen-over : (tree : Stmt) → reads_rows tree ≡ false → meaning_over tree infos found ≡ meaning_over tree infos others
  unfolding analysed
  unseen-over tree e = by (is_form tree)
    where
      by : (b : Bool) → meant infos found (cond b (form_analysed infos tree) (Err refusal.Syntax)) ≡ meant infos others (cond b (form_analysed infos tree) (Err refusal.Syntax))
      by true = unseen-form tree e
      by false = refl

pub unseen-in : RowsAreUnseenIn
unfolding meaning_in
unseen-in tree tables others e same =
    unseen-over (map info_of tables) (map found_in tables) (map found_in others) tree e
    ∙ ap (λ infos. meaning_over tree infos (map found_in others)) same

-- ---- the descriptions of the tables that a statement names

step-infos : (b : Bool) (seen other : Seen) (rest more : Option Seen) → info_of seen ≡ info_of other → option_map info_of rest ≡ option_map info_of more
    → option_map info_of (cond b (Some seen) rest) ≡ option_map info_of (cond b (Some other) more)
step-infos true seen other rest more same h = ap Some same
step-infos false seen other rest more same h = h

named-infos : (name : List ℕ) (tables others : List Seen) → map info_of tables ≡ map info_of others
    → option_map info_of (named name tables) ≡ option_map info_of (named name others)
named-infos name [] [] e = refl
named-infos name [] (other ∷ others) e = cc
named-infos name (seen ∷ tables) [] e = cc
named-infos name (seen ∷ tables) (other ∷ others) e =
    let same : info_of seen ≡ info_of other = cc in
    let rest : map info_of tables ≡ map info_of others = cc in
    step-infos (pointwise nat_eq seen.info.shape.name name) seen other (named name tables) (named name others) same (named-infos name tables others rest)
    ∙ ap (λ (info : TableInfo). option_map info_of (cond (pointwise nat_eq info.shape.name name) (Some other) (named name others))) same

listed-infos : (o : Option Seen) → map info_of (option_to_list o) ≡ option_to_list (option_map info_of o)
listed-infos None = refl
listed-infos (Some seen) = refl

its-infos : (tables others : List Seen) → map info_of tables ≡ map info_of others → (locks : List Lock)
    → map info_of (flat_map (named_by tables) locks) ≡ map info_of (flat_map (named_by others) locks)
its-infos tables others e [] = refl
its-infos tables others e (lock ∷ locks) =
    let here = listed-infos (named lock.name tables) ∙ ap option_to_list (named-infos lock.name tables others e) ∙ sym (listed-infos (named lock.name others)) in
    map-append info_of (named_by tables lock) (flat_map (named_by tables) locks)
    ∙ ap (λ xs. xs ++ map info_of (flat_map (named_by tables) locks)) here
    ∙ ap (λ xs. map info_of (named_by others lock) ++ xs) (its-infos tables others e locks)
    ∙ sym (map-append info_of (named_by others lock) (flat_map (named_by others) locks))

pub unseen : RowsAreUnseen
unseen tree tables others e same = unseen-in tree (its_tables tree tables) (its_tables tree others) e (its-infos tables others same (names_in tree))
