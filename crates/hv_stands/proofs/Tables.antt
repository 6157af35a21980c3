-- The table that a statement names is one of the book's, and what a statement sees of it is what stands there.
use Rattle.std.proofs.Common.{refl, ◌≡◌, ℕ, suc, ◌+◌, ◌&&◌, nat_eq, Bool, true, false, cond, Option, Some, None, List, [], ◌∷◌, map, filter, option_map, sym, ap, ◌∙◌, subst, arith}
use Rattle.std.specs.Cmp.Lexicographic.{pointwise}
use Rattle.std.specs.List.{slice_get, AllByRecursion}
use Rattle.hv_ast.specs.declared.statement.Stmt.{Stmt}
use Rattle.hv_history.specs.hv_meaning.specs.hv_typing.specs.hv_logic.specs.declared.catalog.TableInfo.{TableInfo}
use Rattle.hv_history.specs.hv_meaning.specs.hv_typing.specs.hv_logic.specs.declared.effect.Effect.{Effect}
use Rattle.hv_history.specs.hv_meaning.specs.hv_typing.specs.hv_logic.specs.declared.seen.Seen.{Seen}
use Rattle.hv_history.specs.hv_meaning.specs.hv_typing.specs.hv_logic.specs.declared.meaning.Meaning.TheVariants.{Change}
use Rattle.hv_history.specs.hv_meaning.specs.hv_typing.specs.hv_logic.specs.Tables.{named}
use Rattle.hv_history.specs.hv_meaning.specs.Meaning.{meaning_of}
use Rattle.hv_history.specs.hv_meaning.specs.Laws.{FitsTable}
use Rattle.hv_history.specs.declared.state.Table.{Table}
use Rattle.hv_history.specs.State.{numbered, content_of, seen_table, seen_tables}
use Rattle.hv_history.specs.Legal.{is_named}
use Rattle.hv_stands.specs.Sound.{NumberedFrom, HasAllValues}
use Rattle.hv_stands.specs.Reading.{table_of_name}
use Rattle.hv_stands.proofs.Meanings.{ArePicked, ChangesLive, changes-seen}

-- ---- the live tables are seen

named-cond : (b : Bool) (table : Table) (o : Option Table)
    → cond b (Some (seen_table table)) (option_map seen_table o) ≡ option_map seen_table (cond b (Some table) o)
named-cond true table o = refl
named-cond false table o = refl

named-next : (name : List ℕ) (table : Table) (rest : List Table) (o : Option Table) → named name (map seen_table rest) ≡ option_map seen_table o → (live : Bool)
    → named name (map seen_table (cond live (table ∷ rest) rest))
    ≡ option_map seen_table (cond (live && pointwise nat_eq table.info.shape.name name) (Some table) o)
named-next name table rest o same true =
    ap (λ (found : Option Seen). cond (pointwise nat_eq table.info.shape.name name) (Some (seen_table table)) found) same
    ∙ named-cond (pointwise nat_eq table.info.shape.name name) table o
named-next name table rest o same false = same

-- the table of a name, as it is seen
pub named-seen : (name : List ℕ) (tables : List Table) → named name (seen_tables tables) ≡ option_map seen_table (table_of_name name tables)
named-seen name [] = refl
named-seen name (table ∷ tables) =
    named-next name table (filter (λ (t : Table). t.is_live) tables) (table_of_name name tables) (named-seen name tables) table.is_live

-- ---- the table of a name has its number

pub record StandsAt (first : ℕ) (tables : List Table) (table : Table) : Type 0 where
  pub place : ℕ
  pub here : slice_get tables place ≡ Some table
  pub number : table.info.table.0 ≡ first + place

at-here : (first : ℕ) (tables : List Table) (other table : Table) (rest : Option Table) → other.info.table.0 ≡ first
    → (rest ≡ Some table → StandsAt (first + 1) tables table)
    → (b : Bool) → cond b (Some other) rest ≡ Some table → StandsAt first (other ∷ tables) table
at-here first tables other table rest number later true found =
    let is : other ≡ table = cc in
    record { place = 0; here = ap Some is; number = ap (λ (t : Table). t.info.table.0) (sym is) ∙ omega arith }
at-here first tables other table rest number later false found =
    let behind = later found in
    let number : table.info.table.0 ≡ first + 1 + behind.place = behind.number in
    record { place = suc behind.place; here = behind.here; number = omega arith }

pub named-at : (first : ℕ) (name : List ℕ) (tables : List Table) (table : Table) → NumberedFrom first tables
    → table_of_name name tables ≡ Some table → StandsAt first tables table
named-at first name [] table order e = cc
named-at first name (other ∷ tables) table order e =
    at-here first tables other table (table_of_name name tables) order.0 (named-at (first + 1) name tables table order.1)
    (is_named name other) e

pub named-numbered : (name : List ℕ) (tables : List Table) (table : Table) → NumberedFrom 1 tables
    → table_of_name name tables ≡ Some table → numbered tables table.info.table.0 ≡ Some table
named-numbered name tables table order e =
    let at = named-at 1 name tables table order e in
    let number : table.info.table.0 ≡ suc at.place = omega (arith, at.number) in
    ap (numbered tables) number ∙ at.here

-- ---- a change is of one of the book's tables, and deletes rows that stand in it

-- the table of that description
abbrev pub HasTable : TableInfo → List Table → Type 0
HasTable info tables = (table : Table) × (numbered tables info.table.0 ≡ Some table) × (table.info ≡ info)

pub record ChangesTable (tables : List Table) (info : TableInfo) (effect : Effect) : Type 0 where
  pub table : Table
  pub here : numbered tables info.table.0 ≡ Some table
  pub info_is : table.info ≡ info
  pub deletes : ArePicked (content_of table.writes) effect.deletes
  pub whole : AllByRecursion (HasAllValues info.shape) effect.inserts
  pub fits : FitsTable info effect

module _ (tables : List Table) (order : NumberedFrom 1 tables) (info : TableInfo) (effect : Effect) where
  found-table : (all : List Seen) (change : ChangesLive all info effect) (o : Option Table) → table_of_name change.name tables ≡ o
      → option_map seen_table o ≡ Some change.seen → ChangesTable tables info effect
  found-table all change None found e = cc
  found-table all change (Some table) found e =
      let is : seen_table table ≡ change.seen = cc in
      let own : table.info ≡ info = ap (λ (s : Seen). s.info) is ∙ sym change.info_is in
      record {
        table = table;
        here = ap (λ (i : TableInfo). numbered tables i.table.0) (sym own) ∙ named-numbered change.name tables table order found;
        info_is = own;
        deletes = subst (λ (s : Seen). ArePicked s.rows effect.deletes) (sym is) change.deletes;
        whole = change.whole;
        fits = change.fits;
      }

  pub changes-table : (tree : Stmt) → meaning_of (seen_tables tables) tree ≡ Some (Change info effect) → ChangesTable tables info effect
  changes-table tree e =
      let change = changes-seen tree (seen_tables tables) info effect e in
      found-table (seen_tables tables) change (table_of_name change.name tables) refl (sym (named-seen change.name tables) ∙ change.here)
