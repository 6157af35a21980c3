-- What is proved of meanings.
use Rattle.std.specs.Prelude.{◌≡◌, ℕ, ◌≤◌, ◌||◌, not, Bool, true, false, IsTrue, Option, Some, None, Ok, List, [], ◌∷◌, length, map, drop, filter, slice_get}
use Rattle.std.specs.List.{AllByRecursion}
use Rattle.hv_base.specs.declared.ids.TableId.{TableId}
use Rattle.hv_base.specs.declared.ids.Touch.{Touch}
use Rattle.hv_ast.specs.declared.change.Rows.{Rows}
use Rattle.hv_ast.specs.declared.change.Rows.TheVariants as rows
use Rattle.hv_ast.specs.declared.table.Compact.{Compact}
use Rattle.hv_ast.specs.declared.table.CompactionKind.{CompactionKind}
use Rattle.hv_ast.specs.declared.table.CreateTable.{CreateTable}
use Rattle.hv_ast.specs.declared.table.DropTable.{DropTable}
use Rattle.hv_ast.specs.declared.statement.Stmt.{Stmt}
use Rattle.hv_ast.specs.declared.statement.Stmt.TheVariants as stmt
use Rattle.hv_value.specs.declared.row.Row.{Row}
use Rattle.hv_value.specs.declared.sql_type.SqlType.{SqlType}
use Rattle.hv_value.specs.declared.value.Value.{Value}
use Rattle.hv_value.specs.Conversion.{is_of}
use Rattle.hv_typing.specs.hv_logic.specs.declared.catalog.Column.{Column}
use Rattle.hv_typing.specs.hv_logic.specs.declared.catalog.Shape.{Shape}
use Rattle.hv_typing.specs.hv_logic.specs.declared.catalog.TableInfo.{TableInfo}
use Rattle.hv_typing.specs.hv_logic.specs.declared.effect.Effect.{Effect}
use Rattle.hv_typing.specs.hv_logic.specs.declared.effect.Found.{Found}
use Rattle.hv_typing.specs.hv_logic.specs.declared.meaning.Meaning.{Meaning}
use Rattle.hv_typing.specs.hv_logic.specs.declared.meaning.Meaning.TheVariants.{Change, Make, Unmake, Ask}
use Rattle.hv_typing.specs.hv_logic.specs.declared.seen.Seen.{Seen}
use Rattle.hv_typing.specs.hv_logic.specs.Tables.{named}
use Rattle.hv_typing.specs.hv_logic.specs.Shapes.{shape_of}
use Rattle.hv_typing.specs.hv_logic.specs.Sizes.{stored_size}
use Rattle.hv_route.specs.hv_rowfile.specs.Layout.{value_spelling, ValueIsTaken, RowIsTaken}
use Rattle.hv_route.specs.Back.{SayValues, AreFlat, AreHeld}
use Rattle.hv_route.specs.Routes.{stored}
use Rattle.hv_route.specs.Touching.{touched, touches_of}
use Rattle.hv_typing.specs.Columns.{columns_of}
use Rattle.hv_typing.specs.Analysis.{is_form}
use Rattle.hv_meaning.specs.Meaning.{info_of, meaning_in, meaning_of}

-- ---- the forms that have a meaning

abbrev pub has_meaning : Stmt → Bool
has_meaning tree = is_form tree

abbrev pub MeansSomething : Option Meaning → Type 0
MeansSomething None = ⊥
MeansSomething (Some meaning) = Unit {0}

abbrev pub FormsMean : Type 0
FormsMean = (tree : Stmt) (tables : List Seen) → IsTrue (has_meaning tree) → MeansSomething (meaning_of tables tree)

abbrev pub OtherFormsMeanNothing : Type 0
OtherFormsMeanNothing = (tree : Stmt) (tables : List Seen) → has_meaning tree ≡ false → meaning_of tables tree ≡ None

-- ---- a table is made by a CREATE TABLE of a new name, in the shape of its text, with at most 64 columns, and no ARRAY among its
-- partition columns

pub record MakesNew (tree : Stmt) (tables : List Seen) (shape : Shape) : Type 0 where
  pub create : CreateTable
  pub tree_is : tree ≡ stmt.CreateTable create
  pub absent : named create.table tables ≡ None
  pub shape_is : shape ≡ shape_of create
  pub few : length (columns_of shape) ≤ 64
  pub flat : AreFlat shape.parts

abbrev pub TablesAreNew : Type 0
TablesAreNew =
    (tree : Stmt) (tables : List Seen) (shape : Shape) → meaning_of tables tree ≡ Some (Make shape) → MakesNew tree tables shape

-- ---- a table is dropped by a DROP TABLE of its name

pub record DropsNamed (tree : Stmt) (tables : List Seen) (table : TableId) : Type 0 where
  pub said : DropTable
  pub tree_is : tree ≡ stmt.DropTable said
  pub seen : Seen
  pub here : named said.table tables ≡ Some seen
  pub table_is : table ≡ seen.info.table

abbrev pub DropsAreNamed : Type 0
DropsAreNamed =
    (tree : Stmt) (tables : List Seen) (table : TableId) → meaning_of tables tree ≡ Some (Unmake table) → DropsNamed tree tables table

-- ---- a compaction is asked for by a COMPACT of its kind, of the table of its name; the partition's text is short

pub record AsksNamed (tree : Stmt) (tables : List Seen) (table : TableId) (partition : List ℕ) (kind : CompactionKind) : Type 0 where
  pub said : Compact
  pub tree_is : tree ≡ stmt.Compact said
  pub seen : Seen
  pub here : named said.table tables ≡ Some seen
  pub table_is : table ≡ seen.info.table
  pub kind_is : kind ≡ said.kind
  pub short : length partition ≤ 240

abbrev pub AsksAreNamed : Type 0
AsksAreNamed =
    (tree : Stmt) (tables : List Seen) (table : TableId) (partition : List ℕ) (kind : CompactionKind)
    → meaning_of tables tree ≡ Some (Ask table partition kind) → AsksNamed tree tables table partition kind

-- ---- a change is of the table that the statement names, and deletes rows that stand in it

abbrev pub change_name : Stmt → Option (List ℕ)
change_name (stmt.Insert insert) = Some insert.table
change_name (stmt.Update update) = Some update.table
change_name (stmt.Delete delete) = Some delete.table
change_name (stmt.Merge merge) = Some merge.table
change_name (stmt.Truncate truncate) = Some truncate.table
change_name _ = None

-- of the rows that stand, those that a test is true of, in their order: each once
pub record AreOfRows (rows deletes : List Found) : Type 0 where
  pub test : Found → Bool
  pub deletes_are : deletes ≡ filter test rows

-- a value for each column, of its type
abbrev pub AreOf : List Column → List Value → Type 0
AreOf [] [] = Unit {0}
AreOf (column ∷ columns) (v ∷ vs) = IsTrue (is_of column.kind v) × AreOf columns vs
AreOf _ _ = ⊥

abbrev pub IsRowOf : List Column → Row → Type 0
IsRowOf columns row = AreOf columns row.values

-- the text of the row's partition says the values of its partition columns
abbrev pub SaysParts : Shape → Row → Type 0
SaysParts shape row = SayValues shape.parts (drop (length shape.columns) row.values)

abbrev pub StoredIsTaken : Shape → Row → Type 0
StoredIsTaken shape row = RowIsTaken (stored shape row)

-- at most 100, each of a partition's text of at most 240 bytes
pub record AreFew (touches : List Touch) : Type 0 where
  pub count : length touches ≤ 100
  pub short : AllByRecursion (λ (touch : Touch). length touch.partition ≤ 240) touches

-- The new rows are of the table's types, and a row file takes what is stored of them where the table has no more columns than
-- a file counts. The texts of their partitions say their values, where no partition column is an ARRAY and the values are such as the
-- code's types hold. The change is within the limits.
pub record FitsTable (info : TableInfo) (effect : Effect) : Type 0 where
  pub typed : AllByRecursion (IsRowOf (columns_of info.shape)) effect.inserts
  pub taken : length (columns_of info.shape) ≤ 65535 → AllByRecursion (StoredIsTaken info.shape) effect.inserts
  pub said : AreFlat info.shape.parts → AreHeld effect.inserts → AllByRecursion (SaysParts info.shape) effect.inserts
  pub within : touched info effect ≡ Ok (touches_of info effect)
  pub few : AreFew (touches_of info effect)

pub record ChangesNamed (tree : Stmt) (tables : List Seen) (info : TableInfo) (effect : Effect) : Type 0 where
  pub seen : Seen
  pub name : List ℕ
  pub name_is : change_name tree ≡ Some name
  pub here : named name tables ≡ Some seen
  pub info_is : info ≡ seen.info
  pub stand : AreOfRows seen.rows effect.deletes
  pub fits : FitsTable info effect

abbrev pub ChangesAreNamed : Type 0
ChangesAreNamed =
    (tree : Stmt) (tables : List Seen) (info : TableInfo) (effect : Effect) → meaning_of tables tree ≡ Some (Change info effect)
    → ChangesNamed tree tables info effect

-- ---- INSERT INTO deletes nothing

abbrev pub only_inserts : Stmt → Bool
only_inserts (stmt.Insert insert) = not insert.overwrite
only_inserts _ = false

abbrev pub InsertsDeleteNothing : Type 0
InsertsDeleteNothing =
    (tree : Stmt) (tables : List Seen) (info : TableInfo) (effect : Effect) → only_inserts tree ≡ true
    → meaning_of tables tree ≡ Some (Change info effect) → effect.deletes ≡ []

-- ---- over whatever tables are seen, a change is of one of them, and deletes rows that are seen of it

pub record ChangesSeen (tables : List Seen) (info : TableInfo) (effect : Effect) : Type 0 where
  pub place : ℕ
  pub seen : Seen
  pub here : slice_get tables place ≡ Some seen
  pub info_is : info ≡ seen.info
  pub stand : AreOfRows seen.rows effect.deletes
  pub fits : FitsTable info effect

abbrev pub ChangesAreSeen : Type 0
ChangesAreSeen =
    (tree : Stmt) (tables : List Seen) (info : TableInfo) (effect : Effect) → meaning_in tree tables ≡ Some (Change info effect)
    → ChangesSeen tables info effect

-- ---- a value of a type is one that a row file takes, and is counted by what it takes there

pub record IsStored (v : Value) : Type 0 where
  pub taken : ValueIsTaken v
  pub length_is : length (value_spelling v) ≡ stored_size v

abbrev pub TypedValuesAreStored : Type 0
TypedValuesAreStored = (kind : SqlType) (v : Value) → IsTrue (is_of kind v) → IsStored v

-- ---- a statement that reads no rows means the same whatever rows its tables have, so nobody need read files for it

abbrev pub are_values : Rows → Bool
are_values (rows.Values values) = true
are_values (rows.Query query) = false

-- OVERWRITE looks at the rows that it deletes
abbrev pub reads_rows : Stmt → Bool
reads_rows (stmt.Insert insert) = insert.overwrite || not (are_values insert.rows)
reads_rows (stmt.CreateTable create) = false
reads_rows (stmt.DropTable dropping) = false
reads_rows (stmt.Show show) = false
reads_rows (stmt.Describe table) = false
reads_rows (stmt.Compact compact) = false
reads_rows (stmt.Set setting) = false
reads_rows (stmt.AbortTransactions txns) = false
reads_rows (stmt.Explain query) = false
reads_rows _ = true

-- over the tables that it names
abbrev pub RowsAreUnseenIn : Type 0
RowsAreUnseenIn =
    (tree : Stmt) (tables others : List Seen) → reads_rows tree ≡ false → map info_of tables ≡ map info_of others
    → meaning_in tree tables ≡ meaning_in tree others

-- over the live tables
abbrev pub RowsAreUnseen : Type 0
RowsAreUnseen =
    (tree : Stmt) (tables others : List Seen) → reads_rows tree ≡ false → map info_of tables ≡ map info_of others
    → meaning_of tables tree ≡ meaning_of others tree
