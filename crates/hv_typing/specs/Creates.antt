-- CREATE TABLE: the new table's shape, or the first fault. A table of that name (TableExists) unless IF NOT EXISTS stands;
-- a column named twice (Ambiguous); a bucket column that is none or a partition column (NoColumn); an ARRAY as partition or
-- bucket column (BadType); numbers above the limits, and properties of tables that aren't kept here (Limit).
-- Source: Hive Language Manual, Create Table; the limits and the order are this project's profile.
use Rattle.std.specs.Prelude.{ℕ, ◌+◌, Bool, true, false, not, if◌then◌else◌, ◌&&◌, ◌||◌, nat_le, is_some, List, [], ◌∷◌, length, position, Option, None, Some, Result, Ok, Err, codes}
use Rattle.std.specs.List.{list_all, list_any}
use Rattle.hv_base.specs.declared.refusal.Refusal.{Refusal}
use Rattle.hv_base.specs.declared.refusal.Refusal.TheVariants as refusal
use Rattle.hv_logic.specs.hv_ast.specs.declared.table.Clustering.{Clustering}
use Rattle.hv_logic.specs.hv_ast.specs.declared.table.ColumnDefinition.{ColumnDefinition}
use Rattle.hv_logic.specs.hv_ast.specs.declared.table.CreateTable.{CreateTable}
use Rattle.hv_logic.specs.hv_ast.specs.declared.table.Property.{Property}
use Rattle.hv_logic.specs.hv_ast.specs.declared.types.TypeName.{TypeName}
use Rattle.hv_logic.specs.hv_ast.specs.declared.types.TypeName.TheVariants as type_name
use Rattle.hv_logic.specs.declared.catalog.TableInfo.{TableInfo}
use Rattle.hv_logic.specs.Shapes.{is_column, bucket_names, bucket_place, shape_of}
use Rattle.hv_typing.specs.Scopes.{same_name}
use Rattle.hv_typing.specs.declared.logic.Logic.{Logic}
use Rattle.hv_typing.specs.declared.logic.Logic.TheVariants as logic

-- the place of the live table of that name
abbrev pub is_table : List ℕ → TableInfo → Bool
is_table name info = same_name info.shape.name name

abbrev pub place_of : List ℕ → List TableInfo → Option ℕ
place_of name tables = position (is_table name) tables

-- ---- names

abbrev pub is_among : List ColumnDefinition → ColumnDefinition → Bool
is_among columns column = list_any (is_column column.name) columns

abbrev pub repeats : List ColumnDefinition → Bool
repeats [] = false
repeats (column ∷ columns) = is_among columns column || repeats columns

-- one name stands twice among the columns, or the partition columns, or both
abbrev pub names_repeat : CreateTable → Bool
names_repeat create =
    repeats create.columns || (repeats create.partitions || list_any (is_among create.columns) create.partitions)

-- ---- buckets

abbrev pub is_bucket_column : List ColumnDefinition → List ℕ → Bool
is_bucket_column columns name = is_some (bucket_place columns name)

-- ---- types

abbrev pub is_array : TypeName → Bool
is_array (type_name.Array scalar) = true
is_array (type_name.Scalar scalar) = false

abbrev pub has_array : ColumnDefinition → Bool
has_array column = is_array column.kind

abbrev pub is_array_named : List ColumnDefinition → List ℕ → Bool
is_array_named columns name = list_any (λ column. is_column name column && has_array column) columns

abbrev pub arrays_route : CreateTable → Bool
arrays_route create =
    list_any has_array create.partitions || list_any (is_array_named create.columns) (bucket_names create.clustering)

-- ---- limits: 64 columns with the partition columns, 4 partition columns, 1 to 256 buckets

abbrev pub buckets_fit : Option Clustering → Bool
buckets_fit None = true
buckets_fit (Some clustering) = nat_le 1 clustering.count && nat_le clustering.count 256

abbrev pub numbers_fit : CreateTable → Bool
numbers_fit create =
    nat_le (length create.columns + length create.partitions) 64
    && (nat_le (length create.partitions) 4 && buckets_fit create.clustering)

-- tables that aren't transactional, or that only take inserts; compared as written
abbrev pub is_property : List ℕ → List ℕ → Property → Bool
is_property key value property = same_name property.key key && same_name property.value value

abbrev pub is_unkept : Property → Bool
is_unkept property =
    is_property (codes "transactional") (codes "false") property
    || is_property (codes "transactional_properties") (codes "insert_only") property

-- ----

abbrev pub made : Bool → CreateTable → Logic
made exists create = if exists then logic.Nothing else logic.Make (shape_of create)

abbrev pub fault_of : Bool → CreateTable → Option Refusal
fault_of exists create =
    if exists && not create.if_absent then Some refusal.TableExists
    else if names_repeat create then Some refusal.Ambiguous
    else if not (list_all (is_bucket_column create.columns) (bucket_names create.clustering)) then Some refusal.NoColumn
    else if arrays_route create then Some refusal.BadType
    else if not (numbers_fit create) then Some refusal.Limit
    else if list_any is_unkept create.properties then Some refusal.Limit
    else None

abbrev pub unless_fault : Option Refusal → Logic → Result Logic Refusal
unless_fault None logic = Ok logic
unless_fault (Some refusal) logic = Err refusal

abbrev pub created_beside : Bool → CreateTable → Result Logic Refusal
created_beside exists create = unless_fault (fault_of exists create) (made exists create)

unfoldable pub created : List TableInfo → CreateTable → Result Logic Refusal
created tables create = created_beside (is_some (place_of create.table tables)) create
