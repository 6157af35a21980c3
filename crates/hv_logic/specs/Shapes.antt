-- The table that a CREATE TABLE describes: its columns with their types, its partition columns, its bucket columns and
-- how many buckets it has. Source: Hive Language Manual, Create Table.
use Rattle.std.specs.Prelude.{ℕ, nat_eq, Bool, Option, Some, None, List, [], map, position}
use Rattle.std.specs.Cmp.Lexicographic.{pointwise}
use Rattle.hv_ast.specs.declared.types.TypeName.{TypeName}
use Rattle.hv_ast.specs.declared.types.TypeName.TheVariants as type_name
use Rattle.hv_ast.specs.declared.types.ScalarName.{ScalarName}
use Rattle.hv_ast.specs.declared.types.ScalarName.TheVariants as scalar
use Rattle.hv_ast.specs.declared.table.Clustering.{Clustering}
use Rattle.hv_ast.specs.declared.table.ColumnDefinition.{ColumnDefinition}
use Rattle.hv_ast.specs.declared.table.CreateTable.{CreateTable}
use Rattle.hv_value.specs.declared.sql_type.SqlType.{SqlType}
use Rattle.hv_value.specs.declared.sql_type.SqlType.TheVariants as sql
use Rattle.hv_value.specs.declared.sql_type.Elem.{Elem}
use Rattle.hv_value.specs.declared.sql_type.Elem.TheVariants as elem
use Rattle.hv_logic.specs.declared.catalog.Shape.{Shape}
use Rattle.hv_logic.specs.declared.catalog.Column.{Column}

-- ---- the type that a written type names

abbrev pub scalar_of : ScalarName → SqlType
scalar_of scalar.Boolean = sql.Boolean
scalar_of scalar.Int = sql.Int
scalar_of scalar.BigInt = sql.BigInt
scalar_of scalar.String = sql.Str
scalar_of scalar.Date = sql.Date

abbrev pub element_of : ScalarName → Elem
element_of scalar.Boolean = elem.Boolean
element_of scalar.Int = elem.Int
element_of scalar.BigInt = elem.BigInt
element_of scalar.String = elem.Str
element_of scalar.Date = elem.Date

abbrev pub type_of : TypeName → SqlType
type_of (type_name.Scalar scalar) = scalar_of scalar
type_of (type_name.Array scalar) = sql.ArrayOf (element_of scalar)

abbrev pub column_of : ColumnDefinition → Column
column_of definition = record { name = definition.name; kind = type_of definition.kind }

-- ---- buckets, by the places of their columns

abbrev pub is_column : List ℕ → ColumnDefinition → Bool
is_column name column = pointwise nat_eq column.name name

abbrev pub bucket_names : Option Clustering → List (List ℕ)
bucket_names None = []
bucket_names (Some clustering) = clustering.columns

abbrev pub bucket_place : List ColumnDefinition → List ℕ → Option ℕ
bucket_place columns name = position (is_column name) columns

abbrev pub place_or_first : Option ℕ → ℕ
place_or_first None = 0
place_or_first (Some place) = place

abbrev pub bucket_count : Option Clustering → ℕ
bucket_count None = 0
bucket_count (Some clustering) = clustering.count

-- ----

abbrev pub shape_of : CreateTable → Shape
shape_of create = record {
  name = create.table;
  columns = map column_of create.columns;
  parts = map column_of create.partitions;
  bucketed = map (λ name. place_or_first (bucket_place create.columns name)) (bucket_names create.clustering);
  buckets = bucket_count create.clustering;
}
