-- A table's columns as its rows have their values, by name and in scope.
use Rattle.std.specs.Prelude.{ℕ, Bool, List, ◌++◌, map, slice_index_or}
use Rattle.hv_logic.specs.hv_value.specs.declared.sql_type.SqlType.{SqlType}
use Rattle.hv_logic.specs.hv_value.specs.declared.sql_type.SqlType.TheVariants as type
use Rattle.hv_logic.specs.declared.catalog.Column.{Column}
use Rattle.hv_logic.specs.declared.catalog.Shape.{Shape}
use Rattle.hv_typing.specs.declared.scope.Field.{Field}
use Rattle.hv_typing.specs.Scopes.{same_name}

-- the values of a row are those of the columns and then those of the partition columns
abbrev pub columns_of : Shape → List Column
columns_of shape = shape.columns ++ shape.parts

abbrev pub is_named : List ℕ → Column → Bool
is_named name column = same_name column.name name

-- a column in scope, under the name of its source
abbrev pub field_of : List ℕ → Column → Field
field_of alias column = record { source = alias; name = column.name; kind = column.kind }

-- the columns of a table that is updated, or deleted from
abbrev pub fields_of : Shape → List Field
fields_of shape = map (field_of shape.name) (columns_of shape)

-- ---- their types

abbrev pub column_kind : Column → SqlType
column_kind column = column.kind

abbrev pub kinds_of : List Column → List SqlType
kinds_of columns = map column_kind columns

abbrev pub kind_at : List SqlType → ℕ → SqlType
kind_at kinds place = slice_index_or kinds place type.Null
