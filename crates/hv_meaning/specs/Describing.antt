-- What DESCRIBE lists: a table's columns, those of its partitions last, each with its type as Hive writes it. Source: Hive
-- Language Manual, DDL (Describe), and Types. Names and types are texts, so they are escaped as texts are.
use Rattle.std.specs.Prelude.{ℕ, List, [], ◌∷◌, map, codes}
use Rattle.hv_value.specs.declared.row.Row.{Row}
use Rattle.hv_value.specs.declared.value.Value.TheVariants as value
use Rattle.hv_value.specs.declared.sql_type.SqlType.{SqlType}
use Rattle.hv_value.specs.declared.sql_type.SqlType.TheVariants as type
use Rattle.hv_value.specs.declared.sql_type.Elem.{Elem}
use Rattle.hv_value.specs.declared.sql_type.Elem.TheVariants as elem
use Rattle.hv_typing.specs.hv_logic.specs.declared.catalog.Column.{Column}
use Rattle.hv_typing.specs.hv_logic.specs.declared.meaning.Meaning.{Meaning}
use Rattle.hv_typing.specs.hv_logic.specs.declared.meaning.Meaning.TheVariants.{Listing}

-- no column has the type of a bare NULL; Hive calls it so
abbrev pub array_text : Elem → List ℕ
array_text elem.Null = codes "array<void>"
array_text elem.Boolean = codes "array<boolean>"
array_text elem.Int = codes "array<int>"
array_text elem.BigInt = codes "array<bigint>"
array_text elem.Str = codes "array<string>"
array_text elem.Date = codes "array<date>"

abbrev pub type_text : SqlType → List ℕ
type_text type.Null = codes "void"
type_text type.Boolean = codes "boolean"
type_text type.Int = codes "int"
type_text type.BigInt = codes "bigint"
type_text type.Str = codes "string"
type_text type.Date = codes "date"
type_text (type.ArrayOf e) = array_text e

abbrev pub description : Column → Row
description column = record { values = value.Str column.name ∷ value.Str (type_text column.kind) ∷ [] }

abbrev pub description_names : List (List ℕ)
description_names = codes "col_name" ∷ codes "data_type" ∷ []

abbrev pub described : List Column → Meaning
described columns = Listing description_names (map description columns)
