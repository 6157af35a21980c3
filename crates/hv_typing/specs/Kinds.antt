-- Types of expressions: one type of several, and what the places of functions ask for.
-- Source: Hive Language Manual, Types and UDFs; what it leaves open is this project's profile.
use Rattle.std.specs.Prelude.{Bool, true, false, Option, None, Some, option_map}
use Rattle.hv_logic.specs.hv_value.specs.declared.sql_type.Elem.{Elem}
use Rattle.hv_logic.specs.hv_value.specs.declared.sql_type.Elem.TheVariants as elem
use Rattle.hv_logic.specs.hv_value.specs.declared.sql_type.SqlType.{SqlType}
use Rattle.hv_logic.specs.hv_value.specs.declared.sql_type.SqlType.TheVariants as type
use Rattle.hv_expr.specs.declared.tree.TypedExpr.{TypedExpr}
use Rattle.hv_expr.specs.declared.tree.TypedExpr.TheOpen.{TypedExpr-F}
use Rattle.hv_expr.specs.declared.tree.TypedExpr.TheViews.{out-TypedExpr}
use Rattle.hv_typing.specs.declared.places.Place.{Place}
use Rattle.hv_typing.specs.declared.places.Place.TheVariants as place
use Rattle.hv_typing.specs.declared.places.Gives.{Gives}
use Rattle.hv_typing.specs.declared.places.Gives.TheVariants as gives
use Rattle.hv_typing.specs.declared.kinds.Meeting.{Meeting}
use Rattle.hv_typing.specs.declared.kinds.Meeting.TheVariants as meeting

-- ---- the type beside a node

abbrev pub layer_kind : {A : Type 0} → TypedExpr-F A → SqlType
layer_kind (TypedExpr-F.Column place kind) = kind
layer_kind (TypedExpr-F.Literal literal kind) = kind
layer_kind (TypedExpr-F.One function kind x) = kind
layer_kind (TypedExpr-F.Two function kind x y) = kind
layer_kind (TypedExpr-F.Three function kind x y z) = kind
layer_kind (TypedExpr-F.Many function kind arguments) = kind
layer_kind (TypedExpr-F.In x negated among) = type.Boolean
layer_kind (TypedExpr-F.Chain kind first links) = kind
layer_kind (TypedExpr-F.Case kind operand branches otherwise) = kind
layer_kind TypedExpr-F.CountRows = type.BigInt
layer_kind (TypedExpr-F.Aggregate function distinct kind argument) = kind

unfoldable pub kind_of : TypedExpr → SqlType
kind_of expr = layer_kind (out-TypedExpr expr)

-- ---- one type of several

abbrev pub same_elem : Elem → Elem → Bool
same_elem elem.Null elem.Null = true
same_elem elem.Boolean elem.Boolean = true
same_elem elem.Int elem.Int = true
same_elem elem.BigInt elem.BigInt = true
same_elem elem.Str elem.Str = true
same_elem elem.Date elem.Date = true
same_elem _ _ = false

abbrev pub same_type : SqlType → SqlType → Bool
same_type type.Null type.Null = true
same_type type.Boolean type.Boolean = true
same_type type.Int type.Int = true
same_type type.BigInt type.BigInt = true
same_type type.Str type.Str = true
same_type type.Date type.Date = true
same_type (type.ArrayOf a) (type.ArrayOf b) = same_elem a b
same_type _ _ = false

-- of the elements of two arrays: NULL takes the other, equal types stay
abbrev pub unified_elem : Elem → Elem → Option Elem
unified_elem elem.Null e = Some e
unified_elem e elem.Null = Some e
unified_elem elem.Boolean elem.Boolean = Some elem.Boolean
unified_elem elem.Int elem.Int = Some elem.Int
unified_elem elem.BigInt elem.BigInt = Some elem.BigInt
unified_elem elem.Str elem.Str = Some elem.Str
unified_elem elem.Date elem.Date = Some elem.Date
unified_elem _ _ = None

-- NULL takes the other, equal types stay, INT and BIGINT give BIGINT
abbrev pub unified : SqlType → SqlType → Option SqlType
unified type.Null kind = Some kind
unified kind type.Null = Some kind
unified type.Boolean type.Boolean = Some type.Boolean
unified type.Int type.Int = Some type.Int
unified type.Int type.BigInt = Some type.BigInt
unified type.BigInt type.Int = Some type.BigInt
unified type.BigInt type.BigInt = Some type.BigInt
unified type.Str type.Str = Some type.Str
unified type.Date type.Date = Some type.Date
unified (type.ArrayOf a) (type.ArrayOf b) = option_map type.ArrayOf (unified_elem a b)
unified _ _ = None

-- to be compared: a STRING beside a DATE is read as a date, and no array is compared
abbrev pub comparable : SqlType → SqlType → Option SqlType
comparable type.Str type.Date = Some type.Date
comparable type.Date type.Str = Some type.Date
comparable (type.ArrayOf a) _ = None
comparable _ (type.ArrayOf b) = None
comparable left right = unified left right

abbrev pub met : Meeting → SqlType → SqlType → Option SqlType
met meeting.Unified left right = unified left right
met meeting.Compared left right = comparable left right

-- the wider one of two integer types
abbrev pub wider : SqlType → SqlType → SqlType
wider type.Int type.Int = type.Int
wider _ _ = type.BigInt

abbrev pub scalar_type : Elem → SqlType
scalar_type elem.Null = type.Null
scalar_type elem.Boolean = type.Boolean
scalar_type elem.Int = type.Int
scalar_type elem.BigInt = type.BigInt
scalar_type elem.Str = type.Str
scalar_type elem.Date = type.Date

-- the type of an array's elements: no array has arrays among its elements
abbrev pub element_type : SqlType → Option Elem
element_type type.Null = Some elem.Null
element_type type.Boolean = Some elem.Boolean
element_type type.Int = Some elem.Int
element_type type.BigInt = Some elem.BigInt
element_type type.Str = Some elem.Str
element_type type.Date = Some elem.Date
element_type (type.ArrayOf e) = None

-- ---- what a place asks for: the type as which an operand is taken there, None where it may not stand.
-- NULL is taken as what the place asks for, and as INT where integers of both widths may stand.

abbrev pub asked : Place → SqlType → Option SqlType
asked place.Any kind = Some kind
asked place.Truth type.Null = Some type.Boolean
asked place.Truth type.Boolean = Some type.Boolean
asked place.Integer type.Null = Some type.Int
asked place.Integer type.Int = Some type.Int
asked place.Integer type.BigInt = Some type.BigInt
asked place.Int type.Null = Some type.Int
asked place.Int type.Int = Some type.Int
asked place.Text type.Null = Some type.Str
asked place.Text type.Str = Some type.Str
asked place.Date type.Null = Some type.Date
asked place.Date type.Date = Some type.Date
asked place.Date type.Str = Some type.Date
asked place.Array type.Null = Some (type.ArrayOf elem.Null)
asked place.Array (type.ArrayOf e) = Some (type.ArrayOf e)
asked place.Ordered (type.ArrayOf e) = None
asked place.Ordered kind = Some kind
asked _ _ = None

-- the type of what is given, by the types of the first two operands
abbrev pub element_given : SqlType → SqlType
element_given (type.ArrayOf e) = scalar_type e
element_given _ = type.Null

abbrev pub given : Gives → SqlType → SqlType → SqlType
given (gives.Fixed kind) first second = kind
given gives.Same first second = first
given gives.Wider first second = wider first second
given gives.Element first second = element_given first
