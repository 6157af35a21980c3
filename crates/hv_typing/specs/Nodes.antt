-- Each kind of node over typed operands, or BadType. Conversions are CASTs in the typed tree.
-- Source: Hive Language Manual, operators, types and UDFs.
use Rattle.std.specs.Prelude.{ℤ, Bool, if◌then◌else◌, ◌&&◌, is_some, is_none, List, [], ◌∷◌, map, Option, None, Some, option_map, option_and_then, Result, Ok, Err}
use Rattle.std.specs.List.{list_all}
use Rattle.hv_base.specs.declared.refusal.Refusal.{Refusal}
use Rattle.hv_base.specs.declared.refusal.Refusal.TheVariants as refusal
use Rattle.hv_logic.specs.hv_ast.specs.declared.expr.Arithmetic.{Arithmetic}
use Rattle.hv_logic.specs.hv_ast.specs.declared.expr.Arithmetic.TheVariants as written
use Rattle.hv_logic.specs.hv_ast.specs.declared.expr.Binary.{Binary}
use Rattle.hv_logic.specs.hv_ast.specs.declared.expr.Binary.TheVariants as binary
use Rattle.hv_logic.specs.hv_ast.specs.declared.expr.Literal.{Literal}
use Rattle.hv_logic.specs.hv_ast.specs.declared.expr.Literal.TheVariants as literal
use Rattle.hv_logic.specs.hv_ast.specs.declared.expr.Unary.{Unary}
use Rattle.hv_logic.specs.hv_ast.specs.declared.expr.Unary.TheVariants as unary
use Rattle.hv_logic.specs.hv_value.specs.declared.sql_type.Elem.{Elem}
use Rattle.hv_logic.specs.hv_value.specs.declared.sql_type.SqlType.{SqlType}
use Rattle.hv_logic.specs.hv_value.specs.declared.sql_type.SqlType.TheVariants as type
use Rattle.hv_logic.specs.hv_value.specs.declared.value.Value.TheVariants as value
use Rattle.hv_logic.specs.hv_value.specs.Conversion.{is_convertible}
use Rattle.hv_logic.specs.hv_value.specs.Dates.{day_of_text}
use Rattle.hv_expr.specs.declared.function.Aggregate.{Aggregate}
use Rattle.hv_expr.specs.declared.function.Aggregate.TheVariants as aggregate
use Rattle.hv_expr.specs.declared.function.Arithmetic.{Arithmetic as TypedArithmetic}
use Rattle.hv_expr.specs.declared.function.Arithmetic.TheVariants as arithmetic
use Rattle.hv_expr.specs.declared.function.Many.{Many}
use Rattle.hv_expr.specs.declared.function.Many.TheVariants as many
use Rattle.hv_expr.specs.declared.function.One.{One}
use Rattle.hv_expr.specs.declared.function.One.TheVariants as one
use Rattle.hv_expr.specs.declared.function.Three.{Three}
use Rattle.hv_expr.specs.declared.function.Three.TheVariants as three
use Rattle.hv_expr.specs.declared.function.Two.{Two}
use Rattle.hv_expr.specs.declared.function.Two.TheVariants as two
use Rattle.hv_expr.specs.declared.tree.Branch.{Branch}
use Rattle.hv_expr.specs.declared.tree.Link.{Link}
use Rattle.hv_expr.specs.declared.tree.TypedExpr.{TypedExpr}
use Rattle.hv_expr.specs.declared.tree.TypedExpr.TheVariants as tree
use Rattle.hv_typing.specs.declared.kinds.Meeting.{Meeting}
use Rattle.hv_typing.specs.declared.kinds.Meeting.TheVariants as meeting
use Rattle.hv_typing.specs.declared.places.Gives.{Gives}
use Rattle.hv_typing.specs.declared.places.Gives.TheVariants as gives
use Rattle.hv_typing.specs.declared.places.Pair.{Pair}
use Rattle.hv_typing.specs.declared.places.Pair.TheVariants as pair
use Rattle.hv_typing.specs.declared.places.Place.{Place}
use Rattle.hv_typing.specs.declared.places.Place.TheVariants as place
use Rattle.hv_typing.specs.declared.scope.Over.{Over}
use Rattle.hv_typing.specs.declared.scope.Over.TheVariants as over
use Rattle.hv_typing.specs.Faults.{and_then}
use Rattle.hv_typing.specs.Kinds.{kind_of, same_type, met, comparable, wider, element_type, asked, given}

-- ---- conversions

-- as this type: a CAST, where it is of another
abbrev pub as_kind : SqlType → TypedExpr → TypedExpr
as_kind to x = if same_type (kind_of x) to then x else tree.One one.Cast to x

-- whether it may stand at a place, and as what it is taken there
abbrev pub stands : Place → TypedExpr → Bool
stands place x = is_some (asked place (kind_of x))

abbrev pub as_asked : TypedExpr → Option SqlType → TypedExpr
as_asked x None = x
as_asked x (Some to) = as_kind to x

unfoldable pub taken_at : Place → TypedExpr → TypedExpr
taken_at place x = as_asked x (asked place (kind_of x))

abbrev pub placed : Place → TypedExpr → Result TypedExpr Refusal
placed place x = if stands place x then Ok (taken_at place x) else Err refusal.BadType

-- a CAST that is written
unfoldable pub cast_typed : SqlType → TypedExpr → Result TypedExpr Refusal
cast_typed to x = if is_convertible (kind_of x) to then Ok (tree.One one.Cast to x) else Err refusal.BadType

-- the one type of these expressions and of what stands before them
abbrev pub one_kind : Meeting → SqlType → List TypedExpr → Option SqlType
one_kind meeting kind [] = Some kind
one_kind meeting kind (x ∷ xs) = option_and_then (λ found. one_kind meeting found xs) (met meeting kind (kind_of x))

-- ---- literals

abbrev pub date_typed : Option ℤ → Result TypedExpr Refusal
date_typed None = Err refusal.BadType
date_typed (Some day) = Ok (tree.Literal (value.Day day) type.Date)

abbrev pub literal_typed : Literal → Result TypedExpr Refusal
literal_typed literal.Null = Ok (tree.Literal value.Null type.Null)
literal_typed (literal.Bool truth) = Ok (tree.Literal (value.Bool truth) type.Boolean)
literal_typed (literal.Int number) = Ok (tree.Literal (value.Int number) type.Int)
literal_typed (literal.Big number) = Ok (tree.Literal (value.Big number) type.BigInt)
literal_typed (literal.Str text) = Ok (tree.Literal (value.Str text) type.Str)
literal_typed (literal.Date text) = date_typed (day_of_text text)

-- ---- one operand: the place that it stands at, and what is given

abbrev pub one_place : One → Place
one_place one.Plus = place.Integer
one_place one.Minus = place.Integer
one_place one.Not = place.Truth
one_place one.IsNull = place.Any
one_place one.IsNotNull = place.Any
one_place one.Cast = place.Any
one_place one.Size = place.Array
one_place one.Length = place.Text
one_place one.Lower = place.Text
one_place one.Upper = place.Text
one_place one.Trim = place.Text
one_place one.Abs = place.Integer
one_place one.Year = place.Date
one_place one.Month = place.Date
one_place one.Day = place.Date

abbrev pub one_gives : One → Gives
one_gives one.Plus = gives.Same
one_gives one.Minus = gives.Same
one_gives one.Not = gives.Fixed type.Boolean
one_gives one.IsNull = gives.Fixed type.Boolean
one_gives one.IsNotNull = gives.Fixed type.Boolean
one_gives one.Cast = gives.Same
one_gives one.Size = gives.Fixed type.Int
one_gives one.Length = gives.Fixed type.Int
one_gives one.Lower = gives.Fixed type.Str
one_gives one.Upper = gives.Fixed type.Str
one_gives one.Trim = gives.Fixed type.Str
one_gives one.Abs = gives.Same
one_gives one.Year = gives.Fixed type.Int
one_gives one.Month = gives.Fixed type.Int
one_gives one.Day = gives.Fixed type.Int

abbrev pub one_of : One → TypedExpr → TypedExpr
one_of function x = tree.One function (given (one_gives function) (kind_of x) type.Null) x

unfoldable pub one_typed : One → TypedExpr → Result TypedExpr Refusal
one_typed function x = and_then (placed (one_place function) x) (λ x. Ok (one_of function x))

abbrev pub unary_of : Unary → One
unary_of unary.Not = one.Not
unary_of unary.Plus = one.Plus
unary_of unary.Minus = one.Minus
unary_of unary.IsNull = one.IsNull
unary_of unary.IsNotNull = one.IsNotNull

-- ---- two operands

abbrev pub two_pair : Two → Pair
two_pair two.Equal = pair.Compared
two_pair two.Unequal = pair.Compared
two_pair two.Less = pair.Compared
two_pair two.AtMost = pair.Compared
two_pair two.Greater = pair.Compared
two_pair two.AtLeast = pair.Compared
two_pair two.NullSafeEqual = pair.Compared
two_pair two.Like = pair.Placed place.Text place.Text (gives.Fixed type.Boolean)
two_pair two.NotLike = pair.Placed place.Text place.Text (gives.Fixed type.Boolean)
two_pair two.Element = pair.Placed place.Array place.Integer gives.Element
two_pair two.Nvl = pair.Unified
two_pair two.Substr = pair.Placed place.Text place.Integer (gives.Fixed type.Str)
two_pair two.Substring = pair.Placed place.Text place.Integer (gives.Fixed type.Str)
two_pair two.Instr = pair.Placed place.Text place.Text (gives.Fixed type.Int)
two_pair two.Pmod = pair.Placed place.Integer place.Integer gives.Wider
two_pair two.DateAdd = pair.Placed place.Date place.Int (gives.Fixed type.Date)
two_pair two.DateSub = pair.Placed place.Date place.Int (gives.Fixed type.Date)
two_pair two.DateDiff = pair.Placed place.Date place.Date (gives.Fixed type.Int)

-- both as one type; what is given is of it, or a truth value
abbrev pub met_kind : Meeting → SqlType → SqlType
met_kind meeting.Unified kind = kind
met_kind meeting.Compared kind = type.Boolean

abbrev pub two_as : Two → Meeting → TypedExpr → TypedExpr → Option SqlType → Result TypedExpr Refusal
two_as function meeting x y None = Err refusal.BadType
two_as function meeting x y (Some kind) = Ok (tree.Two function (met_kind meeting kind) (as_kind kind x) (as_kind kind y))

abbrev pub two_met : Two → Meeting → TypedExpr → TypedExpr → Result TypedExpr Refusal
two_met function meeting x y = two_as function meeting x y (met meeting (kind_of x) (kind_of y))

abbrev pub two_of : Two → Gives → TypedExpr → TypedExpr → TypedExpr
two_of function gives x y = tree.Two function (given gives (kind_of x) (kind_of y)) x y

abbrev pub two_placed : Two → Place → Place → Gives → TypedExpr → TypedExpr → Result TypedExpr Refusal
two_placed function first second gives x y =
    and_then (placed first x) (λ x. and_then (placed second y) (λ y. Ok (two_of function gives x y)))

abbrev pub pair_typed : Two → Pair → TypedExpr → TypedExpr → Result TypedExpr Refusal
pair_typed function pair.Compared x y = two_met function meeting.Compared x y
pair_typed function pair.Unified x y = two_met function meeting.Unified x y
pair_typed function (pair.Placed first second gives) x y = two_placed function first second gives x y

unfoldable pub two_typed : Two → TypedExpr → TypedExpr → Result TypedExpr Refusal
two_typed function x y = pair_typed function (two_pair function) x y

abbrev pub binary_of : Binary → Two
binary_of binary.Equal = two.Equal
binary_of binary.Unequal = two.Unequal
binary_of binary.Less = two.Less
binary_of binary.AtMost = two.AtMost
binary_of binary.Greater = two.Greater
binary_of binary.AtLeast = two.AtLeast
binary_of binary.NullSafeEqual = two.NullSafeEqual
binary_of binary.Like = two.Like
binary_of binary.NotLike = two.NotLike
binary_of binary.Element = two.Element

-- ---- three operands

abbrev pub three_kind : SqlType → SqlType → SqlType → Option SqlType
three_kind first second third =
    option_and_then (λ kind. met meeting.Compared kind third) (met meeting.Compared first second)

abbrev pub between_of : Three → TypedExpr → TypedExpr → TypedExpr → Option SqlType → Result TypedExpr Refusal
between_of function x low high None = Err refusal.BadType
between_of function x low high (Some kind) =
    Ok (tree.Three function type.Boolean (as_kind kind x) (as_kind kind low) (as_kind kind high))

-- all three get one type
abbrev pub between_typed : Three → TypedExpr → TypedExpr → TypedExpr → Result TypedExpr Refusal
between_typed function x low high = between_of function x low high (three_kind (kind_of x) (kind_of low) (kind_of high))

abbrev pub if_of : TypedExpr → TypedExpr → TypedExpr → Option SqlType → Result TypedExpr Refusal
if_of condition x y None = Err refusal.BadType
if_of condition x y (Some kind) = Ok (tree.Three three.If kind condition (as_kind kind x) (as_kind kind y))

abbrev pub if_typed : TypedExpr → TypedExpr → TypedExpr → Result TypedExpr Refusal
if_typed condition x y =
    and_then (placed place.Truth condition) (λ condition. if_of condition x y (met meeting.Unified (kind_of x) (kind_of y)))

abbrev pub part_typed : Three → TypedExpr → TypedExpr → TypedExpr → Result TypedExpr Refusal
part_typed function text from count =
    and_then (placed place.Text text) (λ text.
    and_then (placed place.Integer from) (λ from.
    and_then (placed place.Integer count) (λ count. Ok (tree.Three function type.Str text from count))))

unfoldable pub three_typed : Three → TypedExpr → TypedExpr → TypedExpr → Result TypedExpr Refusal
three_typed three.If x y z = if_typed x y z
three_typed three.Between x y z = between_typed three.Between x y z
three_typed three.NotBetween x y z = between_typed three.NotBetween x y z
three_typed three.Substr x y z = part_typed three.Substr x y z
three_typed three.Substring x y z = part_typed three.Substring x y z

-- ---- a row of operands

abbrev pub all_stand : Place → List TypedExpr → Bool
all_stand place xs = list_all (stands place) xs

abbrev pub many_placed : Many → Place → SqlType → List TypedExpr → Result TypedExpr Refusal
many_placed function place kind xs =
    if all_stand place xs then Ok (tree.Many function kind (map (taken_at place) xs)) else Err refusal.BadType

abbrev pub coalesce_of : List TypedExpr → Option SqlType → Result TypedExpr Refusal
coalesce_of xs None = Err refusal.BadType
coalesce_of xs (Some kind) = Ok (tree.Many many.Coalesce kind (map (as_kind kind) xs))

abbrev pub array_of_elements : List TypedExpr → SqlType → Option Elem → Result TypedExpr Refusal
array_of_elements xs kind None = Err refusal.BadType
array_of_elements xs kind (Some elem) = Ok (tree.Many many.Array (type.ArrayOf elem) (map (as_kind kind) xs))

abbrev pub array_of : List TypedExpr → Option SqlType → Result TypedExpr Refusal
array_of xs None = Err refusal.BadType
array_of xs (Some kind) = array_of_elements xs kind (element_type kind)

unfoldable pub many_typed : Many → List TypedExpr → Result TypedExpr Refusal
many_typed many.And xs = many_placed many.And place.Truth type.Boolean xs
many_typed many.Or xs = many_placed many.Or place.Truth type.Boolean xs
many_typed many.Concat xs = many_placed many.Concat place.Text type.Str xs
many_typed many.Coalesce xs = coalesce_of xs (one_kind meeting.Unified type.Null xs)
many_typed many.Array xs = array_of xs (one_kind meeting.Unified type.Null xs)

-- ---- a chain of numbers: an INT where all its operands are; each step has its own width

abbrev pub arithmetic_of : Arithmetic → TypedArithmetic
arithmetic_of written.Add = arithmetic.Add
arithmetic_of written.Subtract = arithmetic.Subtract
arithmetic_of written.Multiply = arithmetic.Multiply
arithmetic_of written.Divide = arithmetic.Divide
arithmetic_of written.Remainder = arithmetic.Remainder

abbrev pub link_of : TypedArithmetic → TypedExpr → Link TypedExpr
link_of operator operand = record { operator = operator; operand = operand }

abbrev pub link_stands : Link TypedExpr → Bool
link_stands link = stands place.Integer link.operand

abbrev pub link_taken : Link TypedExpr → Link TypedExpr
link_taken link = link_of link.operator (taken_at place.Integer link.operand)

abbrev pub widest : SqlType → List (Link TypedExpr) → SqlType
widest kind [] = kind
widest kind (link ∷ links) = widest (wider kind (kind_of link.operand)) links

abbrev pub chain_of : TypedExpr → List (Link TypedExpr) → TypedExpr
chain_of first links = tree.Chain (widest (kind_of first) links) first links

unfoldable pub chain_typed : TypedExpr → List (Link TypedExpr) → Result TypedExpr Refusal
chain_typed first links =
    if stands place.Integer first && list_all link_stands links
    then Ok (chain_of (taken_at place.Integer first) (map link_taken links))
    else Err refusal.BadType

-- ---- IN: all get one type

abbrev pub in_of : TypedExpr → Bool → List TypedExpr → Option SqlType → Result TypedExpr Refusal
in_of x negated among None = Err refusal.BadType
in_of x negated among (Some kind) = Ok (tree.In (as_kind kind x) negated (map (as_kind kind) among))

unfoldable pub in_typed : TypedExpr → Bool → List TypedExpr → Result TypedExpr Refusal
in_typed x negated among = in_of x negated among (one_kind meeting.Compared type.Null (x ∷ among))

-- ---- CASE: a WHEN is a condition, or beside an operand something that is compared to it

abbrev pub branch_of : TypedExpr → TypedExpr → Branch TypedExpr
branch_of condition x = record { condition = condition; value = x }

abbrev pub is_condition : Option TypedExpr → TypedExpr → Bool
is_condition None x = stands place.Truth x
is_condition (Some operand) x = is_some (comparable (kind_of operand) (kind_of x))

abbrev pub condition_as : Bool → TypedExpr → TypedExpr
condition_as is_alone x = if is_alone then taken_at place.Truth x else x

abbrev pub branch_stands : Option TypedExpr → Branch TypedExpr → Bool
branch_stands operand branch = is_condition operand branch.condition

abbrev pub branch_kind : SqlType → List (Branch TypedExpr) → Option SqlType
branch_kind kind [] = Some kind
branch_kind kind (branch ∷ branches) =
    option_and_then (λ found. branch_kind found branches) (met meeting.Unified kind (kind_of branch.value))

abbrev pub kind_with : Option TypedExpr → SqlType → Option SqlType
kind_with None kind = Some kind
kind_with (Some otherwise) kind = met meeting.Unified kind (kind_of otherwise)

-- the one type of the values
abbrev pub case_kind : List (Branch TypedExpr) → Option TypedExpr → Option SqlType
case_kind branches otherwise = option_and_then (kind_with otherwise) (branch_kind type.Null branches)

abbrev pub branch_as : Bool → SqlType → Branch TypedExpr → Branch TypedExpr
branch_as is_alone kind branch = branch_of (condition_as is_alone branch.condition) (as_kind kind branch.value)

abbrev pub case_of : Option TypedExpr → List (Branch TypedExpr) → Option TypedExpr → Option SqlType → Result TypedExpr Refusal
case_of operand branches otherwise None = Err refusal.BadType
case_of operand branches otherwise (Some kind) =
    Ok (tree.Case kind operand (map (branch_as (is_none operand) kind) branches) (option_map (as_kind kind) otherwise))

unfoldable pub case_typed : Option TypedExpr → List (Branch TypedExpr) → Option TypedExpr → Result TypedExpr Refusal
case_typed operand branches otherwise =
    if list_all (branch_stands operand) branches
    then case_of operand branches otherwise (case_kind branches otherwise)
    else Err refusal.BadType

-- ---- aggregates: refused last, where an expression is over a row alone

abbrev pub aggregated : Over → TypedExpr → Result TypedExpr Refusal
aggregated over.Row x = Err refusal.NotGrouped
aggregated over.Group x = Ok x

abbrev pub aggregate_place : Aggregate → Place
aggregate_place aggregate.Count = place.Any
aggregate_place aggregate.Sum = place.Integer
aggregate_place aggregate.Min = place.Ordered
aggregate_place aggregate.Max = place.Ordered

abbrev pub aggregate_gives : Aggregate → Gives
aggregate_gives aggregate.Count = gives.Fixed type.BigInt
aggregate_gives aggregate.Sum = gives.Fixed type.BigInt
aggregate_gives aggregate.Min = gives.Same
aggregate_gives aggregate.Max = gives.Same

abbrev pub aggregate_of : Aggregate → Bool → TypedExpr → TypedExpr
aggregate_of function distinct x =
    tree.Aggregate function distinct (given (aggregate_gives function) (kind_of x) type.Null) x

unfoldable pub aggregate_typed : Aggregate → Bool → Over → TypedExpr → Result TypedExpr Refusal
aggregate_typed function distinct over x =
    and_then (placed (aggregate_place function) x) (λ x. aggregated over (aggregate_of function distinct x))
