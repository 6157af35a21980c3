-- The functions by their names, and how many arguments each takes. An unknown function is NoColumn, another number of
-- arguments BadCount. Source: Hive Language Manual, UDFs.
use Rattle.std.specs.Prelude.{ℕ, Bool, true, false, if◌then◌else◌, List, [], ◌∷◌, length, nat_le, Option, None, Some, Result, Ok, Err, codes, is_some}
use Rattle.std.specs.Str.{bytes_eq}
use Rattle.hv_base.specs.declared.refusal.Refusal.{Refusal}
use Rattle.hv_base.specs.declared.refusal.Refusal.TheVariants as refusal
use Rattle.hv_expr.specs.declared.function.Aggregate.TheVariants as aggregate
use Rattle.hv_expr.specs.declared.function.Many.{Many}
use Rattle.hv_expr.specs.declared.function.Many.TheVariants as many
use Rattle.hv_expr.specs.declared.function.One.TheVariants as one
use Rattle.hv_expr.specs.declared.function.Three.{Three}
use Rattle.hv_expr.specs.declared.function.Three.TheVariants as three
use Rattle.hv_expr.specs.declared.function.Two.{Two}
use Rattle.hv_expr.specs.declared.function.Two.TheVariants as two
use Rattle.hv_expr.specs.declared.tree.TypedExpr.{TypedExpr}
use Rattle.hv_typing.specs.declared.names.Function.{Function}
use Rattle.hv_typing.specs.declared.names.Function.TheVariants as function
use Rattle.hv_typing.specs.declared.scope.Over.{Over}
use Rattle.hv_typing.specs.declared.scope.Over.TheVariants.{Row}
use Rattle.hv_typing.specs.Nodes.{one_typed, two_typed, three_typed, many_typed, aggregate_typed}

unfoldable pub functions : List (List ℕ × Function)
functions =
    (codes "if", function.Three three.If)
    ∷ (codes "nvl", function.Two two.Nvl)
    ∷ (codes "coalesce", function.Many many.Coalesce)
    ∷ (codes "array", function.Many many.Array)
    ∷ (codes "size", function.One one.Size)
    ∷ (codes "concat", function.Many many.Concat)
    ∷ (codes "substr", function.Part two.Substr three.Substr)
    ∷ (codes "substring", function.Part two.Substring three.Substring)
    ∷ (codes "length", function.One one.Length)
    ∷ (codes "instr", function.Two two.Instr)
    ∷ (codes "lower", function.One one.Lower)
    ∷ (codes "upper", function.One one.Upper)
    ∷ (codes "trim", function.One one.Trim)
    ∷ (codes "abs", function.One one.Abs)
    ∷ (codes "pmod", function.Two two.Pmod)
    ∷ (codes "date_add", function.Two two.DateAdd)
    ∷ (codes "date_sub", function.Two two.DateSub)
    ∷ (codes "datediff", function.Two two.DateDiff)
    ∷ (codes "year", function.One one.Year)
    ∷ (codes "month", function.One one.Month)
    ∷ (codes "day", function.One one.Day)
    ∷ (codes "count", function.Aggregate aggregate.Count)
    ∷ (codes "sum", function.Aggregate aggregate.Sum)
    ∷ (codes "min", function.Aggregate aggregate.Min)
    ∷ (codes "max", function.Aggregate aggregate.Max) ∷ []

-- the function in the first row of that name
abbrev pub look_up : List (List ℕ × Function) → List ℕ → Option Function
look_up [] name = None
look_up (row ∷ rows) name = if bytes_eq row.0 name then Some row.1 else look_up rows name

abbrev pub function_named : List ℕ → Option Function
function_named name = look_up functions name

-- the arguments of an aggregate are over a row
abbrev pub arguments_over : Option Function → Over → Over
arguments_over (Some (function.Aggregate aggregate)) over = Row
arguments_over _ over = over

-- ---- the number of arguments

abbrev pub only : {A : Type 0} → List A → Option A
only (x ∷ []) = Some x
only _ = None

abbrev pub pair : {A : Type 0} → List A → Option (A × A)
pair (x ∷ y ∷ []) = Some (x, y)
pair _ = None

abbrev pub triple : {A : Type 0} → List A → Option (A × (A × A))
triple (x ∷ y ∷ z ∷ []) = Some (x, (y, z))
triple _ = None

abbrev pub counted : {A : Type 0} → (A → Result TypedExpr Refusal) → Option A → Result TypedExpr Refusal
counted typed None = Err refusal.BadCount
counted typed (Some arguments) = typed arguments

abbrev pub call_two : Two → Option (TypedExpr × TypedExpr) → Result TypedExpr Refusal
call_two function found = counted (λ xs. two_typed function xs.0 xs.1) found

abbrev pub call_three : Three → Option (TypedExpr × (TypedExpr × TypedExpr)) → Result TypedExpr Refusal
call_three function found = counted (λ xs. three_typed function xs.0 xs.1.0 xs.1.1) found

-- at least so many
abbrev pub fewest : Many → ℕ
fewest many.And = 0
fewest many.Or = 0
fewest many.Coalesce = 1
fewest many.Concat = 2
fewest many.Array = 0

abbrev pub call_many : Many → List TypedExpr → Result TypedExpr Refusal
call_many function xs = if nat_le (fewest function) (length xs) then many_typed function xs else Err refusal.BadCount

-- `substr`, of two or of three
abbrev pub call_part : Two → Three → List TypedExpr → Result TypedExpr Refusal
call_part of_two of_three xs =
    if is_some (pair xs) then call_two of_two (pair xs) else call_three of_three (triple xs)

-- DISTINCT has an effect in aggregates alone
unfoldable pub call_typed : Option Function → Bool → Over → List TypedExpr → Result TypedExpr Refusal
call_typed None distinct over xs = Err refusal.NoColumn
call_typed (Some (function.One one)) distinct over xs = counted (one_typed one) (only xs)
call_typed (Some (function.Two two)) distinct over xs = call_two two (pair xs)
call_typed (Some (function.Three three)) distinct over xs = call_three three (triple xs)
call_typed (Some (function.Part two three)) distinct over xs = call_part two three xs
call_typed (Some (function.Many many)) distinct over xs = call_many many xs
call_typed (Some (function.Aggregate aggregate)) distinct over xs = counted (aggregate_typed aggregate distinct over) (only xs)
