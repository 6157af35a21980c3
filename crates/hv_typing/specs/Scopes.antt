-- The names in scope. Source: Hive Language Manual, Select (columns may be qualified by the name or alias of their
-- table).
use Rattle.std.specs.Prelude.{ℕ, ◌+◌, Bool, true, false, if◌then◌else◌, ◌&&◌, List, [], ◌∷◌, Option, None, Some, Result, Ok, Err, nat_eq}
use Rattle.std.specs.Cmp.Lexicographic.{pointwise}
use Rattle.hv_base.specs.declared.refusal.Refusal.{Refusal}
use Rattle.hv_base.specs.declared.refusal.Refusal.TheVariants as refusal
use Rattle.hv_expr.specs.declared.tree.TypedExpr.{TypedExpr}
use Rattle.hv_expr.specs.declared.tree.TypedExpr.TheVariants as tree
use Rattle.hv_typing.specs.declared.scope.Field.{Field}

abbrev pub same_name : List ℕ → List ℕ → Bool
same_name = pointwise nat_eq

-- a name means the columns of that name, and a qualified one those of that source alone
abbrev pub is_meant : Option (List ℕ) → List ℕ → Field → Bool
is_meant None name field = same_name field.name name
is_meant (Some source) name field = same_name field.source source && same_name field.name name

abbrev pub is_any_meant : Option (List ℕ) → List ℕ → List Field → Bool
is_any_meant source name [] = false
is_any_meant source name (field ∷ fields) = if is_meant source name field then true else is_any_meant source name fields

-- a name must mean one column: none is NoColumn, several are Ambiguous
abbrev pub column_typed : ℕ → Option (List ℕ) → List ℕ → List Field → Result TypedExpr Refusal
column_typed place source name [] = Err refusal.NoColumn
column_typed place source name (field ∷ fields) =
    if is_meant source name field
    then (if is_any_meant source name fields then Err refusal.Ambiguous else Ok (tree.Column place field.kind))
    else column_typed (place + 1) source name fields
