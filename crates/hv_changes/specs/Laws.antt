-- The condition of a static partition tells partitions apart as they are told apart everywhere: by the order of values.
use Rattle.std.specs.Prelude.{◌≡◌, Bool, true, false, IsTrue}
use Rattle.std.specs.Ordering.{is_eq}
use Rattle.hv_value.specs.declared.sql_type.SqlType.{SqlType}
use Rattle.hv_value.specs.declared.sql_type.SqlType.TheVariants as type
use Rattle.hv_value.specs.declared.value.Value.{Value}
use Rattle.hv_value.specs.Conversion.{is_of}
use Rattle.hv_value.specs.Order.{value_cmp}
use Rattle.hv_expr.specs.Values.{null_safe_equal}

-- the types of partition columns
abbrev pub is_flat : SqlType → Bool
is_flat (type.ArrayOf e) = false
is_flat _ = true

-- of two values of one such type `<=>` asks whether they are one value, and NULL is one value
abbrev pub PartsMeetAlike : Type 0
PartsMeetAlike =
    (kind : SqlType) (a b : Value) → IsTrue (is_flat kind) → IsTrue (is_of kind a) → IsTrue (is_of kind b)
    → null_safe_equal a b ≡ is_eq (value_cmp a b)
