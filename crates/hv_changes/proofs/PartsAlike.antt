-- `<=>` on values of one type that isn't an ARRAY is the equality of their order.
use Rattle.std.proofs.Common.{◌≡◌, Bool, true, cond, refl, sym, ap, ◌∙◌}
use Rattle.std.specs.Ordering.{nat_cmp, int_cmp, bool_cmp, is_eq, ordering_then}
use Rattle.std.specs.declared.cmp.Ordering.{Ordering}
use Rattle.std.specs.declared.cmp.Ordering.TheVariants.{Less, Equal, Greater}
use Rattle.std.specs.Cmp.Lexicographic.{slice_cmp}
use Rattle.std.specs.Option.{option_map}
use Rattle.hv_value.specs.declared.sql_type.SqlType.{SqlType}
use Rattle.hv_value.specs.declared.sql_type.SqlType.TheVariants as type
use Rattle.hv_value.specs.declared.value.Value.{Value}
use Rattle.hv_value.specs.declared.value.Value.TheOpen.{Value-F}
use Rattle.hv_value.specs.declared.value.Value.TheViews.{out-Value}
use Rattle.hv_value.specs.Conversion.{is_layer_in}
use Rattle.hv_value.specs.Order.{scalar_cmp, layer_cmp, value_cmp}
use Rattle.hv_value.specs.OrderLaws.{value_cmp-out}
use Rattle.hv_expr.specs.Values.{holds, layers_compare, layer_is_nothing, compare}
use Rattle.hv_changes.specs.Laws.{is_flat, PartsMeetAlike}

abbrev layers_meet : Value-F Value → Value-F Value → Bool
layers_meet x y = cond (layer_is_nothing x) (layer_is_nothing y) (holds (option_map is_eq (layers_compare x y)))

-- by what two values hold, where nothing before tells them apart and nothing comes behind
truths : (o : Ordering) → is_eq o ≡ is_eq (ordering_then (ordering_then (ordering_then (ordering_then o Equal) Equal) Equal) Equal)
truths Less = refl
truths Equal = refl
truths Greater = refl

numbers : (o : Ordering) → is_eq o ≡ is_eq (ordering_then (ordering_then (ordering_then o Equal) Equal) Equal)
numbers Less = refl
numbers Equal = refl
numbers Greater = refl

texts : (o : Ordering) → is_eq o ≡ is_eq (ordering_then o Equal)
texts Less = refl
texts Equal = refl
texts Greater = refl

alike : (kind : SqlType) (x y : Value-F Value) → is_flat kind ≡ true → is_layer_in kind x ≡ true → is_layer_in kind y ≡ true
    → layers_meet x y ≡ is_eq (layer_cmp value_cmp x y)
unfolding layer_cmp scalar_cmp
alike type.Null Value-F.Null Value-F.Null f p q = refl
alike type.Boolean Value-F.Null Value-F.Null f p q = refl
alike type.Boolean Value-F.Null (Value-F.Bool b) f p q = refl
alike type.Boolean (Value-F.Bool a) Value-F.Null f p q = refl
alike type.Boolean (Value-F.Bool a) (Value-F.Bool b) f p q = truths (bool_cmp a b)
alike type.Int Value-F.Null Value-F.Null f p q = refl
alike type.Int Value-F.Null (Value-F.Int b) f p q = refl
alike type.Int (Value-F.Int a) Value-F.Null f p q = refl
alike type.Int (Value-F.Int a) (Value-F.Int b) f p q = numbers (int_cmp a b)
alike type.BigInt Value-F.Null Value-F.Null f p q = refl
alike type.BigInt Value-F.Null (Value-F.Big b) f p q = refl
alike type.BigInt (Value-F.Big a) Value-F.Null f p q = refl
alike type.BigInt (Value-F.Big a) (Value-F.Big b) f p q = numbers (int_cmp a b)
alike type.Str Value-F.Null Value-F.Null f p q = refl
alike type.Str Value-F.Null (Value-F.Str b) f p q = refl
alike type.Str (Value-F.Str a) Value-F.Null f p q = refl
alike type.Str (Value-F.Str a) (Value-F.Str b) f p q = texts (slice_cmp nat_cmp a b)
alike type.Date Value-F.Null Value-F.Null f p q = refl
alike type.Date Value-F.Null (Value-F.Day b) f p q = refl
alike type.Date (Value-F.Day a) Value-F.Null f p q = refl
alike type.Date (Value-F.Day a) (Value-F.Day b) f p q = numbers (int_cmp a b)
alike kind x y f p q = cc

pub parts-alike : PartsMeetAlike
unfolding compare
parts-alike kind a b f p q = alike kind (out-Value a) (out-Value b) f p q ∙ ap is_eq (sym (value_cmp-out a b))
