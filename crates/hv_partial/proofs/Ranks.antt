-- How two values compare that are NULL or scalars of one type.
use Rattle.std.proofs.Common.{◌≡◌, ℕ, ℤ, List, refl, sym, ◌∙◌}
use Rattle.std.specs.declared.cmp.Ordering.{Ordering}
use Rattle.std.specs.declared.cmp.Ordering.TheVariants.{Less, Equal, Greater}
use Rattle.std.specs.Ordering.{ordering_then, nat_cmp, int_cmp}
use Rattle.std.specs.Cmp.Lexicographic.{slice_cmp}
use Rattle.hv_value.specs.declared.value.Value.{Value}
use Rattle.hv_value.specs.declared.value.Value.TheOpen.{Value-F}
use Rattle.hv_value.specs.declared.value.Value.TheViews.{roll-Value, out-roll-Value}
use Rattle.hv_value.specs.Order.{scalar_cmp, layer_cmp, value_cmp}
use Rattle.hv_value.specs.OrderLaws.{value_cmp-out}
use Rattle.hv_seen.specs.declared.seen.Seen.{Seen}
use Rattle.hv_seen.specs.Seen.{seen_layer, seen_value}
use Rattle.hv_eval.proofs.Accumulators.{then_equal}

ranked : (x y : Value-F Value) → value_cmp (roll-Value x) (roll-Value y) ≡ layer_cmp value_cmp x y
ranked x y = value_cmp-out (roll-Value x) (roll-Value y) ∙ (λ i. layer_cmp value_cmp (out-roll-Value x i) (out-roll-Value y i))

then_all_equal : (o : Ordering) → ordering_then (ordering_then (ordering_then o Equal) Equal) Equal ≡ o
then_all_equal Less = refl
then_all_equal Equal = refl
then_all_equal Greater = refl

pub ints : (a b : ℤ) → layer_cmp value_cmp (Value-F.Int a) (Value-F.Int b) ≡ int_cmp a b
unfolding scalar_cmp layer_cmp
ints a b = then_all_equal (int_cmp a b)

pub bigs : (a b : ℤ) → layer_cmp value_cmp (Value-F.Big a) (Value-F.Big b) ≡ int_cmp a b
unfolding scalar_cmp layer_cmp
bigs a b = then_all_equal (int_cmp a b)

pub days : (a b : ℤ) → layer_cmp value_cmp (Value-F.Day a) (Value-F.Day b) ≡ int_cmp a b
unfolding scalar_cmp layer_cmp
days a b = then_all_equal (int_cmp a b)

pub texts : (a b : List ℕ) → layer_cmp value_cmp (Value-F.Str a) (Value-F.Str b) ≡ slice_cmp nat_cmp a b
unfolding scalar_cmp layer_cmp
texts a b = then_equal (slice_cmp nat_cmp a b)

pub both_null : layer_cmp value_cmp Value-F.Null Value-F.Null ≡ Equal
unfolding scalar_cmp layer_cmp
both_null = refl

pub null_int : (a : ℤ) → layer_cmp value_cmp Value-F.Null (Value-F.Int a) ≡ Less
unfolding scalar_cmp layer_cmp
null_int a = refl

pub null_big : (a : ℤ) → layer_cmp value_cmp Value-F.Null (Value-F.Big a) ≡ Less
unfolding scalar_cmp layer_cmp
null_big a = refl

pub null_text : (a : List ℕ) → layer_cmp value_cmp Value-F.Null (Value-F.Str a) ≡ Less
unfolding scalar_cmp layer_cmp
null_text a = refl

pub null_day : (a : ℤ) → layer_cmp value_cmp Value-F.Null (Value-F.Day a) ≡ Less
unfolding scalar_cmp layer_cmp
null_day a = refl

pub int_null : (a : ℤ) → layer_cmp value_cmp (Value-F.Int a) Value-F.Null ≡ Greater
unfolding scalar_cmp layer_cmp
int_null a = refl

pub big_null : (a : ℤ) → layer_cmp value_cmp (Value-F.Big a) Value-F.Null ≡ Greater
unfolding scalar_cmp layer_cmp
big_null a = refl

pub text_null : (a : List ℕ) → layer_cmp value_cmp (Value-F.Str a) Value-F.Null ≡ Greater
unfolding scalar_cmp layer_cmp
text_null a = refl

pub day_null : (a : ℤ) → layer_cmp value_cmp (Value-F.Day a) Value-F.Null ≡ Greater
unfolding scalar_cmp layer_cmp
day_null a = refl

pub by_layers : {left right x y : Seen} {order : Ordering} → left ≡ x → right ≡ y → order ≡ layer_cmp value_cmp (seen_layer x) (seen_layer y)
    → order ≡ value_cmp (seen_value left) (seen_value right)
by_layers {x = x} {y = y} first second is =
    is ∙ sym (ranked (seen_layer x) (seen_layer y)) ∙ (λ i. value_cmp (seen_value (sym first i)) (seen_value (sym second i)))
