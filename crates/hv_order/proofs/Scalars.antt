-- How two values of one scalar type compare.
use Rattle.std.proofs.Common.{◌≡◌, ℕ, ℤ, List, refl, sym, ◌∙◌}
use Rattle.std.specs.declared.cmp.Ordering.{Ordering}
use Rattle.std.specs.declared.cmp.Ordering.TheVariants.{Less, Equal, Greater}
use Rattle.std.specs.Ordering.{ordering_then, nat_cmp, int_cmp}
use Rattle.std.specs.Cmp.Lexicographic.{slice_cmp}
use Rattle.hv_value.specs.declared.value.Value.{Value}
use Rattle.hv_value.specs.declared.value.Value.TheOpen.{Value-F}
use Rattle.hv_value.specs.declared.value.Value.TheViews.{roll-Value, out-roll-Value}
use Rattle.hv_value.specs.declared.value.Value.TheVariants as value
use Rattle.hv_value.specs.declared.value.Value.TheVariants.{rolls-Int, rolls-Big, rolls-Str, rolls-Day}
use Rattle.hv_value.specs.Order.{scalar_cmp, layer_cmp, value_cmp}
use Rattle.hv_value.specs.OrderLaws.{value_cmp-out}

then_equal : (o : Ordering) → ordering_then o Equal ≡ o
then_equal Less = refl
then_equal Equal = refl
then_equal Greater = refl

then_all_equal : (o : Ordering) → ordering_then (ordering_then (ordering_then o Equal) Equal) Equal ≡ o
then_all_equal Less = refl
then_all_equal Equal = refl
then_all_equal Greater = refl

ints : (a b : ℤ) → layer_cmp value_cmp (Value-F.Int a) (Value-F.Int b) ≡ int_cmp a b
unfolding scalar_cmp layer_cmp
ints a b = then_all_equal (int_cmp a b)

bigs : (a b : ℤ) → layer_cmp value_cmp (Value-F.Big a) (Value-F.Big b) ≡ int_cmp a b
unfolding scalar_cmp layer_cmp
bigs a b = then_all_equal (int_cmp a b)

days : (a b : ℤ) → layer_cmp value_cmp (Value-F.Day a) (Value-F.Day b) ≡ int_cmp a b
unfolding scalar_cmp layer_cmp
days a b = then_all_equal (int_cmp a b)

texts : (a b : List ℕ) → layer_cmp value_cmp (Value-F.Str a) (Value-F.Str b) ≡ slice_cmp nat_cmp a b
unfolding scalar_cmp layer_cmp
texts a b = then_equal (slice_cmp nat_cmp a b)

ranked : (x y : Value-F Value) → value_cmp (roll-Value x) (roll-Value y) ≡ layer_cmp value_cmp x y
ranked x y = value_cmp-out (roll-Value x) (roll-Value y) ∙ (λ i. layer_cmp value_cmp (out-roll-Value x i) (out-roll-Value y i))

module _ {left right : Value} {order : Ordering} where
  by_layers : (x y : Value-F Value) → roll-Value x ≡ left → roll-Value y ≡ right → order ≡ layer_cmp value_cmp x y → order ≡ value_cmp left right
  by_layers x y first second is = is ∙ sym (ranked x y) ∙ (λ i. value_cmp (first i) (second i))

  pub by_ints : (a b : ℤ) → left ≡ value.Int a → right ≡ value.Int b → order ≡ int_cmp a b → order ≡ value_cmp left right
  by_ints a b first second is =
      by_layers (Value-F.Int a) (Value-F.Int b) (rolls-Int a ∙ sym first) (rolls-Int b ∙ sym second) (is ∙ sym (ints a b))

  pub by_bigs : (a b : ℤ) → left ≡ value.Big a → right ≡ value.Big b → order ≡ int_cmp a b → order ≡ value_cmp left right
  by_bigs a b first second is =
      by_layers (Value-F.Big a) (Value-F.Big b) (rolls-Big a ∙ sym first) (rolls-Big b ∙ sym second) (is ∙ sym (bigs a b))

  pub by_days : (a b : ℤ) → left ≡ value.Day a → right ≡ value.Day b → order ≡ int_cmp a b → order ≡ value_cmp left right
  by_days a b first second is =
      by_layers (Value-F.Day a) (Value-F.Day b) (rolls-Day a ∙ sym first) (rolls-Day b ∙ sym second) (is ∙ sym (days a b))

  pub by_texts : (a b : List ℕ) → left ≡ value.Str a → right ≡ value.Str b → order ≡ slice_cmp nat_cmp a b → order ≡ value_cmp left right
  by_texts a b first second is =
      by_layers (Value-F.Str a) (Value-F.Str b) (rolls-Str a ∙ sym first) (rolls-Str b ∙ sym second) (is ∙ sym (texts a b))
