-- Keys as they are seen: what is equal, and what they feed a hasher, are those of their values.
use Rattle.std.proofs.Common.{◌≡◌, ◌&&◌, List, [], ◌∷◌, length, eqb, refl, sym, ap, ◌∙◌}
use Rattle.std.proofs.Math.Dec.{eqb-suc-zero}
use Rattle.std.specs.declared.cmp.Ordering.{Ordering}
use Rattle.std.specs.declared.cmp.Ordering.TheVariants.{Less, Equal, Greater}
use Rattle.std.specs.Ordering.{ordering_then, is_eq}
use Rattle.std.specs.Cmp.Lexicographic.{slice_cmp}
use Rattle.hv_value.specs.declared.value.Value.{Value}
use Rattle.hv_value.specs.declared.value.Value.TheViews.{out-roll-Value}
use Rattle.hv_value.specs.Order.{layer_cmp, value_cmp}
use Rattle.hv_value.specs.OrderLaws.{value_cmp-out}
use Rattle.hv_value.specs.Hashing.{value_writes}
use Rattle.hv_value.specs.HashingLaws.{writes_of, value_writes-out}
use Rattle.hv_seen.specs.declared.seen.Seen.{Seen}
use Rattle.hv_seen.specs.Seen.{seen_layer, seen_value}
use Rattle.hv_partial.specs.declared.key.KeyPart.{KeyPart}
use Rattle.hv_partial.specs.Keys.{key_values}

pub seen_cmp : (x y : Seen) → value_cmp (seen_value x) (seen_value y) ≡ layer_cmp value_cmp (seen_layer x) (seen_layer y)
seen_cmp x y =
    value_cmp-out (seen_value x) (seen_value y) ∙ (λ i. layer_cmp value_cmp (out-roll-Value (seen_layer x) i) (out-roll-Value (seen_layer y) i))

both_equal : (a b : Ordering) → is_eq (ordering_then a b) ≡ (is_eq a && is_eq b)
both_equal Less b = refl
both_equal Equal b = refl
both_equal Greater b = refl

-- of lists that begin so
pub same_turn : (x y : Value) (xs ys : List Value) → is_eq (slice_cmp value_cmp (x ∷ xs) (y ∷ ys)) ≡ (is_eq (value_cmp x y) && is_eq (slice_cmp value_cmp xs ys))
same_turn x y xs ys = both_equal (value_cmp x y) (slice_cmp value_cmp xs ys)

pub same_none : (parts : List KeyPart) → is_eq (slice_cmp value_cmp [] (key_values parts)) ≡ eqb (length parts) 0
same_none [] = refl
same_none (part ∷ parts) = sym (eqb-suc-zero (length parts))

pub ruleset sames = (same_turn, same_none)

pub seen_writes : (x : Seen) → value_writes (seen_value x) ≡ writes_of (seen_layer x)
seen_writes x = value_writes-out (seen_value x) ∙ ap writes_of (out-roll-Value (seen_layer x))
