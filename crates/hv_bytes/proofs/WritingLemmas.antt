-- What is written in parts is written as a whole.
use Rattle.std.proofs.Common.{◌≡◌, ℕ, List, ◌++◌, ap, ◌∙◌, subst, append_assoc, arith}
use Rattle.std.specs.Global.{Vec}
use Rattle.std.proofs.lemmas.List.{length-append}
use Rattle.hv_bytes.specs.Writing.{Appends}

pub appends_then : (a b c : Vec ℕ) (x y : List ℕ) → Appends a b x → Appends b c y → Appends a c (x ++ y)
appends_then a b c x y first second = record {
  items = second.items ∙ ap (λ (z : List ℕ). z ++ y) first.items ∙ append_assoc a.items x y;
  len = omega (arith, first.len, second.len, length-append x y);
  capacity = omega (arith, first.capacity, second.capacity);
}

pub appends_as : (a b : Vec ℕ) (x y : List ℕ) → x ≡ y → Appends a b x → Appends a b y
appends_as a b x y same written = subst (λ (z : List ℕ). Appends a b z) same written
