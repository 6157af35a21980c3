-- Texts put one behind another.
use Rattle.std.proofs.Common.{◌≡◌, ℕ, List, ◌++◌, Option, Some, None, refl, ap, append_assoc}
use Rattle.std.proofs.lemmas.Str.{IsUtf8-append, IsUtf8-nil}
use Rattle.hv_expr.specs.Values.{both_of}

pub joined-more : (a b : List ℕ) (rest : Option (List ℕ))
    → both_of (λ (x y : List ℕ). x ++ y) (Some (a ++ b)) rest ≡ both_of (λ (x y : List ℕ). x ++ y) (Some a) (both_of (λ (x y : List ℕ). x ++ y) (Some b) rest)
joined-more a b None = refl
joined-more a b (Some text) = ap Some (append_assoc a b text)

pub ruleset texts = (IsUtf8-append, IsUtf8-nil, joined-more)
