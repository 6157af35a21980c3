-- Each value once, kept in the order in which they first come.
use Rattle.std.proofs.Common.{◌≡◌, Bool, true, false, not, ◌&&◌, ◌||◌, List, [], ◌∷◌, ◌++◌, if◌then◌else◌, refl, sym, ap, ◌∙◌, append_assoc}
use Rattle.std.specs.List.{list_any}
use Rattle.std.specs.Ordering.{eq_by_cmp}
use Rattle.std.specs.Cmp.{IsEquivalence, eq_by_cmp_equiv}
use Rattle.std.proofs.lemmas.List.Folds.{list_any-append}
use Rattle.indexmap.specs.IndexSet.{insert_key}
use Rattle.hv_value.specs.declared.value.Value.{Value}
use Rattle.hv_value.specs.Order.{value_cmp}
use Rattle.hv_value.specs.OrderLaws.{value_cmp_total}
use Rattle.hv_expr.specs.Groups.{those, once_each}

abbrev same : Value → Value → Bool
same = eq_by_cmp value_cmp

laws : IsEquivalence (eq_by_cmp value_cmp)
laws = eq_by_cmp_equiv value_cmp_total

abbrev fresh : List Value → Value → Bool
fresh kept w = not (list_any (same w) kept)

-- what is kept in the end, where these are kept and those come
unfoldable pub with_rest : List Value → List Value → List Value
with_rest kept rest = kept ++ those (fresh kept) (once_each rest)

those_those : (p q : Value → Bool) (xs : List Value) → those p (those q xs) ≡ those (λ w. q w && p w) xs
those_those p q [] = refl
those_those p q (x ∷ xs) = by (q x) (those_those p q xs)
  where
    by : (b : Bool) → those p (those q xs) ≡ those (λ w. q w && p w) xs
        → those p (if b then x ∷ those q xs else those q xs) ≡ (if b && p x then x ∷ those (λ w. q w && p w) xs else those (λ w. q w && p w) xs)
    by true e = ap (λ l. if p x then x ∷ l else l) e
    by false e = e

those_same : (p q : Value → Bool) → ((w : Value) → p w ≡ q w) → (xs : List Value) → those p xs ≡ those q xs
those_same p q e [] = refl
those_same p q e (x ∷ xs) = λ i. if e x i then x ∷ those_same p q e xs i else those_same p q e xs i

found_alike : (k x : Value) (ks : List Value) → same k x ≡ true → list_any (same k) ks ≡ list_any (same x) ks
found_alike k x [] e = refl
found_alike k x (j ∷ ks) e = λ i. laws.congr k x j e i || found_alike k x ks e i

known_passes : (v w : Value) (kept : List Value) → list_any (same v) kept ≡ true → (b : Bool) → same v w ≡ b → (not b && fresh kept w) ≡ fresh kept w
known_passes v w kept h true e = ap not (sym h ∙ found_alike v w kept e)
known_passes v w kept h false e = refl

new_passes : (a b : Bool) → not (a || (b || false)) ≡ (not b && not a)
new_passes true true = refl
new_passes true false = refl
new_passes false true = refl
new_passes false false = refl

nothing_more : (xs : List Value) → those (fresh []) xs ≡ xs
nothing_more [] = refl
nothing_more (x ∷ xs) = ap (λ l. x ∷ l) (nothing_more xs)

pub begins : (values : List Value) → with_rest [] values ≡ once_each values
unfolding with_rest
begins values = nothing_more (once_each values)

pub ends : (kept : List Value) → with_rest kept [] ≡ kept
unfolding with_rest
ends [] = refl
ends (k ∷ kept) = ap (λ l. k ∷ l) (plain kept)
  where
    plain : (xs : List Value) → xs ++ [] ≡ xs
    plain [] = refl
    plain (x ∷ xs) = ap (λ l. x ∷ l) (plain xs)

pub goes_on : (kept : List Value) (v : Value) (rest : List Value) → with_rest (insert_key (eq_by_cmp value_cmp) kept v) rest ≡ with_rest kept (v ∷ rest)
unfolding with_rest
goes_on kept v rest = by (list_any (same v) kept) refl
  where
    by : (b : Bool) → list_any (same v) kept ≡ b
        → with_rest (if b then kept else kept ++ v ∷ []) rest
        ≡ kept ++ (if not b then v ∷ those (fresh kept) (those (λ w. not (same v w)) (once_each rest)) else those (fresh kept) (those (λ w. not (same v w)) (once_each rest)))
    by true h =
        ap (λ l. kept ++ l)
        (sym (those_those (fresh kept) (λ w. not (same v w)) (once_each rest) ∙ those_same (λ w. not (same v w) && fresh kept w) (fresh kept) (λ w. known_passes v w kept h (same v w) refl) (once_each rest)))
    by false h =
        append_assoc kept (v ∷ []) (those (fresh (kept ++ v ∷ [])) (once_each rest))
        ∙ ap (λ l. kept ++ v ∷ l)
        (those_same (fresh (kept ++ v ∷ [])) (λ w. not (same v w) && fresh kept w)
        (λ w. ap not (list_any-append (same w) kept (v ∷ [])) ∙ new_passes (list_any (same w) kept) (same w v) ∙ ap (λ b. not b && fresh kept w) (laws.symm w v)) (once_each rest)
        ∙ sym (those_those (fresh kept) (λ w. not (same v w)) (once_each rest)))

pub ruleset steps = (begins, goes_on, ends)
