-- Aggregates as folds: what one value and two give, and that they split over parts.
use Rattle.std.proofs.Common.{if◌then◌else◌, ◌≡◌, ℕ, Bool, true, false, not, List, [], ◌∷◌, ◌++◌, length, length-append, ℤ, pos, Option, None, Some, option_map, refl, sym, ap, ◌∙◌, true≢false, IsTrue, subst, w64}
use Rattle.std.specs.Int.{int_wrap}
use Rattle.std.specs.declared.cmp.Ordering.{Ordering}
use Rattle.std.specs.declared.cmp.Ordering.TheVariants.{Less, Equal, Greater}
use Rattle.std.specs.Ordering.{is_lt, ordering_then, ordering_reverse}
use Rattle.std.specs.Cmp.{IsTotalOrder}
use Rattle.std.specs.Cmp.Lexicographic.{slice_cmp}
use Rattle.std.proofs.lemmas.Int.{int_wrap-add_left, int_wrap-add_right, int_wrap_fits, SFits-int_wrap}
use Rattle.std.proofs.Math.IntN.{+ℤ_assoc}
use Rattle.std.proofs.lemmas.Cmp.{back_total}
use Rattle.hv_value.specs.declared.value.Value.{Value}
use Rattle.hv_value.specs.declared.value.Value.TheOpen.{Value-F}
use Rattle.hv_value.specs.declared.value.Value.TheVariants as value
use Rattle.hv_value.specs.declared.value.Value.TheVariants.{rolls-Null, rolls-Big}
use Rattle.hv_value.specs.declared.value.Value.TheViews.{out-Value, out-roll-Value}
use Rattle.hv_value.specs.Conversion.{some_big}
use Rattle.hv_value.specs.Order.{scalar_cmp, layer_cmp, value_cmp, items_of}
use Rattle.hv_value.specs.OrderLaws.{value_cmp-out, value_cmp_total}
use Rattle.hv_expr.specs.declared.function.Aggregate.{Aggregate}
use Rattle.hv_expr.specs.declared.function.Aggregate.TheVariants as aggregate
use Rattle.hv_expr.specs.Values.{is_null, number_of, layer_number, or_null, layer_is_nothing}
use Rattle.hv_expr.specs.Groups.{those, known, plus, sum_of, sum_value, first_of, last_of, least, greatest, comparable, over_values}
use Rattle.hv_seen.specs.declared.seen.Seen.{Seen}
use Rattle.hv_seen.specs.Seen.{seen_layer, seen_value}
use Rattle.hv_expr.proofs.Equations.{zero_wraps}
use Rattle.hv_eval.specs.Accumulating.{merged, single, Splits}

-- ---- counts

one_wraps : int_wrap w64 (pos 1) ≡ pos 1
unfolding int_wrap
one_wraps = refl

pub count_none : over_values aggregate.Count [] ≡ value.Big (pos 0)
count_none = ap value.Big zero_wraps

pub count_null : (v : Value) → is_null v ≡ true → over_values aggregate.Count (v ∷ []) ≡ value.Big (pos 0)
count_null v e = ap (λ b. value.Big (int_wrap w64 (pos (length (if not b then v ∷ [] else []))))) e ∙ ap value.Big zero_wraps

pub count_known : (v : Value) → is_null v ≡ false → over_values aggregate.Count (v ∷ []) ≡ value.Big (pos 1)
count_known v e = ap (λ b. value.Big (int_wrap w64 (pos (length (if not b then v ∷ [] else []))))) e ∙ ap value.Big one_wraps

pub ruleset starts = (count_none)

pub ruleset counts = (count_null, count_known)

-- ---- sums

pub sum_big : (o : Option ℤ) → some_big (option_map (int_wrap w64) o) ≡ sum_value o
sum_big None = refl
sum_big (Some z) = refl

pub ruleset sums = (sum_big)

-- ---- the least and the greatest of two

only : (b : Bool) (v : Value) → or_null (least (if b then v ∷ [] else [])) ≡ (if b then v else value.Null)
only true v = refl
only false v = refl

only_last : (b : Bool) (v : Value) → or_null (greatest (if b then v ∷ [] else [])) ≡ (if b then v else value.Null)
only_last true v = refl
only_last false v = refl

pub least_one : (v : Value) → over_values aggregate.Min (v ∷ []) ≡ (if comparable v then v else value.Null)
least_one v = only (comparable v) v

pub greatest_one : (v : Value) → over_values aggregate.Max (v ∷ []) ≡ (if comparable v then v else value.Null)
greatest_one v = only_last (comparable v) v

-- of two of which only some are compared
abbrev pub pair : (List Value → Option Value) → Bool → Bool → Value → Value → Value
pair best b c x y = or_null (best (if b then x ∷ (if c then y ∷ [] else []) else (if c then y ∷ [] else [])))

abbrev pub picked : (Value → Option Value → Value) → Bool → Bool → Value → Value → Value
picked of true true x y = of x (Some y)
picked of true false x y = x
picked of false true x y = y
picked of false false x y = value.Null

least_pair : (b c : Bool) (x y : Value) → pair least b c x y ≡ picked first_of b c x y
least_pair true true x y = refl
least_pair true false x y = refl
least_pair false true x y = refl
least_pair false false x y = refl

greatest_pair : (b c : Bool) (x y : Value) → pair greatest b c x y ≡ picked last_of b c x y
greatest_pair true true x y = refl
greatest_pair true false x y = refl
greatest_pair false true x y = refl
greatest_pair false false x y = refl

pub least_two : (x y : Value) → over_values aggregate.Min (x ∷ y ∷ []) ≡ picked first_of (comparable x) (comparable y) x y
least_two x y = least_pair (comparable x) (comparable y) x y

pub greatest_two : (x y : Value) → over_values aggregate.Max (x ∷ y ∷ []) ≡ picked last_of (comparable x) (comparable y) x y
greatest_two x y = greatest_pair (comparable x) (comparable y) x y

pub least_both : (x y : Value) → comparable x ≡ true → comparable y ≡ true
    → over_values aggregate.Min (x ∷ y ∷ []) ≡ (if is_lt (value_cmp y x) then y else x)
least_both x y p q = least_two x y ∙ (λ i. picked first_of (p i) (q i) x y)

pub least_left : (x y : Value) → comparable y ≡ false → over_values aggregate.Min (x ∷ y ∷ []) ≡ over_values aggregate.Min (x ∷ [])
least_left x y q = least_two x y ∙ (λ i. picked first_of (comparable x) (q i) x y) ∙ by (comparable x) ∙ sym (least_one x)
  where
    by : (b : Bool) → picked first_of b false x y ≡ (if b then x else value.Null)
    by true = refl
    by false = refl

pub least_right : (x y : Value) → comparable x ≡ false → comparable y ≡ true → over_values aggregate.Min (x ∷ y ∷ []) ≡ y
least_right x y p q = least_two x y ∙ (λ i. picked first_of (p i) (q i) x y)

pub greatest_both : (x y : Value) → comparable x ≡ true → comparable y ≡ true
    → over_values aggregate.Max (x ∷ y ∷ []) ≡ (if is_lt (value_cmp x y) then y else x)
greatest_both x y p q = greatest_two x y ∙ (λ i. picked last_of (p i) (q i) x y)

pub greatest_right : (x y : Value) → comparable x ≡ false → over_values aggregate.Max (x ∷ y ∷ []) ≡ over_values aggregate.Max (y ∷ [])
greatest_right x y p = greatest_two x y ∙ (λ i. picked last_of (p i) (comparable y) x y) ∙ by (comparable y) ∙ sym (greatest_one y)
  where
    by : (c : Bool) → picked last_of false c x y ≡ (if c then y else value.Null)
    by true = refl
    by false = refl

pub greatest_left : (x y : Value) → comparable x ≡ true → comparable y ≡ false → over_values aggregate.Max (x ∷ y ∷ []) ≡ x
greatest_left x y p q = greatest_two x y ∙ (λ i. picked last_of (p i) (q i) x y)

pub ruleset extremes = (least_one, greatest_one, least_both, least_left, least_right, greatest_both, greatest_left, greatest_right)

-- ---- the order of what is seen

no_items : (l : Value-F Value) → not (layer_is_nothing l) ≡ true → items_of l ≡ []
no_items Value-F.Null e = refl
no_items (Value-F.Bool b) e = refl
no_items (Value-F.Int z) e = refl
no_items (Value-F.Big z) e = refl
no_items (Value-F.Str t) e = refl
no_items (Value-F.Day z) e = refl
no_items (Value-F.Array items) e = absurd (true≢false (sym e))

pub then_equal : (o : Ordering) → ordering_then o Equal ≡ o
then_equal Less = refl
then_equal Equal = refl
then_equal Greater = refl

pub ranked : (x y : Seen) → IsTrue (comparable (seen_value x)) → IsTrue (comparable (seen_value y))
    → scalar_cmp (seen_layer x) (seen_layer y) ≡ value_cmp (seen_value x) (seen_value y)
unfolding layer_cmp
ranked x y p q =
    let ox = out-roll-Value (seen_layer x) in
    let oy = out-roll-Value (seen_layer y) in
    (λ i. scalar_cmp (sym ox i) (sym oy i))
    ∙ sym (then_equal (scalar_cmp (out-Value (seen_value x)) (out-Value (seen_value y))))
    ∙ (λ i. ordering_then (scalar_cmp (out-Value (seen_value x)) (out-Value (seen_value y)))
    (slice_cmp value_cmp (sym (no_items (out-Value (seen_value x)) p) i) (sym (no_items (out-Value (seen_value y)) q) i)))
    ∙ sym (value_cmp-out (seen_value x) (seen_value y))

pub ruleset ranks = (ranked)

-- ---- sums of parts

those-append : (test : Value → Bool) (xs ys : List Value) → those test (xs ++ ys) ≡ those test xs ++ those test ys
those-append test [] ys = refl
those-append test (x ∷ xs) ys = by (test x) (those-append test xs ys)
  where
    by : (b : Bool) → those test (xs ++ ys) ≡ those test xs ++ those test ys
        → (if b then x ∷ those test (xs ++ ys) else those test (xs ++ ys)) ≡ (if b then x ∷ those test xs else those test xs) ++ those test ys
    by true e = ap (λ l. x ∷ l) e
    by false e = e

number_big : (z : ℤ) → number_of (value.Big z) ≡ Some z
number_big z = ap layer_number (ap out-Value (sym (rolls-Big z)) ∙ out-roll-Value (Value-F.Big z))

number_null : number_of value.Null ≡ None
number_null = ap layer_number (ap out-Value (sym rolls-Null) ∙ out-roll-Value Value-F.Null)

number_sum : (o : Option ℤ) → number_of (sum_value o) ≡ option_map (int_wrap w64) o
number_sum None = number_null
number_sum (Some z) = number_big (int_wrap w64 z)

plus_assoc : (a b c : Option ℤ) → plus a (plus b c) ≡ plus (plus a b) c
plus_assoc None b c = refl
plus_assoc (Some x) None c = refl
plus_assoc (Some x) (Some y) None = refl
plus_assoc (Some x) (Some y) (Some z) = ap Some (sym (+ℤ_assoc x y z))

sum-append : (xs ys : List Value) → sum_of (xs ++ ys) ≡ plus (sum_of xs) (sum_of ys)
sum-append [] ys = refl
sum-append (x ∷ xs) ys = ap (plus (number_of x)) (sum-append xs ys) ∙ plus_assoc (number_of x) (sum_of xs) (sum_of ys)

wrapped_twice : (a : ℤ) → int_wrap w64 (int_wrap w64 a) ≡ int_wrap w64 a
wrapped_twice a = int_wrap_fits w64 (int_wrap w64 a) (SFits-int_wrap w64 a)

wrapped_sum : (o p : Option ℤ) → sum_value (plus (option_map (int_wrap w64) o) (plus (option_map (int_wrap w64) p) None)) ≡ sum_value (plus o p)
wrapped_sum None None = refl
wrapped_sum None (Some y) = ap value.Big (wrapped_twice y)
wrapped_sum (Some x) None = ap value.Big (wrapped_twice x)
wrapped_sum (Some x) (Some y) = ap value.Big (int_wrap-add_left w64 x (int_wrap w64 y) ∙ int_wrap-add_right w64 x y)

sums_split : (xs ys : List Value) → over_values aggregate.Sum (over_values aggregate.Sum xs ∷ over_values aggregate.Sum ys ∷ []) ≡ over_values aggregate.Sum (xs ++ ys)
sums_split xs ys =
    (λ i. sum_value (plus (number_sum (sum_of xs) i) (plus (number_sum (sum_of ys) i) None)))
    ∙ wrapped_sum (sum_of xs) (sum_of ys) ∙ ap sum_value (sym (sum-append xs ys))

count_of : List Value → ℕ
count_of xs = length (those known xs)

counts_split : (xs ys : List Value) → over_values aggregate.Sum (over_values aggregate.Count xs ∷ over_values aggregate.Count ys ∷ []) ≡ over_values aggregate.Count (xs ++ ys)
unfolding count_of
counts_split xs ys =
    (λ i. sum_value (plus (number_big (int_wrap w64 (pos (count_of xs))) i) (plus (number_big (int_wrap w64 (pos (count_of ys))) i) None)))
    ∙ wrapped_sum (Some (pos (count_of xs))) (Some (pos (count_of ys)))
    ∙ ap (λ n. value.Big (int_wrap w64 (pos n))) (sym (ap length (those-append known xs ys) ∙ length-append (those known xs) (those known ys)))

-- ---- the lesser of two, the first where neither is less

module _ {X : Type 0} {R : X → X → Ordering} (total : IsTotalOrder R) where
  pick : X → X → X
  pick x y = if is_lt (R y x) then y else x

  less : (o : Ordering) → is_lt o ≡ true → o ≡ Less
  less Less h = refl
  less Equal h = absurd (true≢false (sym h))
  less Greater h = absurd (true≢false (sym h))

  below : (x y z : X) → is_lt (R x y) ≡ true → is_lt (R y z) ≡ true → is_lt (R x z) ≡ true
  below x y z p q = ap is_lt (total.trans x y z (less (R x y) p) (less (R y z) q))

  ahead : (x y z : X) → is_lt (R y x) ≡ false → R z x ≡ Less → (o : Ordering) → R y x ≡ o → is_lt (R z y) ≡ true
  ahead x y z p h Less e = absurd (true≢false (sym (ap is_lt e) ∙ p))
  ahead x y z p h Equal e =
      ap is_lt (total.antisymm z y ∙ ap ordering_reverse (total.congr y x z e) ∙ sym (total.antisymm z x) ∙ h)
  ahead x y z p h Greater e = ap is_lt (total.trans z x y h (total.antisymm x y ∙ ap ordering_reverse e))

  -- what isn't below the greater isn't below the lesser
  above : (x y z : X) → is_lt (R y x) ≡ false → is_lt (R z y) ≡ false → is_lt (R z x) ≡ false
  above x y z p q = by (R z x) refl
    where
      by : (o : Ordering) → R z x ≡ o → is_lt (R z x) ≡ false
      by Less e = absurd (true≢false (sym (ahead x y z p e (R y x) refl) ∙ q))
      by Equal e = ap is_lt e
      by Greater e = ap is_lt e

  pick_pick : (x y z : X) → pick x (pick y z) ≡ pick (pick x y) z
  unfolding pick
  pick_pick x y z = by (is_lt (R y x)) (is_lt (R z y)) (is_lt (R z x)) refl refl refl
    where
      choose : (b c d : Bool) → is_lt (R y x) ≡ b → is_lt (R z y) ≡ c → is_lt (R z x) ≡ d
          → pick x (if c then z else y) ≡ pick (if b then y else x) z
      choose true true d p q r = ap (λ b. if b then z else x) (below z y x q p) ∙ sym (ap (λ b. if b then z else y) q)
      choose true false d p q r = ap (λ b. if b then y else x) p ∙ sym (ap (λ b. if b then z else y) q)
      choose false true d p q r = refl
      choose false false d p q r = ap (λ b. if b then y else x) p ∙ sym (ap (λ b. if b then z else x) (above x y z p q))

      by : (b c d : Bool) → is_lt (R y x) ≡ b → is_lt (R z y) ≡ c → is_lt (R z x) ≡ d → pick x (pick y z) ≡ pick (pick x y) z
      by b c d p q r = ap (λ e. pick x (if e then z else y)) q ∙ choose b c d p q r ∙ ap (λ e. pick (if e then y else x) z) (sym p)

-- ---- the best of parts

module _ (of : Value → Option Value → Value) (best : List Value → Option Value)
    (alone : (v : Value) → of v None ≡ v) (nil : best [] ≡ None) (cons : (v : Value) (vs : List Value) → best (v ∷ vs) ≡ Some (of v (best vs)))
    (assoc : (x y z : Value) → of x (Some (of y (Some z))) ≡ of (of x (Some y)) (Some z))
    (among : (x y : Value) → comparable x ≡ true → comparable y ≡ true → comparable (of x (Some y)) ≡ true) where
  both : Option Value → Option Value → Option Value
  both None p = p
  both (Some a) p = Some (of a p)

  of_both : (v : Value) (o p : Option Value) → of v (both o p) ≡ of (of v o) p
  unfolding both
  of_both v None p = ap (λ w. of w p) (sym (alone v))
  of_both v (Some a) None = ap (λ w. of v (Some w)) (alone a) ∙ sym (alone (of v (Some a)))
  of_both v (Some a) (Some b) = assoc v a b

  best-append : (xs ys : List Value) → best (xs ++ ys) ≡ both (best xs) (best ys)
  unfolding both
  best-append [] ys = ap (λ o. both o (best ys)) (sym nil)
  best-append (x ∷ xs) ys =
      cons x (xs ++ ys) ∙ ap (λ o. Some (of x o)) (best-append xs ys) ∙ ap Some (of_both x (best xs) (best ys)) ∙ ap (λ o. both o (best ys)) (sym (cons x xs))

  Compared : Option Value → Type 0
  Compared None = Unit {0}
  Compared (Some v) = comparable v ≡ true

  compared_of : (v : Value) (o : Option Value) → comparable v ≡ true → Compared o → comparable (of v o) ≡ true
  unfolding Compared
  compared_of v None p q = ap comparable (alone v) ∙ p
  compared_of v (Some w) p q = among v w p q

  compared : (xs : List Value) → Compared (best (those comparable xs))
  unfolding Compared
  compared [] = subst Compared (sym nil) tt
  compared (x ∷ xs) = by (comparable x) refl (compared xs)
    where
      by : (b : Bool) → comparable x ≡ b → Compared (best (those comparable xs)) → Compared (best (if b then x ∷ those comparable xs else those comparable xs))
      by true e h = subst Compared (sym (cons x (those comparable xs))) (compared_of x (best (those comparable xs)) e h)
      by false e h = h

  null_not : comparable value.Null ≡ false
  null_not = ap (λ l. not (layer_is_nothing l)) (ap out-Value (sym rolls-Null) ∙ out-roll-Value Value-F.Null)

  two : (x y : Value) → or_null (best (those comparable (x ∷ y ∷ []))) ≡ picked of (comparable x) (comparable y) x y
  two x y = by (comparable x) (comparable y)
    where
      one : (v : Value) → or_null (best (v ∷ [])) ≡ v
      one v = ap or_null (cons v []) ∙ ap (of v) nil ∙ alone v

      by : (b c : Bool) → or_null (best (if b then x ∷ (if c then y ∷ [] else []) else (if c then y ∷ [] else []))) ≡ picked of b c x y
      by true true = ap or_null (cons x (y ∷ [])) ∙ ap (of x) (cons y [] ∙ ap Some (ap (of y) nil ∙ alone y))
      by true false = one x
      by false true = one y
      by false false = ap or_null nil

  again : (o p : Option Value) → Compared o → Compared p → or_null (best (those comparable (or_null o ∷ or_null p ∷ []))) ≡ or_null (both o p)
  unfolding Compared both
  again None None h k = two value.Null value.Null ∙ (λ i. picked of (null_not i) (null_not i) value.Null value.Null)
  again None (Some y) h k = two value.Null y ∙ (λ i. picked of (null_not i) (k i) value.Null y)
  again (Some x) None h k = two x value.Null ∙ (λ i. picked of (h i) (null_not i) x value.Null) ∙ sym (alone x)
  again (Some x) (Some y) h k = two x y ∙ (λ i. picked of (h i) (k i) x y)

  best_splits : (xs ys : List Value)
      → or_null (best (those comparable (or_null (best (those comparable xs)) ∷ or_null (best (those comparable ys)) ∷ []))) ≡ or_null (best (those comparable (xs ++ ys)))
  best_splits xs ys =
      again (best (those comparable xs)) (best (those comparable ys)) (compared xs) (compared ys)
      ∙ ap or_null (sym (best-append (those comparable xs) (those comparable ys)) ∙ ap best (sym (those-append comparable xs ys)))

either_compared : (b : Bool) (x y : Value) → comparable x ≡ true → comparable y ≡ true → comparable (if b then y else x) ≡ true
either_compared true x y p q = q
either_compared false x y p q = p

first_assoc : (x y z : Value) → first_of x (Some (first_of y (Some z))) ≡ first_of (first_of x (Some y)) (Some z)
unfolding pick
first_assoc x y z = pick_pick value_cmp_total x y z

last_assoc : (x y z : Value) → last_of x (Some (last_of y (Some z))) ≡ last_of (last_of x (Some y)) (Some z)
unfolding pick
last_assoc x y z = pick_pick (back_total value_cmp_total) x y z

pub splits : Splits
unfolding merged
splits aggregate.Count xs ys = counts_split xs ys
splits aggregate.Sum xs ys = sums_split xs ys
splits aggregate.Min xs ys =
    best_splits first_of least (λ v. refl) refl (λ v vs. refl) first_assoc (λ x y p q. either_compared (is_lt (value_cmp y x)) x y p q) xs ys
splits aggregate.Max xs ys =
    best_splits last_of greatest (λ v. refl) refl (λ v vs. refl) last_assoc (λ x y p q. either_compared (is_lt (value_cmp x y)) x y p q) xs ys

-- a value more
pub one_more : (function : Aggregate) (vs : List Value) (v : Value) → merged function (over_values function vs) (single function v) ≡ over_values function (vs ++ v ∷ [])
unfolding single
one_more function vs v = splits function vs (v ∷ [])
