-- The order of ORDER BY is total and tells all rows apart; the first rows of it need the first rows alone.
use Rattle.std.proofs.Common.{◌≡◌, ℕ, zero, suc, ◌+◌, ◌-◌, ◌<◌, ◌≤◌, Bool, not, true≢false, IsTrue, subst, get_or, arith, length, length-take, length-append, length-take-le, true, false, List, [], ◌∷◌, ◌++◌, take, drop, ltb, ltb-true, ltb-false, Option, None, Some, refl, sym, ap, ◌∙◌, IsPermutation, IsSorted}
use Rattle.std.proofs.Math.Seq.{get_or-append_seam}
use Rattle.std.proofs.lemmas.List.{get_or_append_left, get_or_default, take-append-le, take-append-drop}
use Rattle.std.specs.declared.cmp.Ordering.{Ordering}
use Rattle.std.specs.declared.cmp.Ordering.TheVariants.{Less, Equal, Greater}
use Rattle.std.specs.Ordering.{is_lt, ordering_then, on}
use Rattle.std.proofs.lemmas.List.{get_or-take}
use Rattle.std.specs.Cmp.{IsTotalOrder, then_total, on_total}
use Rattle.std.specs.FinMap.{IsAntisymmetric}
use Rattle.std.proofs.lemmas.Cmp.{back_total}
use Rattle.hv_value.specs.Order.{value_cmp}
use Rattle.hv_value.specs.OrderLaws.{value_cmp_total, row_cmp_total, row_cmp-IsAntisymmetric}
use Rattle.hv_value.specs.declared.row.Row.{Row}
use Rattle.hv_typing.specs.declared.tree.SortKey.{SortKey}
use Rattle.hv_base.specs.Sorting.{placed_by, put_by, sorted_by}
use Rattle.hv_typing.specs.Order.{value_at, turned, key_cmp, order_cmp, ordered}
use Rattle.hv_order.specs.declared.Front.{Front}
use Rattle.hv_order.specs.First.{first_ordered, IsBounded, IsEnough}
use Rattle.hv_base.proofs.SortingLaws.{sorted_is, sorted-sorted_by, sorted-permuted}
use Rattle.std.proofs.lemmas.List.Sorted.{IsPermutation-refl, IsPermutation-sym, IsPermutation-to_front, IsPermutation-append_comm}

key_total : (key : SortKey) → IsTotalOrder (key_cmp key)
unfolding key_cmp
key_total key = by key.descending
  where
    by : (b : _) → IsTotalOrder (turned b (on (value_at key.place) value_cmp))
    by true = back_total (on_total (value_at key.place) value_cmp_total)
    by false = on_total (value_at key.place) value_cmp_total

pub order_total : (keys : List SortKey) → IsTotalOrder (order_cmp keys)
unfolding order_cmp
order_total [] = row_cmp_total
order_total (key ∷ keys) = then_total (key_total key) (order_total keys)

then_tied : (o p : Ordering) → ordering_then o p ≡ Equal → p ≡ Equal
then_tied Less p h = cc
then_tied Equal p h = h
then_tied Greater p h = cc

pub order_exact : (keys : List SortKey) → IsAntisymmetric (order_cmp keys)
unfolding order_cmp
order_exact [] = row_cmp-IsAntisymmetric
order_exact (key ∷ keys) = λ left right h. order_exact keys left right (then_tied (key_cmp key left right) (order_cmp keys left right) h)

-- ---- the first of a sorted list

take_take : {X : Type 0} (n : ℕ) (xs : List X) → take n (take (suc n) xs) ≡ take n xs
take_take zero xs = refl
take_take (suc n) [] = refl
take_take (suc n) (x ∷ xs) = ap (λ l. x ∷ l) (take_take n xs)

take_again : {X : Type 0} (n : ℕ) (xs : List X) → take n (take n xs) ≡ take n xs
take_again zero xs = refl
take_again (suc n) [] = refl
take_again (suc n) (x ∷ xs) = ap (λ l. x ∷ l) (take_again n xs)

behind : {X : Type 0} (n : ℕ) (y : X) (ys : List X) → take n (y ∷ take n ys) ≡ take n (y ∷ ys)
behind zero y ys = refl
behind (suc n) y ys = ap (λ l. y ∷ l) (take_take n ys)

module _ {X : Type 0} (cmp : X → X → Ordering) where
  -- the first n with x are those of x and the first n
  pub take-put : (n : ℕ) (x : X) (ys : List X) → take n (put_by cmp x (take n ys)) ≡ take n (put_by cmp x ys)
  take-put zero x ys = refl
  take-put (suc n) x [] = refl
  take-put (suc n) x (y ∷ ys) = by (cmp x y) (take-put n x ys)
    where
      by : (o : Ordering) → take n (put_by cmp x (take n ys)) ≡ take n (put_by cmp x ys)
          → take (suc n) (placed_by cmp o x y (take n ys) (put_by cmp x (take n ys))) ≡ take (suc n) (placed_by cmp o x y ys (put_by cmp x ys))
      by Less h = ap (λ l. x ∷ l) (behind n y ys)
      by Equal h = ap (λ l. x ∷ l) (behind n y ys)
      by Greater h = ap (λ l. y ∷ l) h

  pub take-sorted : (n : ℕ) (x : X) (xs ys : List X) → take n (sorted_by cmp xs) ≡ take n (sorted_by cmp ys)
      → take n (sorted_by cmp (x ∷ xs)) ≡ take n (sorted_by cmp (x ∷ ys))
  take-sorted n x xs ys e =
      sym (take-put n x (sorted_by cmp xs)) ∙ ap (λ l. take n (put_by cmp x l)) e ∙ take-put n x (sorted_by cmp ys)

-- rows that a sort gave
pub ordered_is : (keys : List SortKey) (rows sorted : List Row) → IsPermutation rows sorted → IsSorted (order_cmp keys) sorted → sorted ≡ ordered keys rows
ordered_is keys rows sorted permuted up = sorted_is (order_total keys) (order_exact keys) rows sorted permuted up

-- a row that is kept last
pub added : (keys : List SortKey) (count : ℕ) (row : Row) (kept rows : List Row) → first_ordered keys count kept ≡ first_ordered keys count rows
    → first_ordered keys count (kept ++ row ∷ []) ≡ first_ordered keys count (row ∷ rows)
added keys count row kept rows same =
    ap (take count) (sorted-permuted (order_total keys) (order_exact keys) (kept ++ row ∷ []) (row ∷ kept) (IsPermutation-to_front kept row))
    ∙ take-sorted (order_cmp keys) count row kept rows same

sorted-take : {X : Type 0} (R : X → X → Ordering) (n : ℕ) (xs : List X) → IsSorted R xs → IsSorted R (take n xs)
sorted-take R n xs up k d p q =
    let a : k + 1 < n = omega (arith, length-take n xs) in
    let b : k + 1 < length xs = omega (arith, length-take n xs) in
    let e : k < n = omega (arith, a) in
    (λ i. is_lt (R (get_or-take n xs (k + 1) d a i) (get_or-take n xs k d e i))) ∙ up k d p b

-- the first rows are sorted already
pub trimmed : (keys : List SortKey) (count : ℕ) (rows : List Row) → first_ordered keys count (first_ordered keys count rows) ≡ first_ordered keys count rows
trimmed keys count rows =
    ap (take count)
    (sym (ordered_is keys (first_ordered keys count rows) (first_ordered keys count rows) (IsPermutation-refl (first_ordered keys count rows))
    (sorted-take (order_cmp keys) count (ordered keys rows) (sorted-sorted_by (order_total keys) rows))))
    ∙ take_again count (ordered keys rows)

-- ---- a row that isn't before the last of the first rows

sorted-push : {X : Type 0} (R : X → X → Ordering) (xs : List X) (x last : X) → IsSorted R xs → last ≡ get_or xs (length xs - 1) last → is_lt (R x last) ≡ false
    → IsSorted R (xs ++ x ∷ [])
sorted-push R xs x last up is behind k d p q = by (ltb (k + 1) (length xs)) refl
  where
    by : (b : Bool) → ltb (k + 1) (length xs) ≡ b → is_lt (R (get_or (xs ++ x ∷ []) (k + 1) d) (get_or (xs ++ x ∷ []) k d)) ≡ false
    by true e =
        let a : k + 1 < length xs = ltb-true (k + 1) (length xs) e in
        let c : k < length xs = omega (arith, a) in
        (λ i. is_lt (R (get_or_append_left xs (x ∷ []) d (k + 1) a i) (get_or_append_left xs (x ∷ []) d k c i))) ∙ up k d p a
    by false e =
        let a : length xs ≤ k + 1 = ltb-false (k + 1) (length xs) e in
        let c : k + 1 ≡ length xs = omega (arith, a, q, length-append xs (x ∷ [])) in
        let f : k < length xs = omega (arith, c) in
        let g : k ≡ length xs - 1 = omega (arith, c) in
        (λ i. is_lt (R ((ap (λ n. get_or (xs ++ x ∷ []) n d) c ∙ get_or-append_seam xs x [] d) i) ((get_or_append_left xs (x ∷ []) d k f ∙ get_or_default xs k d last f ∙ ap (λ n. get_or xs n last) g ∙ sym is) i)))
        ∙ behind

takes_same : {X : Type 0} (cmp : X → X → Ordering) (n : ℕ) (ms xs ys : List X) → take n (sorted_by cmp xs) ≡ take n (sorted_by cmp ys)
    → take n (sorted_by cmp (ms ++ xs)) ≡ take n (sorted_by cmp (ms ++ ys))
takes_same cmp n [] xs ys e = e
takes_same cmp n (m ∷ ms) xs ys e = take-sorted cmp n m (ms ++ xs) (ms ++ ys) (takes_same cmp n ms xs ys e)

module _ (keys : List SortKey) (n : ℕ) (row last : Row) (rows : List Row) (bounded : IsBounded keys n rows)
    (is : last ≡ get_or rows (n - 1) last) (behind : is_lt (order_cmp keys row last) ≡ false) where
  first : List Row
  first = take n rows

  first_count : length first ≡ n
  unfolding first
  first_count = length-take-le n rows bounded.1

  alone : first_ordered keys n (row ∷ first) ≡ first_ordered keys n first
  unfolding first
  alone =
      let up = sorted-push (order_cmp keys) (take n rows) row last bounded.2
      (is ∙ sym (get_or-take n rows (n - 1) last (omega (arith, bounded.0))) ∙ ap (λ m. get_or (take n rows) (m - 1) last) (sym first_count)) behind in
      ap (take n) (sym (ordered_is keys (row ∷ take n rows) (take n rows ++ row ∷ []) (IsPermutation-sym (take n rows ++ row ∷ []) (row ∷ take n rows) (IsPermutation-to_front (take n rows) row)) up))
      ∙ take-append-le n (take n rows) (row ∷ []) (omega (arith, first_count))
      ∙ ap (take n) (ordered_is keys (take n rows) (take n rows) (IsPermutation-refl (take n rows)) bounded.2)

  pub beyond : first_ordered keys n (row ∷ rows) ≡ first_ordered keys n rows
  unfolding first
  beyond =
      let more = drop n rows in
      let whole : take n rows ++ drop n rows ≡ rows = take-append-drop n rows in
      ap (λ rs. first_ordered keys n (row ∷ rs)) (sym whole)
      ∙ ap (take n) (sorted-permuted (order_total keys) (order_exact keys) (row ∷ (take n rows ++ drop n rows)) (drop n rows ++ row ∷ take n rows) (IsPermutation-append_comm (row ∷ take n rows) (drop n rows)))
      ∙ takes_same (order_cmp keys) n (drop n rows) (row ∷ take n rows) (take n rows) alone
      ∙ ap (take n) (sorted-permuted (order_total keys) (order_exact keys) (drop n rows ++ take n rows) (take n rows ++ drop n rows) (IsPermutation-append_comm (drop n rows) (take n rows)))
      ∙ ap (first_ordered keys n) whole

pub false_of : (b : Bool) → IsTrue (not b) → b ≡ false
false_of true h = absurd (true≢false (sym h))
false_of false h = refl

-- what was trimmed, where it has all the rows that are wanted
pub trimmed_bounded : (keys : List SortKey) (n : ℕ) (old rows : List Row) → rows ≡ first_ordered keys n old → 0 < n → n ≤ length rows → IsBounded keys n rows
trimmed_bounded keys n old rows e some enough =
    (some, enough, subst (IsSorted (order_cmp keys)) (sym (take_again n (ordered keys old)) ∙ ap (take n) (sym e)) (sorted-take (order_cmp keys) n (ordered keys old) (sorted-sorted_by (order_total keys) old)))

-- where a row stands in what is sorted is all the same
pub put_last : (keys : List SortKey) (count : ℕ) (row : Row) (rows : List Row) → first_ordered keys count (row ∷ rows) ≡ first_ordered keys count (rows ++ row ∷ [])
put_last keys count row rows =
    ap (take count) (sorted-permuted (order_total keys) (order_exact keys) (row ∷ rows) (rows ++ row ∷ []) (IsPermutation-sym (rows ++ row ∷ []) (row ∷ rows) (IsPermutation-to_front rows row)))

-- a row that changes nothing of the first ones of what is kept
pub not_wanted : (keys : List SortKey) (count : ℕ) (row : Row) (kept all : List Row) → first_ordered keys count (row ∷ kept) ≡ first_ordered keys count kept
    → first_ordered keys count kept ≡ first_ordered keys count all → first_ordered keys count kept ≡ first_ordered keys count (all ++ row ∷ [])
not_wanted keys count row kept all changes_nothing enough =
    sym changes_nothing ∙ take-sorted (order_cmp keys) count row kept all enough ∙ put_last keys count row all

-- the first of two lists need the first of each alone
firsts_both : (keys : List SortKey) (n : ℕ) (rows more all others : List Row) → first_ordered keys n rows ≡ first_ordered keys n all
    → first_ordered keys n more ≡ first_ordered keys n others → first_ordered keys n (rows ++ more) ≡ first_ordered keys n (all ++ others)
firsts_both keys n rows more all others one two =
    takes_same (order_cmp keys) n rows more others two
    ∙ ap (take n) (sorted-permuted (order_total keys) (order_exact keys) (rows ++ others) (others ++ rows) (IsPermutation-append_comm rows others))
    ∙ takes_same (order_cmp keys) n others rows all one
    ∙ ap (take n) (sorted-permuted (order_total keys) (order_exact keys) (others ++ all) (all ++ others) (IsPermutation-append_comm others all))

pub enough_both : (front : Option Front) (rows more all others : List Row) → IsEnough front rows all → IsEnough front more others → IsEnough front (rows ++ more) (all ++ others)
enough_both None rows more all others one two = λ i. one i ++ two i
enough_both (Some front) rows more all others one two = firsts_both front.keys.now front.count rows more all others one two

-- rows that stay where they are
pub ruleset stays = (IsPermutation-refl)
