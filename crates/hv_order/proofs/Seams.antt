-- Rows in several lists: dealt into them, and each sorted list behind the other.
use Rattle.std.proofs.Common.{◌≡◌, ℕ, zero, suc, ◌+◌, ◌-◌, ◌<◌, ◌≤◌, Bool, ◌&&◌, true, false, true≢false, IsTrue, List, [], ◌∷◌, ◌++◌, length, length-append, get_or, set, slice_get, refl, sym, ap, subst, ◌∙◌, arith, append_assoc, ◌⊎◌, inl, inr, IsPermutation, IsSorted}
use Rattle.std.specs.Global.{Vec}
use Rattle.std.specs.List.{AllZip}
use Rattle.std.specs.Ordering.{is_lt}
use Rattle.std.specs.Result.{IfOk}
use Rattle.std.specs.declared.cmp.Ordering.{Ordering}
use Rattle.std.specs.declared.result.Result.{Result}
use Rattle.std.specs.declared.result.Result.TheVariants.{Ok, Err}
use Rattle.std.proofs.lemmas.Bool.{cases_lt}
use Rattle.std.proofs.lemmas.Grind.{flat_map-append}
use Rattle.std.proofs.lemmas.List.{get_or_append_left, get_or-append_right}
use Rattle.std.proofs.lemmas.List.Sorted.{IsPermutation-append_left, IsPermutation-append_right, IsPermutation-to_front, IsPermutation-trans}
use Rattle.std.proofs.lemmas.Option.{slice_get-get_or}
use Rattle.hv_base.specs.declared.failure.NoMemory.{NoMemory}
use Rattle.hv_base.proofs.SortingLaws.{permuted-sorted_by, sorted-permuted, sorted-sorted_by}
use Rattle.hv_value.specs.declared.row.Row.{Row}
use Rattle.hv_typing.specs.declared.tree.SortKey.{SortKey}
use Rattle.hv_typing.specs.Order.{order_cmp, ordered}
use Rattle.hv_order.specs.Parts.{rows_in, seam_holds, AllSorted}
use Rattle.hv_order.proofs.OrderKeys.{false_of, order_total, order_exact}

-- ---- rows dealt into lists

pub none_more : (lists : List (Vec Row)) (list : Vec Row) → rows_in lists ≡ [] → list.items ≡ [] → rows_in (lists ++ list ∷ []) ≡ []
none_more lists list none empty =
    flat_map-append (λ (l : Vec Row). l.items) lists (list ∷ []) ∙ (λ i. none i ++ (empty i ++ []))

pub put_more : (lists : List (Vec Row)) (i : ℕ) (old new : Vec Row) (row : Row) → i < length lists → old ≡ get_or lists i old → new.items ≡ old.items ++ row ∷ []
    → IsPermutation (rows_in lists ++ row ∷ []) (rows_in (set lists i new))
put_more [] i old new row within is more = absurd (omega arith)
put_more (list ∷ lists) zero old new row within is more =
    let rest = rows_in lists in
    let now : new.items ≡ list.items ++ row ∷ [] = more ∙ ap (λ (l : Vec Row). l.items ++ row ∷ []) is in
    subst (λ rows. IsPermutation ((list.items ++ rest) ++ row ∷ []) (rows ++ rest)) (sym now)
    (subst (λ rows. IsPermutation rows ((list.items ++ row ∷ []) ++ rest)) (sym (append_assoc list.items rest (row ∷ [])))
    (subst (λ rows. IsPermutation (list.items ++ (rest ++ row ∷ [])) rows) (sym (append_assoc list.items (row ∷ []) rest))
    (IsPermutation-append_right list.items (rest ++ row ∷ []) (row ∷ rest) (IsPermutation-to_front rest row))))
put_more (list ∷ lists) (suc i) old new row within is more =
    subst (λ rows. IsPermutation rows (list.items ++ rows_in (set lists i new))) (sym (append_assoc list.items (rows_in lists) (row ∷ [])))
    (IsPermutation-append_right list.items (rows_in lists ++ row ∷ []) (rows_in (set lists i new)) (put_more lists i old new row (omega arith) is more))

-- one row more is dealt
pub dealt_more : (taken : List Row) (lists lists2 : List (Vec Row)) (row : Row) → IsPermutation taken (rows_in lists) → IsPermutation (rows_in lists ++ row ∷ []) (rows_in lists2)
    → IsPermutation (taken ++ row ∷ []) (rows_in lists2)
dealt_more taken lists lists2 row so_far put =
    IsPermutation-trans (taken ++ row ∷ []) (rows_in lists ++ row ∷ []) (rows_in lists2) (IsPermutation-append_left (row ∷ []) taken (rows_in lists) so_far) put

-- ---- sorted lists behind one another

pub seam_sorted : {X : Type 0} (R : X → X → Ordering) (xs ys : List X) → IsSorted R xs → IsSorted R ys
    → ((d : X) → 0 < length xs → 0 < length ys → is_lt (R (get_or ys 0 d) (get_or xs (length xs - 1) d)) ≡ false) → IsSorted R (xs ++ ys)
seam_sorted R xs ys up more seam k d p q = by (cases_lt (k + 1) (length xs)) (cases_lt k (length xs))
  where
    by : (k + 1 < length xs) ⊎ (length xs ≤ k + 1) → (k < length xs) ⊎ (length xs ≤ k) → is_lt (R (get_or (xs ++ ys) (k + 1) d) (get_or (xs ++ ys) k d)) ≡ false
    by (inl a) other =
        let c : k < length xs = omega (arith, a) in
        (λ i. is_lt (R (get_or_append_left xs ys d (k + 1) a i) (get_or_append_left xs ys d k c i))) ∙ up k d p a
    by (inr a) (inl c) =
        let some : 0 < length xs = omega (arith, c) in
        let also : 0 < length ys = omega (arith, q, a, c, length-append xs ys) in
        let first : (k + 1) - length xs ≡ 0 = omega (arith, a, c) in
        let last : k ≡ length xs - 1 = omega (arith, a, c) in
        (λ i. is_lt (R ((get_or-append_right xs ys (length xs) (k + 1) d refl a ∙ ap (λ n. get_or ys n d) first) i) ((get_or_append_left xs ys d k c ∙ ap (λ n. get_or xs n d) last) i)))
        ∙ seam d some also
    by (inr a) (inr c) =
        let next : (k + 1) - length xs ≡ (k - length xs) + 1 = omega (arith, c) in
        let within : (k - length xs) + 1 < length ys = omega (arith, q, c, length-append xs ys) in
        (λ i. is_lt (R ((get_or-append_right xs ys (length xs) (k + 1) d refl a ∙ ap (λ n. get_or ys n d) next) i) (get_or-append_right xs ys (length xs) k d refl c i)))
        ∙ more (k - length xs) d (omega arith) within

seam_is : (keys : List SortKey) (before behind : List Row) → seam_holds keys (slice_get before (length before - 1)) (slice_get behind 0) ≡ true
    → (d : Row) → 0 < length before → 0 < length behind → is_lt (order_cmp keys (get_or behind 0 d) (get_or before (length before - 1) d)) ≡ false
seam_is keys before behind holds d some also =
    let last = slice_get-get_or before (length before - 1) d (omega (arith, some)) in
    let first = slice_get-get_or behind 0 d also in
    false_of (is_lt (order_cmp keys (get_or behind 0 d) (get_or before (length before - 1) d))) ((λ i. seam_holds keys (sym last i) (sym first i)) ∙ holds)

split_sorted : (keys : List SortKey) (answers : List (Result (Vec Row) NoMemory)) (answer : Result (Vec Row) NoMemory) → AllSorted keys (answers ++ answer ∷ [])
    → AllSorted keys answers × IfOk answer (λ list. IsSorted (order_cmp keys) list.items)
split_sorted keys [] answer all = (tt, all.0)
split_sorted keys (first ∷ answers) answer all = let rest = split_sorted keys answers answer all.1 in ((all.0, rest.0), rest.1)

both_of : (a b : Bool) → IsTrue (a && b) → (a ≡ true) × (b ≡ true)
both_of true b h = (refl, h)
both_of false b h = absurd (true≢false (sym h))

-- one list more
pub together_more : (keys : List SortKey) (answers : List (Result (Vec Row) NoMemory)) (rows : List Row) (answer : Result (Vec Row) NoMemory) (list : Vec Row) (in_order follows : Bool)
    → answer ≡ Ok list → follows ≡ seam_holds keys (slice_get rows (length rows - 1)) (slice_get list.items 0)
    → (IsTrue in_order → AllSorted keys answers → IsSorted (order_cmp keys) rows)
    → IsTrue (in_order && follows) → AllSorted keys (answers ++ answer ∷ []) → IsSorted (order_cmp keys) (rows ++ list.items)
together_more keys answers rows answer list in_order follows is seam so_far now all =
    let both = both_of in_order follows now in
    let sorted = split_sorted keys answers answer all in
    let last : IsSorted (order_cmp keys) list.items = subst (λ a. IfOk a (λ l. IsSorted (order_cmp keys) l.items)) is sorted.1 in
    seam_sorted (order_cmp keys) rows list.items (so_far both.0 sorted.0) last (seam_is keys rows list.items (sym seam ∙ both.1))

-- ---- answers that are sorted lists

abbrev pub is_ordered : List SortKey → List Row → Result (Vec Row) NoMemory → Type 0
is_ordered keys part answer = IfOk answer (λ list. list.items ≡ ordered keys part)

one_sorted : (keys : List SortKey) (part : List Row) (answer : Result (Vec Row) NoMemory) → is_ordered keys part answer → IfOk answer (λ list. IsSorted (order_cmp keys) list.items)
one_sorted keys part (Ok list) is = subst (IsSorted (order_cmp keys)) (sym is) (sorted-sorted_by (order_total keys) part)
one_sorted keys part (Err refused) is = tt

pub all_sorted : (keys : List SortKey) (parts : List (List Row)) (answers : List (Result (Vec Row) NoMemory)) → AllZip (is_ordered keys) parts answers → AllSorted keys answers
all_sorted keys [] [] each = tt
all_sorted keys [] (answer ∷ answers) each = absurd each
all_sorted keys (part ∷ parts) [] each = absurd each
all_sorted keys (part ∷ parts) (answer ∷ answers) each = (one_sorted keys part answer each.0, all_sorted keys parts answers each.1)

pub ordered_moves : (keys : List SortKey) (part sorted : List Row) → sorted ≡ ordered keys part → IsPermutation part sorted
ordered_moves keys part sorted is = subst (IsPermutation part) (sym is) (permuted-sorted_by (order_cmp keys) part)

-- rows that were moved are sorted to the same rows
pub ordered_again : (keys : List SortKey) (rows moved : List Row) → IsPermutation rows moved → ordered keys moved ≡ ordered keys rows
ordered_again keys rows moved permuted = sym (sorted-permuted (order_total keys) (order_exact keys) rows moved permuted)
