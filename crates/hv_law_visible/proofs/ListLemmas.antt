-- The list of a place of the book says what the fates say, and a list up to a watermark what the list says up to there.
use Rattle.std.proofs.Common.{refl, ◌≡◌, inl, inr, ℕ, zero, suc, ◌+◌, ◌<◌, ◌≤◌, nat_le, Bool, true, false, not, ◌&&◌, ◌||◌, Option, Some, None, List, [], ◌∷◌, length, filter, cond, min, ◌==◌, slice_get, sym, ap, subst, ◌∙◌, arith, le-leb, ne_eqb, eq-eqb}
use Rattle.std.proofs.lemmas.Bool.{lt-leb, eqb-true, cases_lt, and_parts, leb-true}
use Rattle.std.specs.List.{list_any}
use Rattle.std.specs.List.{All as AllOf, slice_index}
use Rattle.std.specs.List.Sorted.{IsStrictlyIncreasing}
use Rattle.std.proofs.lemmas.List.Elements.{All-nil, All-cons, All-head, All-tail}
use Rattle.std.proofs.lemmas.List.Kept.{IsStrictlyIncreasing-filter}
use Rattle.std.proofs.lemmas.Map.Views.{any-filter_same}
use Rattle.hv_wids.specs.declared.list.Exception.{Exception}
use Rattle.hv_wids.specs.Between.{has}
use Rattle.hv_wids.specs.WriteIds.{WriteIds, ids_of, is_valid, is_open_by, is_valid_base}
use Rattle.hv_law_visible.specs.Snapshots.{Fate, Open, Committed, Aborted, Forgotten, fate_of, is_seen, all_ended, exceptions_from, list_at, list_up_to}
use Rattle.hv_law_visible.specs.Laws.{SaysFates, SaysUpTo}

is_exception : Option Fate → Bool
is_exception None = false
is_exception (Some Open) = true
is_exception (Some Committed) = false
is_exception (Some Aborted) = true
is_exception (Some Forgotten) = false

below-none : (fates : List Fate) (n w : ℕ) → w < n → has (ids_of (exceptions_from n fates)) w ≡ false
below-none [] n w under = refl
below-none (Open ∷ fates) n w under = λ i. ne_eqb n w (λ e. omega arith) i || below-none fates (n + 1) w (omega arith) i
below-none (Committed ∷ fates) n w under = below-none fates (n + 1) w (omega arith)
below-none (Aborted ∷ fates) n w under = λ i. ne_eqb n w (λ e. omega arith) i || below-none fates (n + 1) w (omega arith) i
below-none (Forgotten ∷ fates) n w under = below-none fates (n + 1) w (omega arith)

excepted : (fates : List Fate) (n k w : ℕ) → w ≡ n + k → has (ids_of (exceptions_from n fates)) w ≡ is_exception (slice_get fates k)
unfolding is_exception
excepted [] n k w e = refl
excepted (Open ∷ fates) n zero w e = ap (λ b. b || has (ids_of (exceptions_from (n + 1) fates)) w) (eq-eqb n w (omega arith))
excepted (Open ∷ fates) n (suc k) w e = λ i. ne_eqb n w (λ f. omega arith) i || excepted fates (n + 1) k w (omega arith) i
excepted (Committed ∷ fates) n zero w e = below-none fates (n + 1) w (omega arith)
excepted (Committed ∷ fates) n (suc k) w e = excepted fates (n + 1) k w (omega arith)
excepted (Aborted ∷ fates) n zero w e = ap (λ b. b || has (ids_of (exceptions_from (n + 1) fates)) w) (eq-eqb n w (omega arith))
excepted (Aborted ∷ fates) n (suc k) w e = λ i. ne_eqb n w (λ f. omega arith) i || excepted fates (n + 1) k w (omega arith) i
excepted (Forgotten ∷ fates) n zero w e = below-none fates (n + 1) w (omega arith)
excepted (Forgotten ∷ fates) n (suc k) w e = excepted fates (n + 1) k w (omega arith)

seen-by : (fate : Fate) → not (is_exception (Some fate)) ≡ is_seen (Some fate)
unfolding is_exception
seen-by Open = refl
seen-by Committed = refl
seen-by Aborted = refl
seen-by Forgotten = refl

seen-at : (fates : List Fate) (k : ℕ) → (nat_le (suc k) (length fates) && not (is_exception (slice_get fates k))) ≡ is_seen (slice_get fates k)
seen-at [] k = ap (λ b. b && not (is_exception None)) (lt-leb (suc k) 0 (omega arith))
seen-at (fate ∷ fates) zero = ap (λ b. b && not (is_exception (Some fate))) (le-leb 1 (length (fate ∷ fates)) (omega arith)) ∙ seen-by fate
seen-at (fate ∷ fates) (suc k) =
    ap (λ b. b && not (is_exception (slice_get fates k))) (same-le k (length fates)) ∙ seen-at fates k
  where
    same-le : (a b : ℕ) → nat_le (suc (suc a)) (suc b) ≡ nat_le (suc a) b
    same-le a b = elim (Rattle.std.proofs.lemmas.Bool.cases_lt a b) [
      | inl less ↦ le-leb (suc (suc a)) (suc b) (omega arith) ∙ sym (le-leb (suc a) b (omega arith))
      | inr more ↦ lt-leb (suc (suc a)) (suc b) (omega arith) ∙ sym (lt-leb (suc a) b (omega arith))
    ]

pub valid-same : (fates : List Fate) (write : ℕ) → 1 ≤ write → is_valid (list_at fates) write ≡ is_seen (fate_of fates write)
valid-same fates zero one = absurd (omega arith)
valid-same fates (suc k) one =
    ap (λ b. nat_le (suc k) (length fates) && not b) (excepted fates 1 k (suc k) (omega arith)) ∙ seen-at fates k

-- ---- bases

none-open-below : (fates : List Fate) (n h : ℕ) → h < n → list_any (is_open_by h) (exceptions_from n fates) ≡ false
none-open-below [] n h under = refl
none-open-below (Open ∷ fates) n h under = λ i. (lt-leb n h under i && true) || none-open-below fates (n + 1) h (omega arith) i
none-open-below (Committed ∷ fates) n h under = none-open-below fates (n + 1) h (omega arith)
none-open-below (Aborted ∷ fates) n h under = λ i. (lt-leb n h under i && false) || none-open-below fates (n + 1) h (omega arith) i
none-open-below (Forgotten ∷ fates) n h under = none-open-below fates (n + 1) h (omega arith)

and-false : (b : Bool) → (b && false) ≡ false
and-false true = refl
and-false false = refl

base-at : (fates : List Fate) (n k h : ℕ) → h + 1 ≡ n + k → (nat_le k (length fates) && not (list_any (is_open_by h) (exceptions_from n fates))) ≡ all_ended k fates
base-at fates n zero h e =
    ap (λ b. b && not (list_any (is_open_by h) (exceptions_from n fates))) (le-leb 0 (length fates) (omega arith))
    ∙ ap not (none-open-below fates n h (omega arith))
base-at [] n (suc k) h e = ap (λ b. b && true) (lt-leb (suc k) 0 (omega arith))
base-at (Open ∷ fates) n (suc k) h e =
    ap (λ b. nat_le (suc k) (length (Open ∷ fates)) && not ((b && true) || list_any (is_open_by h) (exceptions_from (n + 1) fates))) (le-leb n h (omega arith))
    ∙ and-false (nat_le (suc k) (length (Open ∷ fates)))
base-at (Committed ∷ fates) n (suc k) h e =
    ap (λ b. b && not (list_any (is_open_by h) (exceptions_from (n + 1) fates))) (same-le k (length fates)) ∙ base-at fates (n + 1) k h (omega arith)
  where
    same-le : (a b : ℕ) → nat_le (suc a) (suc b) ≡ nat_le a b
    same-le a b = elim (Rattle.std.proofs.lemmas.Bool.cases_lt b a) [
      | inl less ↦ lt-leb (suc a) (suc b) (omega arith) ∙ sym (lt-leb a b less)
      | inr more ↦ le-leb (suc a) (suc b) (omega arith) ∙ sym (le-leb a b more)
    ]
base-at (Aborted ∷ fates) n (suc k) h e =
    (λ i. same-le k (length fates) i && not (and-false (nat_le n h) i || list_any (is_open_by h) (exceptions_from (n + 1) fates)))
    ∙ base-at fates (n + 1) k h (omega arith)
  where
    same-le : (a b : ℕ) → nat_le (suc a) (suc b) ≡ nat_le a b
    same-le a b = elim (Rattle.std.proofs.lemmas.Bool.cases_lt b a) [
      | inl less ↦ lt-leb (suc a) (suc b) (omega arith) ∙ sym (lt-leb a b less)
      | inr more ↦ le-leb (suc a) (suc b) (omega arith) ∙ sym (le-leb a b more)
    ]
base-at (Forgotten ∷ fates) n (suc k) h e =
    ap (λ b. b && not (list_any (is_open_by h) (exceptions_from (n + 1) fates))) (same-le k (length fates)) ∙ base-at fates (n + 1) k h (omega arith)
  where
    same-le : (a b : ℕ) → nat_le (suc a) (suc b) ≡ nat_le a b
    same-le a b = elim (Rattle.std.proofs.lemmas.Bool.cases_lt b a) [
      | inl less ↦ lt-leb (suc a) (suc b) (omega arith) ∙ sym (lt-leb a b less)
      | inr more ↦ le-leb (suc a) (suc b) (omega arith) ∙ sym (le-leb a b more)
    ]

pub valid-base-same : (fates : List Fate) (high : ℕ) → is_valid_base (list_at fates) high ≡ all_ended high fates
valid-base-same fates high = base-at fates 1 high high (omega arith)

-- ---- the order of the list's exceptions

all-more : {A : Type 0} (P Q : A → Type 0) (xs : List A) → ((x : A) → P x → Q x) → AllOf P xs → AllOf Q xs
all-more P Q [] h all = All-nil Q
all-more P Q (x ∷ xs) h all = All-cons Q x xs (h x (All-head P x xs all)) (all-more P Q xs h (All-tail P x xs all))

from-on : (fates : List Fate) (n : ℕ) → AllOf (λ id. n ≤ id) (ids_of (exceptions_from n fates))
from-on [] n = All-nil (λ id. n ≤ id)
from-on (Open ∷ fates) n =
    All-cons (λ id. n ≤ id) n _ (omega arith) (all-more (λ id. n + 1 ≤ id) (λ id. n ≤ id) _ (λ id h. omega arith) (from-on fates (n + 1)))
from-on (Committed ∷ fates) n = all-more (λ id. n + 1 ≤ id) (λ id. n ≤ id) _ (λ id h. omega arith) (from-on fates (n + 1))
from-on (Aborted ∷ fates) n =
    All-cons (λ id. n ≤ id) n _ (omega arith) (all-more (λ id. n + 1 ≤ id) (λ id. n ≤ id) _ (λ id h. omega arith) (from-on fates (n + 1)))
from-on (Forgotten ∷ fates) n = all-more (λ id. n + 1 ≤ id) (λ id. n ≤ id) _ (λ id h. omega arith) (from-on fates (n + 1))

rising-on : (n : ℕ) (ids : List ℕ) → AllOf (λ id. n + 1 ≤ id) ids → IsStrictlyIncreasing ids → IsStrictlyIncreasing (n ∷ ids)
rising-on n [] above up k room = absurd (omega arith)
rising-on n (id ∷ ids) above up zero room = let more : n + 1 ≤ id = All-head (λ x. n + 1 ≤ x) id ids above in omega arith
rising-on n (id ∷ ids) above up (suc k) room =
    let e : suc (k + 1) ≡ suc k + 1 = omega arith in
    let next : slice_index (id ∷ ids) k < slice_index (id ∷ ids) (k + 1) = up k (omega arith) in
    subst (λ place. slice_index (id ∷ ids) k < slice_index (n ∷ id ∷ ids) place) e next

exceptions-rise : (fates : List Fate) (n : ℕ) → IsStrictlyIncreasing (ids_of (exceptions_from n fates))
exceptions-rise [] n = λ k room. absurd (omega arith)
exceptions-rise (Open ∷ fates) n = rising-on n _ (from-on fates (n + 1)) (exceptions-rise fates (n + 1))
exceptions-rise (Committed ∷ fates) n = exceptions-rise fates (n + 1)
exceptions-rise (Aborted ∷ fates) n = rising-on n _ (from-on fates (n + 1)) (exceptions-rise fates (n + 1))
exceptions-rise (Forgotten ∷ fates) n = exceptions-rise fates (n + 1)

IsUpTo : ℕ → Exception → Type 0
IsUpTo most exception = exception.write.0 ≤ most

exceptions-within : (fates : List Fate) (n most : ℕ) → n + length fates ≤ most + 1 → AllOf (IsUpTo most) (exceptions_from n fates)
unfolding IsUpTo
exceptions-within [] n most room = All-nil (IsUpTo most)
exceptions-within (Open ∷ fates) n most room = All-cons (IsUpTo most) _ _ (omega arith) (exceptions-within fates (n + 1) most (omega arith))
exceptions-within (Committed ∷ fates) n most room = exceptions-within fates (n + 1) most (omega arith)
exceptions-within (Aborted ∷ fates) n most room = All-cons (IsUpTo most) _ _ (omega arith) (exceptions-within fates (n + 1) most (omega arith))
exceptions-within (Forgotten ∷ fates) n most room = exceptions-within fates (n + 1) most (omega arith)

pub says-fates : (fates : List Fate) → SaysFates fates (list_at fates)
unfolding IsUpTo
says-fates fates = record {
  order = record { rises = exceptions-rise fates 1; within = exceptions-within fates 1 (length fates) (omega arith) };
  valid = valid-same fates;
  base = valid-base-same fates;
}

-- ---- up to a watermark

is_at : ℕ → Exception → Bool
is_at write exception = exception.write.0 == write

has-any : (write : ℕ) (exceptions : List Exception) → has (ids_of exceptions) write ≡ list_any (is_at write) exceptions
unfolding is_at
has-any write [] = refl
has-any write (exception ∷ exceptions) = ap (λ b. (exception.write.0 == write) || b) (has-any write exceptions)

is_kept : ℕ → Exception → Bool
is_kept mark exception = nat_le exception.write.0 mark

has-kept : (mark write : ℕ) (exceptions : List Exception)
    → has (ids_of (filter (is_kept mark) exceptions)) write ≡ (nat_le write mark && has (ids_of exceptions) write)
unfolding is_at is_kept
has-kept mark write exceptions =
    has-any write (filter (is_kept mark) exceptions)
    ∙ any-filter_same (is_at write) (is_kept mark) (nat_le write mark)
    (λ exception is. ap (λ id. nat_le id mark) (eqb-true exception.write.0 write is)) exceptions
    ∙ ap (λ b. nat_le write mark && b) (sym (has-any write exceptions))

valid-by : (mark high write : ℕ) (b e : Bool) → nat_le write mark ≡ b → (nat_le write (min mark high) && not (b && e)) ≡ (b && (nat_le write high && not e))
valid-by mark high write true e is =
    let under : write ≤ mark = leb-true write mark is in
    ap (λ c. c && not e) (min-le under)
  where
    min-le : write ≤ mark → nat_le write (min mark high) ≡ nat_le write high
    min-le under = elim (cases_lt high write) [
      | inl less ↦ lt-leb write (min mark high) (omega arith) ∙ sym (lt-leb write high less)
      | inr more ↦ le-leb write (min mark high) (omega arith) ∙ sym (le-leb write high more)
    ]
valid-by mark high write false e is =
    ap (λ c. c && true) (elim (cases_lt mark write) [
      | inl less ↦ lt-leb write (min mark high) (omega arith)
      | inr more ↦ absurd (let f : true ≡ false = sym (le-leb write mark more) ∙ is in cc)
    ])

up-to-valid : (mark : ℕ) (list : WriteIds) (write : ℕ) → is_valid (list_up_to mark list) write ≡ (nat_le write mark && is_valid list write)
unfolding is_kept
up-to-valid mark list write =
    ap (λ b. nat_le write (min mark list.high.0) && not b) (has-kept mark write list.exceptions)
    ∙ valid-by mark list.high.0 write (nat_le write mark) (has (ids_of list.exceptions) write) refl

open-kept : (mark high : ℕ) (exceptions : List Exception) (b : Bool) → nat_le high mark ≡ b
    → (b && not (list_any (is_open_by high) (filter (is_kept mark) exceptions))) ≡ (b && not (list_any (is_open_by high) exceptions))
unfolding is_kept
open-kept mark high exceptions false is = refl
open-kept mark high exceptions true is =
    let under : high ≤ mark = leb-true high mark is in
    ap not (any-filter_same (is_open_by high) (is_kept mark) true
    (λ exception found.
    let at : exception.write.0 ≤ high = leb-true exception.write.0 high (and_parts (nat_le exception.write.0 high) (not exception.aborted) found).0 in
    le-leb exception.write.0 mark (omega arith)) exceptions)

base-by : (mark high base : ℕ) (b e f : Bool) → nat_le base mark ≡ b → (b && not f) ≡ (b && not e)
    → (nat_le base (min mark high) && not f) ≡ (b && (nat_le base high && not e))
base-by mark high base true e f is same =
    let under : base ≤ mark = leb-true base mark is in
    (λ i. min-le under i && same i)
  where
    min-le : base ≤ mark → nat_le base (min mark high) ≡ nat_le base high
    min-le under = elim (cases_lt high base) [
      | inl less ↦ lt-leb base (min mark high) (omega arith) ∙ sym (lt-leb base high less)
      | inr more ↦ le-leb base (min mark high) (omega arith) ∙ sym (le-leb base high more)
    ]
base-by mark high base false e f is same =
    ap (λ c. c && not f) (elim (cases_lt mark base) [
      | inl less ↦ lt-leb base (min mark high) (omega arith)
      | inr more ↦ absurd (let g : true ≡ false = sym (le-leb base mark more) ∙ is in cc)
    ])

up-to-base : (mark : ℕ) (list : WriteIds) (base : ℕ) → is_valid_base (list_up_to mark list) base ≡ (nat_le base mark && is_valid_base list base)
unfolding is_kept
up-to-base mark list base =
    base-by mark list.high.0 base (nat_le base mark) (list_any (is_open_by base) list.exceptions)
    (list_any (is_open_by base) (filter (is_kept mark) list.exceptions)) refl (open-kept mark base list.exceptions (nat_le base mark) refl)

ids-kept-cond : (b : Bool) (exception : Exception) (kept : List Exception) → ids_of (cond b (exception ∷ kept) kept) ≡ cond b (exception.write.0 ∷ ids_of kept) (ids_of kept)
ids-kept-cond true exception kept = refl
ids-kept-cond false exception kept = refl

ids-kept : (mark : ℕ) (exceptions : List Exception) → ids_of (filter (is_kept mark) exceptions) ≡ filter (λ id. nat_le id mark) (ids_of exceptions)
unfolding is_kept
ids-kept mark [] = refl
ids-kept mark (exception ∷ exceptions) =
    ids-kept-cond (nat_le exception.write.0 mark) exception (filter (is_kept mark) exceptions)
    ∙ ap (λ ids. cond (nat_le exception.write.0 mark) (exception.write.0 ∷ ids) ids) (ids-kept mark exceptions)

kept-within : (mark high : ℕ) (exceptions : List Exception) → AllOf (IsUpTo high) exceptions → AllOf (IsUpTo (min mark high)) (filter (is_kept mark) exceptions)
unfolding is_kept IsUpTo
kept-within mark high [] all = All-nil (IsUpTo (min mark high))
kept-within mark high (exception ∷ exceptions) all =
    by (nat_le exception.write.0 mark) refl (kept-within mark high exceptions (All-tail (IsUpTo high) exception exceptions all))
  where
    by : (b : Bool) → nat_le exception.write.0 mark ≡ b → AllOf (IsUpTo (min mark high)) (filter (is_kept mark) exceptions)
        → AllOf (IsUpTo (min mark high)) (cond b (exception ∷ filter (is_kept mark) exceptions) (filter (is_kept mark) exceptions))
    by true is rest =
        let under : exception.write.0 ≤ mark = leb-true exception.write.0 mark is in
        let within : exception.write.0 ≤ high = All-head (IsUpTo high) exception exceptions all in
        All-cons (IsUpTo (min mark high)) exception (filter (is_kept mark) exceptions) (omega arith) rest
    by false is rest = rest

pub says-up-to : (mark : ℕ) (list : WriteIds) → SaysUpTo mark list (list_up_to mark list)
unfolding is_kept IsUpTo
says-up-to mark list = record {
  order = λ order. record {
    rises = subst IsStrictlyIncreasing (sym (ids-kept mark list.exceptions))
        (IsStrictlyIncreasing-filter (λ id. nat_le id mark) (ids_of list.exceptions) order.rises);
    within = kept-within mark list.high.0 list.exceptions order.within;
  };
  valid = up-to-valid mark list;
  base = up-to-base mark list;
}
