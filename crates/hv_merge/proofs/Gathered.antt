-- Two lists of records that rise are put together step by step, and so are all files of a bucket.
use Rattle.std.proofs.Common.{refl, ◌≡◌, ◌⊎◌, inl, inr, ℕ, zero, suc, ◌+◌, ◌<◌, ◌≤◌, Bool, true, false, cond, Option, Some, None, List, [], ◌∷◌, ◌++◌, map, filter, take, drop, length, sym, ap, ◌∙◌, subst, arith, true≢false, append_assoc}
use Rattle.std.specs.declared.cmp.Ordering.{Ordering}
use Rattle.std.specs.declared.cmp.Ordering.TheVariants.{Less, Equal, Greater}
use Rattle.std.specs.Ordering.{is_lt, is_eq}
use Rattle.std.specs.List.{flat_map, AllByRecursion}
use Rattle.std.specs.Cmp.{IsTotalOrder, tied_itself}
use Rattle.std.proofs.lemmas.List.{append-nil, map-append}
use Rattle.std.proofs.lemmas.Option.{same_Some}
use Rattle.hv_base.specs.declared.ids.RowId.{RowId}
use Rattle.hv_base.specs.Identifiers.{row_id_cmp, row_id_eq, row_id_total, row_id_ties}
use Rattle.hv_base.specs.Sorting.{merged_by, merge_by, rising_by}
use Rattle.hv_law_visible.proofs.SortingLemmas.{Below, Rises, rises-rising}
use Rattle.hv_law_visible.proofs.RowLemmas.{by_id-total}
use Rattle.hv_rowfile.specs.declared.record.Rec.{Rec}
use Rattle.hv_rowfile.specs.Layout.{RisesFrom, id_of as record_id}
use Rattle.hv_merge.specs.Steps.{is_below}
use Rattle.hv_merge.specs.Gathering.{rec_cmp, is_in_range, in_range, gathered, put_all, next_of, first_left, second_left}
use Rattle.hv_merge.proofs.Fronts.{turned, tied_id}
use Rattle.hv_merge.proofs.Looks.{all-front, all-behind}

total : IsTotalOrder rec_cmp
total = by_id-total record_id

-- ---- lists that rise

below-far : (x y : Rec) (recs : List Rec) → rec_cmp x y ≡ Less → Below rec_cmp y recs → Below rec_cmp x recs
below-far x y [] e h = tt
below-far x y (z ∷ recs) e h = (row_id_total.trans (record_id x) (record_id y) (record_id z) e h.0, below-far x y recs e h.1)

below-from : (x : Rec) (recs : List Rec) → RisesFrom (Some (record_id x)) recs → Below rec_cmp x recs
below-from x [] up = tt
below-from x (y ∷ recs) up = (up.0, below-far x y recs up.0 (below-from y recs up.1))

pub rises-of : (before : Option RowId) (recs : List Rec) → RisesFrom before recs → Rises rec_cmp recs
rises-of before [] up = tt
rises-of before (r ∷ recs) up = (below-from r recs up.1, rises-of (Some (record_id r)) recs up.1)

from-below : (x : Rec) (recs : List Rec) → Below rec_cmp x recs → Rises rec_cmp recs → RisesFrom (Some (record_id x)) recs
from-below x [] below up = tt
from-below x (y ∷ recs) below up = (below.0, from-below y recs up.0 up.1)

pub of-rises : (recs : List Rec) → Rises rec_cmp recs → RisesFrom None recs
of-rises [] up = tt
of-rises (r ∷ recs) up = (tt, from-below r recs up.0 up.1)

-- ---- one list put into another

below-by : (o : Ordering) (x y z : Rec) (recs put : List Rec) → rec_cmp x y ≡ Less → Below rec_cmp x (z ∷ recs) → Below rec_cmp x put
    → Below rec_cmp x (merged_by rec_cmp o y z recs put)
below-by Less x y z recs put e h p = (e, h)
below-by Equal x y z recs put e h p = h
below-by Greater x y z recs put e h p = (h.0, p)

below-merge : (x y : Rec) (recs : List Rec) → rec_cmp x y ≡ Less → Below rec_cmp x recs → Below rec_cmp x (merge_by rec_cmp y recs)
below-merge x y [] e h = (e, tt)
below-merge x y (z ∷ recs) e h = below-by (rec_cmp y z) x y z recs (merge_by rec_cmp y recs) e h (below-merge x y recs e h.1)

below-put : (x : Rec) (xs ys : List Rec) → Below rec_cmp x xs → Below rec_cmp x ys → Below rec_cmp x (put_all xs ys)
below-put x [] ys a b = b
below-put x (z ∷ xs) ys a b = below-merge x z (put_all xs ys) a.0 (below-put x xs ys a.1 b)

put-below : (x : Rec) (ys : List Rec) → Below rec_cmp x ys → merge_by rec_cmp x ys ≡ x ∷ ys
put-below x [] b = refl
put-below x (y ∷ ys) b = ap (λ o. merged_by rec_cmp o x y ys (merge_by rec_cmp x ys)) b.0

-- each of these comes behind that one
abbrev Over : Rec → List Rec → Type 0
Over y xs = AllByRecursion (λ (x : Rec). rec_cmp x y ≡ Greater) xs

over-below : (y : Rec) (xs : List Rec) → Below rec_cmp y xs → Over y xs
over-below y [] b = tt
over-below y (x ∷ xs) b = (turned (record_id y) (record_id x) Less b.0, over-below y xs b.1)

put-front : (xs : List Rec) (y : Rec) (ys : List Rec) → Over y xs → put_all xs (y ∷ ys) ≡ y ∷ put_all xs ys
put-front [] y ys o = refl
put-front (x ∷ xs) y ys o =
    ap (merge_by rec_cmp x) (put-front xs y ys o.1)
    ∙ ap (λ p. merged_by rec_cmp p x y (put_all xs ys) (merge_by rec_cmp x (put_all xs ys))) o.0

-- ---- one step

pub record IsStep (xs ys : List Rec) (r : Rec) (first second : List Rec) : Type 0 where
  pub whole : put_all xs ys ≡ r ∷ put_all first second
  pub rises_first : Rises rec_cmp first
  pub rises_second : Rises rec_cmp second
  pub fewer : length first + length second < length xs + length ys

taken-first : (x : Rec) (xs ys : List Rec) → Rises rec_cmp (x ∷ xs) → Rises rec_cmp ys → Below rec_cmp x ys → IsStep (x ∷ xs) ys x xs ys
taken-first x xs ys up rise below = record {
  whole = put-below x (put_all xs ys) (below-put x xs ys up.0 below);
  rises_first = up.1;
  rises_second = rise;
  fewer = omega arith;
}

taken-second : (x y : Rec) (xs ys : List Rec) → Rises rec_cmp (x ∷ xs) → Rises rec_cmp (y ∷ ys) → rec_cmp x y ≡ Greater → IsStep (x ∷ xs) (y ∷ ys) y (x ∷ xs) ys
taken-second x y xs ys up rise e =
    let less : rec_cmp y x ≡ Less = turned (record_id x) (record_id y) Greater e in
    record {
      whole = put-front (x ∷ xs) y ys (e, over-below y xs (below-far y x xs less up.0));
      rises_first = up;
      rises_second = rise.1;
      fewer = omega arith;
    }

taken-both : (x y : Rec) (xs ys : List Rec) → Rises rec_cmp (x ∷ xs) → Rises rec_cmp (y ∷ ys) → rec_cmp x y ≡ Equal → IsStep (x ∷ xs) (y ∷ ys) y xs ys
taken-both x y xs ys up rise e =
    let same : record_id x ≡ record_id y = tied_id (record_id x) (record_id y) e in
    let below : Below rec_cmp y xs = subst (λ id. AllByRecursion (λ (z : Rec). row_id_cmp id (record_id z) ≡ Less) xs) same up.0 in
    record {
      whole = ap (merge_by rec_cmp x) (put-front xs y ys (over-below y xs below))
          ∙ ap (λ p. merged_by rec_cmp p x y (put_all xs ys) (merge_by rec_cmp x (put_all xs ys))) e;
      rises_first = up.1;
      rises_second = rise.1;
      fewer = omega arith;
    }

abbrev lead : Ordering → Rec → Rec → Option Rec
lead o x y = cond (is_lt o) (Some x) (Some y)

abbrev first_by : Ordering → Rec → List Rec → List Rec
first_by o x xs = cond (is_lt o) xs (cond (is_eq o) xs (x ∷ xs))

abbrev second_by : Ordering → Rec → List Rec → List Rec
second_by o y ys = cond (is_lt o) (y ∷ ys) ys

step-by : (o : Ordering) (x y r : Rec) (xs ys : List Rec) → Rises rec_cmp (x ∷ xs) → Rises rec_cmp (y ∷ ys) → rec_cmp x y ≡ o → lead o x y ≡ Some r
    → IsStep (x ∷ xs) (y ∷ ys) r (first_by o x xs) (second_by o y ys)
step-by Less x y r xs ys up rise e is =
    subst (λ (z : Rec). IsStep (x ∷ xs) (y ∷ ys) z xs (y ∷ ys)) (same_Some x r is) (taken-first x xs (y ∷ ys) up rise (e, below-far x y ys e rise.0))
step-by Equal x y r xs ys up rise e is =
    subst (λ (z : Rec). IsStep (x ∷ xs) (y ∷ ys) z xs ys) (same_Some y r is) (taken-both x y xs ys up rise e)
step-by Greater x y r xs ys up rise e is =
    subst (λ (z : Rec). IsStep (x ∷ xs) (y ∷ ys) z (x ∷ xs) ys) (same_Some y r is) (taken-second x y xs ys up rise e)

first-is : (x y : Rec) (xs ys : List Rec) → first_by (rec_cmp x y) x xs ≡ first_left (x ∷ xs) (y ∷ ys)
first-is x y xs ys = ap (λ b. cond (is_lt (rec_cmp x y)) xs (cond b xs (x ∷ xs))) (sym (row_id_ties (record_id x) (record_id y)))

pub step : (xs ys : List Rec) (r : Rec) → Rises rec_cmp xs → Rises rec_cmp ys → next_of xs ys ≡ Some r → IsStep xs ys r (first_left xs ys) (second_left xs ys)
step [] [] r up rise is = cc
step [] (y ∷ ys) r up rise is =
    subst (λ (z : Rec). IsStep [] (y ∷ ys) z [] ys) (same_Some y r is)
    (record { whole = refl; rises_first = tt; rises_second = rise.1; fewer = omega arith })
step (x ∷ xs) [] r up rise is = subst (λ (z : Rec). IsStep (x ∷ xs) [] z xs []) (same_Some x r is) (taken-first x xs [] up tt tt)
step (x ∷ xs) (y ∷ ys) r up rise is =
    subst (λ (first : List Rec). IsStep (x ∷ xs) (y ∷ ys) r first (second_left (x ∷ xs) (y ∷ ys))) (first-is x y xs ys)
    (step-by (rec_cmp x y) x y r xs ys up rise refl is)

no-next-by : (b : Bool) (x y : Rec) → cond b (Some x) (Some y) ≡ None → ⊥
no-next-by true x y e = cc
no-next-by false x y e = cc

-- without a next record both are at their end
pub ended : (xs ys : List Rec) → next_of xs ys ≡ None → put_all xs ys ≡ []
ended [] [] e = refl
ended [] (y ∷ ys) e = cc
ended (x ∷ xs) [] e = cc
ended (x ∷ xs) (y ∷ ys) e = absurd (no-next-by (is_below (record_id y) (record_id x)) x y e)

pub one-more : (recs grown : List Rec) (r : Rec) (xs ys first second whole : List Rec) → Rises rec_cmp xs → Rises rec_cmp ys → next_of xs ys ≡ Some r
    → first ≡ first_left xs ys → second ≡ second_left xs ys → grown ≡ recs ++ r ∷ [] → recs ++ put_all xs ys ≡ whole → grown ++ put_all first second ≡ whole
one-more recs grown r xs ys first second whole up rise is ef es eg before =
    let at = step xs ys r up rise is in
    ap (λ (z : List Rec). z ++ put_all first second) eg
    ∙ append_assoc recs (r ∷ []) (put_all first second)
    ∙ (λ i. recs ++ r ∷ put_all (ef i) (es i))
    ∙ ap (λ (z : List Rec). recs ++ z) (sym at.whole)
    ∙ before

-- ---- what is put together rises

rises-merge-by : (o : Ordering) (x y : Rec) (ys : List Rec) → rec_cmp x y ≡ o → Rises rec_cmp (y ∷ ys) → Rises rec_cmp (merge_by rec_cmp x ys)
    → Rises rec_cmp (merged_by rec_cmp o x y ys (merge_by rec_cmp x ys))
rises-merge-by Less x y ys e up h = ((e, below-far x y ys e up.0), up)
rises-merge-by Equal x y ys e up h = up
rises-merge-by Greater x y ys e up h = (below-merge y x ys (turned (record_id x) (record_id y) Greater e) up.0, h)

rises-merge : (x : Rec) (ys : List Rec) → Rises rec_cmp ys → Rises rec_cmp (merge_by rec_cmp x ys)
rises-merge x [] up = (tt, tt)
rises-merge x (y ∷ ys) up = rises-merge-by (rec_cmp x y) x y ys refl up (rises-merge x ys up.1)

pub rises-put : (xs ys : List Rec) → Rises rec_cmp ys → Rises rec_cmp (put_all xs ys)
rises-put [] ys up = up
rises-put (x ∷ xs) ys up = rises-merge x (put_all xs ys) (rises-put xs ys up)

-- ---- the records of a range rise

below-kept : (b : Bool) (x y : Rec) (recs : List Rec) → rec_cmp x y ≡ Less → Below rec_cmp x recs → Below rec_cmp x (cond b (y ∷ recs) recs)
below-kept true x y recs e h = (e, h)
below-kept false x y recs e h = h

below-range : (low high : ℕ) (x : Rec) (recs : List Rec) → Below rec_cmp x recs → Below rec_cmp x (in_range low high recs)
below-range low high x [] h = tt
below-range low high x (y ∷ recs) h = below-kept (is_in_range low high y) x y (in_range low high recs) h.0 (below-range low high x recs h.1)

rises-kept : (b : Bool) (x : Rec) (recs : List Rec) → Below rec_cmp x recs → Rises rec_cmp recs → Rises rec_cmp (cond b (x ∷ recs) recs)
rises-kept true x recs below up = (below, up)
rises-kept false x recs below up = up

pub rises-range : (low high : ℕ) (recs : List Rec) → Rises rec_cmp recs → Rises rec_cmp (in_range low high recs)
rises-range low high [] up = tt
rises-range low high (x ∷ recs) up =
    rises-kept (is_in_range low high x) x (in_range low high recs) (below-range low high x recs up.0) (rises-range low high recs up.1)

-- ---- all files, the last one first

rising-append : (xs ys : List Rec) → rising_by rec_cmp (xs ++ ys) ≡ put_all xs (rising_by rec_cmp ys)
rising-append [] ys = refl
rising-append (x ∷ xs) ys = ap (merge_by rec_cmp x) (rising-append xs ys)

-- a file more, before those that were gathered
pub file-more : (low high : ℕ) (file recs : List Rec) (done : List (List Rec)) → recs ≡ gathered low high done
    → put_all (in_range low high file) recs ≡ gathered low high (file ∷ done)
unfolding gathered
file-more low high file recs done e =
    ap (put_all (in_range low high file)) e ∙ sym (rising-append (in_range low high file) (flat_map (in_range low high) done))

pub gathered-none : (low high : ℕ) → gathered low high [] ≡ []
unfolding gathered
gathered-none low high = refl

-- ---- the last one of these files is taken

module _ {V : Type 0} (items : V → List Rec) where
  pub popped : (rest left : List V) (file : V) → rest ≡ left ++ file ∷ [] → map items rest ≡ map items left ++ items file ∷ []
  popped rest left file e = ap (map items) e ∙ map-append items left (file ∷ [])

  pub left-over : (rest left : List V) (file : V) (done whole : List (List Rec)) → rest ≡ left ++ file ∷ [] → map items rest ++ done ≡ whole
      → map items left ++ items file ∷ done ≡ whole
  left-over rest left file done whole e before =
      sym (append_assoc (map items left) (items file ∷ []) done) ∙ ap (λ (z : List (List Rec)). z ++ done) (sym (popped rest left file e)) ∙ before

  pub last-rises : (rest left : List V) (file : V) → rest ≡ left ++ file ∷ [] → AllByRecursion (RisesFrom None) (map items rest) → RisesFrom None (items file)
  last-rises rest left file e all =
      (all-behind (RisesFrom None) (map items left) (items file ∷ []) (subst (AllByRecursion (RisesFrom None)) (popped rest left file e) all)).0

  pub left-rise : (rest left : List V) (file : V) → rest ≡ left ++ file ∷ [] → AllByRecursion (RisesFrom None) (map items rest)
      → AllByRecursion (RisesFrom None) (map items left)
  left-rise rest left file e all =
      all-front (RisesFrom None) (map items left) (items file ∷ []) (subst (AllByRecursion (RisesFrom None)) (popped rest left file e) all)

-- without a next record all was taken
pub finished : (recs xs ys whole : List Rec) → next_of xs ys ≡ None → recs ++ put_all xs ys ≡ whole → recs ≡ whole
finished recs xs ys whole none before = sym (append-nil recs) ∙ ap (λ (z : List Rec). recs ++ z) (sym (ended xs ys none)) ∙ before
