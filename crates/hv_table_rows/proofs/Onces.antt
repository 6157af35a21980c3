-- Rows in their order, each once.
use Rattle.std.proofs.Common.{◌≡◌, suc, true, Result, Ok, Err, IfOk, inl, inr, List, [], ◌∷◌, map, refl, sym, ap, ◌∙◌, subst, arith, IsPermutation, IsSorted}
use Rattle.std.specs.declared.cmp.Ordering.TheVariants.{Less}
use Rattle.std.specs.Ordering.{is_eq, eq_by_cmp}
use Rattle.std.specs.Cmp.{eq_by_cmp_equiv, tied_itself}
use Rattle.std.specs.List.{AllByRecursion, Contains, dedup}
use Rattle.std.specs.List.Retain.{IsFiltered, DiffersFromLast}
use Rattle.std.specs.List.Sorted.{IsStrictlySortedBy}
use Rattle.std.proofs.lemmas.List.Filters.{dedup_is}
use Rattle.std.proofs.lemmas.List.Sorted.{Contains-permutation, IsPermutation-sym}
use Rattle.std.proofs.lemmas.List.Kept.{Any-dedup, Contains-from_dedup, IsStrictlySortedBy-dedup}
use Rattle.hv_logic.specs.declared.effect.Found.{Found}
use Rattle.hv_logic.specs.Rows.{found_cmp}
use Rattle.hv_stands.proofs.StandingRows.{found-total}
use Rattle.hv_table_rows.specs.declared.placed.Placed.{Placed}
use Rattle.hv_table_rows.specs.Orders.{found_in, placed_cmp, placed_total}
use Rattle.hv_table_rows.specs.Reading.{AreOnce}
use Rattle.hv_table_rows.specs.Rising.{comes_before, rise}
use Rattle.hv_table_rows.proofs.Members.{In, contained, in-map, map-in}
use Rattle.hv_table_rows.proofs.Puts.{both, less}

-- ---- through the rows that are wrapped

less-map : (x : Placed) (xs : List Placed) → AllByRecursion (λ y. placed_cmp x y ≡ Less) xs → AllByRecursion (λ y. found_cmp x.found y ≡ Less) (map found_in xs)
unfolding placed_cmp
less-map x [] all = tt
less-map x (y ∷ xs) all = (all.0, less-map x xs all.1)

up-map : (xs : List Placed) → IsStrictlySortedBy placed_cmp xs → IsStrictlySortedBy found_cmp (map found_in xs)
unfolding IsStrictlySortedBy
up-map [] up = tt
up-map (x ∷ xs) up = (less-map x xs up.0, up-map xs up.1)

pub once-map : (xs once : List Placed) → AreOnce placed_cmp xs once → AreOnce found_cmp (map found_in xs) (map found_in once)
unfolding placed_cmp
once-map xs once are = record {
  up = up-map once are.up;
  among = λ x h.
      let at = map-in found_in x once h in
      subst (λ f. In f (map found_in xs)) at.2 (in-map found_in at.0 xs (are.among at.0 at.1));
  every = λ x h.
      let at = map-in found_in x xs h in
      let other = are.every at.0 at.1 in
      (other.0.found, in-map found_in other.0 once other.1, ap (λ f. is_eq (found_cmp f other.0.found)) (sym at.2) ∙ other.2);
}

-- ---- sorted, and then one of those that tie

in-contains : {X : Type 0} (x : X) (xs : List X) → In x xs → Contains xs x
in-contains x [] h = absurd h
in-contains x (y ∷ xs) (inl e) = (0, omega arith, e)
in-contains x (y ∷ xs) (inr h) = let at = in-contains x xs h in (suc at.0, omega (arith, at.1), at.2)

pub once-sorted : (rows sorted once : List Placed) → IsPermutation rows sorted → IsSorted placed_cmp sorted
    → IsFiltered (DiffersFromLast (eq_by_cmp placed_cmp)) [] sorted once → AreOnce placed_cmp rows once
once-sorted rows sorted once permuted up filtered =
    subst (AreOnce placed_cmp rows) (sym (dedup_is (eq_by_cmp placed_cmp) sorted once filtered)) (record {
      up = IsStrictlySortedBy-dedup placed_total (λ x y. refl) sorted up;
      among = λ x h.
          contained rows x
          (Contains-permutation sorted rows x (IsPermutation-sym rows sorted permuted)
          (Contains-from_dedup (eq_by_cmp placed_cmp) sorted x (in-contains x (dedup (eq_by_cmp placed_cmp) sorted) h)));
      every = λ x h.
          let tied = Any-dedup (eq_by_cmp_equiv placed_total) sorted x (Contains-permutation rows sorted x permuted (in-contains x rows h)) in
          (tied.1, contained (dedup (eq_by_cmp placed_cmp) sorted) tied.1 (tied.0, tied.2, tied.3), tied.4);
    })

-- ---- rows that rise already

before-less : (x y : Found) → comes_before x y ≡ true → found_cmp x y ≡ Less
unfolding comes_before
before-less x y e = less (found_cmp x y) e

before-all : (x y : Found) (ys : List Found) → found_cmp x y ≡ Less → AllByRecursion (λ z. found_cmp y z ≡ Less) ys → AllByRecursion (λ z. found_cmp x z ≡ Less) ys
before-all x y [] first all = tt
before-all x y (z ∷ ys) first all = (found-total.trans x y z first all.0, before-all x y ys first all.1)

up-rows : (rows : List Found) → rise rows ≡ true → IsStrictlySortedBy found_cmp rows
unfolding IsStrictlySortedBy
up-rows [] e = tt
up-rows (x ∷ []) e = (tt, tt)
up-rows (x ∷ y ∷ ys) e =
    let parts = both (comes_before x y) (rise (y ∷ ys)) e in
    let first = before-less x y parts.0 in
    let rest = up-rows (y ∷ ys) parts.1 in
    ((first, before-all x y ys first rest.0), rest)

pub once-rising : (rows : List Found) → rise rows ≡ true → AreOnce found_cmp rows rows
once-rising rows e = record {
  up = up-rows rows e;
  among = λ x h. h;
  every = λ x h. (x, h, ap is_eq (tied_itself found-total x));
}

-- ---- what a result has

pub if-ok : {T E : Type 0} (r : Result T E) (P Q : T → Type 0) → ((x : T) → P x → Q x) → IfOk r P → IfOk r Q
if-ok (Ok x) P Q f p = f x p
if-ok (Err e) P Q f p = tt
