-- Going back over the ids of one table adds up what all ids weigh, where those of other tables weigh nothing.
use Rattle.std.proofs.Common.{◌≡◌, ℕ, zero, suc, ◌+◌, ◌<◌, ◌≤◌, Bool, true, false, Some, List, [], ◌∷◌, length, map, take, drop, get_or, refl, sym, ap, ◌∙◌, subst, arith}
use Rattle.std.specs.Prelude.{◌==◌, ◌&&◌, nat_lt, nat_le}
use Rattle.std.specs.Option.{option_map}
use Rattle.std.specs.List.{slice_get, AllByRecursion}
use Rattle.std.specs.List.Sorted.{IsPartitionedBy, IsPartitionPoint}
use Rattle.std.proofs.lemmas.Bool.{lt-ltb, ltb-true, ltb-false, le-leb, lt-leb, eq-eqb, ne_eqb}
use Rattle.std.proofs.lemmas.List.{take-append-drop, take_all}
use Rattle.std.proofs.lemmas.Option.{slice_get-map}
use Rattle.hv_ids.specs.declared.notes.PlacedId.{PlacedId}
use Rattle.hv_ids.specs.Ids.{table_of}
use Rattle.hv_links.specs.Links.{last_of, last_before, before_of}
use Rattle.hv_links.proofs.LinkLaws.{none-behind, last-is, last-most}
use Rattle.hv_meta.specs.hv_book.specs.hv_history.specs.declared.entry.Entry.{Entry}
use Rattle.hv_meta.specs.hv_book.specs.hv_history.specs.State.{numbered, state_of}
use Rattle.hv_meta.specs.hv_book.specs.Past.{Past, IsPast, IsBehind, PlacesRise, owners_in, total, only_if, given_then}
use Rattle.hv_meta.specs.hv_book.specs.Commits.{IsRising}
use Rattle.hv_meta.specs.hv_book.specs.Opened.{before_place}
use Rattle.hv_meta.specs.hv_book.proofs.IdLaws.{total-append}
use Rattle.hv_earlier.specs.Places.{given_from}

pub total-none : {A : Type 0} (f : A → ℕ) (xs : List A) → AllByRecursion (λ (x : A). f x ≡ 0) xs → total f xs ≡ 0
total-none f [] h = refl
total-none f (x ∷ xs) h = let first : f x ≡ 0 = h.0 in omega (arith, first, total-none f xs h.1)

pub total-same : {A : Type 0} (f g : A → ℕ) → ((x : A) → f x ≡ g x) → (xs : List A) → total f xs ≡ total g xs
total-same f g same [] = refl
total-same f g same (x ∷ xs) = λ i. same x i + total-same f g same xs i

-- the number is 0, or that of an id of the table
abbrev pub IsStop : ℕ → List PlacedId → ℕ → Type 0
IsStop table ids number = (at : ℕ) (x : PlacedId) → number ≡ suc at → slice_get ids at ≡ Some x → x.id.table ≡ table

map-get : (ids : List PlacedId) (at : ℕ) (x : PlacedId) → slice_get ids at ≡ Some x → slice_get (map table_of ids) at ≡ Some x.id.table
map-get ids at x got = slice_get-map table_of ids at ∙ ap (option_map table_of) got

map-take : (n : ℕ) (ids : List PlacedId) → take n (map table_of ids) ≡ map table_of (take n ids)
map-take zero ids = refl
map-take (suc n) [] = refl
map-take (suc n) (x ∷ ids) = ap (λ gs. x.id.table ∷ gs) (map-take n ids)

pub stop-start : (table : ℕ) (ids : List PlacedId) → IsStop table ids (last_of table (map table_of ids))
stop-start table ids at x is got =
    let both : Some x.id.table ≡ Some table = sym (map-get ids at x got) ∙ last-is table (map table_of ids) at is in
    cc

get-take : {A : Type 0} (xs : List A) (n at : ℕ) → at < n → slice_get (take n xs) at ≡ slice_get xs at
get-take [] zero at lt = refl
get-take [] (suc n) at lt = refl
get-take (x ∷ xs) zero at lt = absurd (omega (arith, lt))
get-take (x ∷ xs) (suc n) zero lt = refl
get-take (x ∷ xs) (suc n) (suc at) lt = get-take xs n at (omega (arith, lt))

before-as : (table : ℕ) (ids : List PlacedId) (at : ℕ) (x : PlacedId) → slice_get ids at ≡ Some x → x.id.table ≡ table
    → before_of (suc at) (map table_of ids) ≡ last_of table (map table_of (take at ids))
before-as table ids at x got is =
    ap (λ o. last_before o (take at (map table_of ids))) (map-get ids at x got)
    ∙ (λ i. last_of (is i) (map-take at ids i))

pub stop-step : (table : ℕ) (ids : List PlacedId) (at : ℕ) (x : PlacedId) → slice_get ids at ≡ Some x → x.id.table ≡ table
    → IsStop table ids (before_of (suc at) (map table_of ids))
stop-step table ids at x got is k y e here =
    let last : last_of table (map table_of (take at ids)) ≡ suc k = sym (before-as table ids at x got is) ∙ e in
    let most = last-most table (map table_of (take at ids)) in
    let long = length-take-most at ids in
    let long_map = length-mapped (take at ids) in
    stop-start table (take at ids) k y last (get-take ids at k (omega (arith, last, most, long, long_map)) ∙ here)
  where
    length-take-most : (n : ℕ) (xs : List PlacedId) → length (take n xs) ≤ n
    length-take-most zero xs = omega arith
    length-take-most (suc n) [] = omega arith
    length-take-most (suc n) (y ∷ xs) = omega (arith, length-take-most n xs)

    length-mapped : (xs : List PlacedId) → length (map table_of xs) ≡ length xs
    length-mapped [] = refl
    length-mapped (y ∷ xs) = ap suc (length-mapped xs)

module _ (f : PlacedId → ℕ) (table : ℕ) (other : (x : PlacedId) → (x.id.table ≡ table → ⊥) → f x ≡ 0) where
  nothing-of : (n : ℕ) (ids : List PlacedId) → AllByRecursion (λ group. group ≡ table → ⊥) (drop n (map table_of ids)) → total f (drop n ids) ≡ 0
  nothing-of zero [] h = refl
  nothing-of zero (x ∷ ids) h = let first : f x ≡ 0 = other x h.0 in omega (arith, first, nothing-of zero ids h.1)
  nothing-of (suc n) [] h = refl
  nothing-of (suc n) (x ∷ ids) h = nothing-of n ids h

  pub walk-start : (ids : List PlacedId) → total f (take (last_of table (map table_of ids)) ids) ≡ total f ids
  walk-start ids =
      let n = last_of table (map table_of ids) in
      let none = nothing-of n ids (none-behind table (map table_of ids)) in
      let split = total-append f (take n ids) (drop n ids) in
      let whole = ap (total f) (take-append-drop n ids) in
      omega (arith, none, split, whole)

  take-take : (m n : ℕ) (ids : List PlacedId) → m ≤ n → take m (take n ids) ≡ take m ids
  take-take zero n ids le = refl
  take-take (suc m) zero ids le = absurd (omega (arith, le))
  take-take (suc m) (suc n) [] le = refl
  take-take (suc m) (suc n) (x ∷ ids) le = ap (λ ys. x ∷ ys) (take-take m n ids (omega (arith, le)))

  take-one : (ids : List PlacedId) (at : ℕ) (x : PlacedId) → slice_get ids at ≡ Some x → total f (take (suc at) ids) ≡ total f (take at ids) + f x
  take-one [] at x got = cc
  take-one (y ∷ ids) zero x got = let same : y ≡ x = cc in let weight : f y ≡ f x = ap f same in omega (arith, weight)
  take-one (y ∷ ids) (suc at) x got = omega (arith, take-one ids at x got)

  pub walk-step : (ids : List PlacedId) (at : ℕ) (x : PlacedId) → slice_get ids at ≡ Some x → x.id.table ≡ table
      → total f (take (suc at) ids) ≡ total f (take (before_of (suc at) (map table_of ids)) ids) + f x
  walk-step ids at x got is =
      let n = last_of table (map table_of (take at ids)) in
      let front = walk-start (take at ids) in
      let most = last-most table (map table_of (take at ids)) in
      let within : n ≤ at = (let a = mapped-most at ids in omega (arith, most, a)) in
      let short = ap (total f) (take-take n at ids within) in
      let same = ap (λ k. total f (take k ids)) (before-as table ids at x got is) in
      omega (arith, take-one ids at x got, front, short, same)
    where
      mapped-most : (n : ℕ) (xs : List PlacedId) → length (map table_of (take n xs)) ≤ n
      mapped-most zero xs = omega arith
      mapped-most (suc n) [] = omega arith
      mapped-most (suc n) (y ∷ xs) = omega (arith, mapped-most n xs)

-- ---- ids given before and from a place

given-other : (position table : ℕ) (x : PlacedId) → (x.id.table ≡ table → ⊥) → given_from position table x ≡ 0
given-other position table x other = ap (λ b. only_if (b && nat_le position x.at) 1) (ne_eqb x.id.table table other)

pub given-start : (position table : ℕ) (ids : List PlacedId) → total (given_from position table) (take (last_of table (map table_of ids)) ids) ≡ total (given_from position table) ids
given-start position table ids = walk-start (given_from position table) table (given-other position table) ids

pub given-step : (position table : ℕ) (ids : List PlacedId) (at : ℕ) (x : PlacedId) → slice_get ids at ≡ Some x → x.id.table ≡ table → position ≤ x.at
    → total (given_from position table) (take (suc at) ids) ≡ total (given_from position table) (take (before_of (suc at) (map table_of ids)) ids) + 1
given-step position table ids at x got is from =
    let step = walk-step (given_from position table) table (given-other position table) ids at x got is in
    let one : given_from position table x ≡ 1 = (λ i. only_if (eq-eqb x.id.table table is i && le-leb position x.at from i) 1) in
    omega (arith, step, one)

-- those before an id that was given before the place were, too
pub none-from : (f : PlacedId → ℕ) (position : ℕ) → ((x : PlacedId) → x.at < position → f x ≡ 0) → (ids : List PlacedId) (at : ℕ) (x : PlacedId) → PlacesRise ids → slice_get ids at ≡ Some x
    → x.at < position → total f (take (suc at) ids) ≡ 0
none-from f position none [] at x rise got before = refl
none-from f position none (y ∷ ids) zero x rise got before =
    let same : y ≡ x = cc in
    let nothing : f y ≡ 0 = none y (subst (λ (z : PlacedId). z.at < position) (sym same) before) in
    omega (arith, nothing)
none-from f position none (y ∷ ids) (suc at) x rise got before =
    let nothing : f y ≡ 0 = none y (earlier ids at rise.0 got) in
    omega (arith, nothing, none-from f position none ids at x rise.1 got before)
  where
    earlier : (xs : List PlacedId) (k : ℕ) → AllByRecursion (λ (other : PlacedId). y.at ≤ other.at) xs → slice_get xs k ≡ Some x → y.at < position
    earlier [] k h here = cc
    earlier (z ∷ xs) zero h here =
        let same : z ≡ x = cc in
        let le : y.at ≤ x.at = subst (λ (w : PlacedId). y.at ≤ w.at) same h.0 in
        omega (arith, le, before)
    earlier (z ∷ xs) (suc k) h here = earlier xs k h.1 here

pub not-from : (position table : ℕ) (x : PlacedId) → x.at < position → given_from position table x ≡ 0
not-from position table x lt = ap (λ b. only_if ((x.id.table == table) && b) 1) (lt-leb position x.at lt) ∙ never (x.id.table == table)
  where
    never : (b : Bool) → only_if (b && false) 1 ≡ 0
    never true = refl
    never false = refl

-- each id was given before the place or from it on
pub given-split : (end position table : ℕ) (ids : List PlacedId) → AllByRecursion (IsBehind end) ids
    → total (given_then end table) ids ≡ total (given_then position table) ids + total (given_from position table) ids
given-split end position table [] h = refl
given-split end position table (x ∷ ids) h =
    let first : given_then end table x ≡ given_then position table x + given_from position table x =
    ap (λ b. only_if ((x.id.table == table) && b) 1) (lt-ltb x.at end h.0) ∙ by (nat_lt x.at position) refl (x.id.table == table)
    in
    omega (arith, first, given-split end position table ids h.1)
  where
    by : (c : Bool) → nat_lt x.at position ≡ c → (b : Bool) → only_if (b && true) 1 ≡ only_if (b && nat_lt x.at position) 1 + only_if (b && nat_le position x.at) 1
    by true is true = (λ i. only_if (sym is i) 1 + only_if (sym (lt-leb position x.at (ltb-true x.at position is)) i) 1)
    by false is true = (λ i. only_if (sym is i) 1 + only_if (sym (le-leb position x.at (ltb-false x.at position is)) i) 1)
    by c is false = refl

-- the ids of a table are those that were given before the place, and those that were from it on
pub given-so : (entries : List Entry) (position table : ℕ) (past : Past) → IsPast entries past
    → length (owners_in (numbered (state_of entries).tables table))
    ≡ length (owners_in (numbered (state_of (take position entries)).tables table)) + total (given_from position table) past.given
given-so entries position table past h =
    let all = h.given (length entries) table in
    let then = h.given position table in
    let split = given-split (length entries) position table past.given h.given_below in
    let whole = ap (λ (xs : List Entry). length (owners_in (numbered (state_of xs).tables table))) (take_all (length entries) entries (omega arith)) in
    omega (arith, all, then, split, whole)

-- ---- places that rise

pub places-parted : (position : ℕ) (places : List ℕ) → IsRising places → IsPartitionedBy (λ at. nat_lt at position) places
places-parted position [] h i j d le within k = absurd (omega (arith, within))
places-parted position (x ∷ places) h zero zero d le within k = k
places-parted position (x ∷ places) h zero (suc j) d le within k =
    let behind = ltb-true (get_or places j d) position k in
    let below = first places j d h.0 (omega (arith, within)) in
    lt-ltb x position (omega (arith, behind, below))
  where
    first : (xs : List ℕ) (n d : ℕ) → AllByRecursion (λ (other : ℕ). x < other) xs → n < length xs → x < get_or xs n d
    first [] n d l in_it = absurd (omega (arith, in_it))
    first (y ∷ xs) zero d l in_it = l.0
    first (y ∷ xs) (suc n) d l in_it = first xs n d l.1 (omega (arith, in_it))
places-parted position (x ∷ places) h (suc i) zero d le within k = absurd (omega (arith, le))
places-parted position (x ∷ places) h (suc i) (suc j) d le within k = places-parted position places h.1 i j d (omega (arith, le)) (omega (arith, within)) k

pub places-before : (position : ℕ) (places : List ℕ) (i : ℕ) → i ≤ length places
    → IsPartitionPoint (λ at. nat_lt at position ≡ true) (λ at. nat_lt at position ≡ false) places i → total (before_place position) places ≡ i
places-before position [] zero le point = refl
places-before position [] (suc i) le point = absurd (omega (arith, le))
places-before position (x ∷ places) zero le point =
    let first : before_place position x ≡ 0 = ap (λ b. only_if b 1) (point.1 0 x (omega arith) (omega arith)) in
    let rest = places-before position places zero (omega arith) (λ k d low up. absurd (omega (arith, up)), λ k d low up. point.1 (suc k) d (omega arith) (omega (arith, up))) in
    omega (arith, first, rest)
places-before position (x ∷ places) (suc i) le point =
    let first : before_place position x ≡ 1 = ap (λ b. only_if b 1) (point.0 0 x (omega arith) (omega arith)) in
    let rest = places-before position places i (omega (arith, le))
    (λ k d low up. point.0 (suc k) d (omega arith) (omega (arith, up)), λ k d low up. point.1 (suc k) d (omega (arith, low)) (omega (arith, up)))
    in
    omega (arith, first, rest)
