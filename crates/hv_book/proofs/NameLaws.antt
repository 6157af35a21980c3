-- The live tables by name: one entry more, and the search for a name.
use Rattle.std.proofs.Common.{◌≡◌, ℕ, zero, suc, ◌+◌, ◌<◌, ◌≤◌, Bool, true, false, Option, Some, None, List, [], ◌∷◌, ◌++◌, length, filter, get_or, refl, sym, ap, ◌∙◌, subst, arith, inl, inr}
use Rattle.std.specs.Prelude.{if◌then◌else◌, ◌==◌, ◌&&◌, ◌||◌, ◌⊎◌, not, nat_eq, IsTrue, IsFalse}
use Rattle.std.specs.Option.{option_map}
use Rattle.std.specs.List.{slice_get, insert, list_any, AllByRecursion, AllWithin}
use Rattle.std.specs.List.Sorted.{IsPartitionedBy}
use Rattle.std.specs.declared.cmp.Ordering.{Ordering}
use Rattle.std.specs.declared.cmp.Ordering.TheVariants.{Less, Equal, Greater}
use Rattle.std.specs.Ordering.{nat_cmp, is_lt, is_gt, is_eq, ordering_reverse}
use Rattle.std.specs.Cmp.Lexicographic.{slice_cmp, pointwise, texts_ties}
use Rattle.std.proofs.lemmas.Cmp.{nat_list_cmp_total, alike_right}
use Rattle.std.proofs.lemmas.Bool.{eqb-true, eq-eqb}
use Rattle.hv_history.specs.declared.entry.Entry.{Entry}
use Rattle.hv_history.specs.declared.entry.Entry.TheVariants as entry
use Rattle.hv_history.specs.declared.state.Table.{Table}
use Rattle.hv_history.specs.State.{State, numbered, changed, owned, dropped, forgot, tables_behind, commits, made_by, acted, after}
use Rattle.hv_history.specs.Legal.{is_named}
use Rattle.hv_book.specs.Notes.{other_than}
use Rattle.hv_book.specs.Names.{name_in, name_at, live_in, is_live_at, is_below, is_above, NamesRise, is_among, IsNamed, IsNamePoint, IsNamePlace, names_behind}
use Rattle.hv_book.proofs.HeldLaws.{same_or_not, numbered-here, numbered-other}
use Rattle.hv_book.proofs.TableLaws.{kept-changed, behind-keeps}
use Rattle.hv_book.proofs.TextLaws.{get-front, get-last}

-- ---- names in their order

cmp : List ℕ → List ℕ → Ordering
cmp = slice_cmp nat_cmp

turned : (o : Ordering) → is_lt (ordering_reverse o) ≡ is_gt o
turned Less = refl
turned Equal = refl
turned Greater = refl

-- what isn't below the other isn't passed by it
not-above : (a b : List ℕ) → is_below a b ≡ false → is_above b a ≡ false
not-above a b h = sym (turned (slice_cmp nat_cmp b a)) ∙ ap is_lt (sym (nat_list_cmp_total.antisymm a b)) ∙ h

below-not-above : (a b : List ℕ) → is_below a b ≡ true → is_above a b ≡ false
below-not-above a b h = by (slice_cmp nat_cmp a b) h
  where
    by : (o : Ordering) → is_lt o ≡ true → is_gt o ≡ false
    by Less e = refl
    by Equal e = refl
    by Greater e = cc

-- what stands no higher than one below a name is below it, too
still-below : (a b c : List ℕ) → is_above a b ≡ false → is_below b c ≡ true → is_below a c ≡ true
still-below a b c h k = by (slice_cmp nat_cmp a b) refl h (slice_cmp nat_cmp b c) refl k
  where
    by : (o : Ordering) → slice_cmp nat_cmp a b ≡ o → is_gt o ≡ false → (r : Ordering) → slice_cmp nat_cmp b c ≡ r → is_lt r ≡ true → is_lt (slice_cmp nat_cmp a c) ≡ true
    by Less p e Less q f = ap is_lt (nat_list_cmp_total.trans a b c p q)
    by Equal p e Less q f = ap is_lt (nat_list_cmp_total.congr a b c p ∙ q)
    by Greater p e r q f = cc
    by o p e Equal q f = cc
    by o p e Greater q f = cc

-- a name between a name and itself
same-between : (a b name : List ℕ) → is_above a b ≡ false → is_below a name ≡ false → pointwise nat_eq b name ≡ true → pointwise nat_eq a name ≡ true
same-between a b name no_above no_below is =
    texts_ties a name ∙ by (slice_cmp nat_cmp a name) (ap is_gt (sym right) ∙ no_above) no_below
  where
    equal : (o : Ordering) → is_eq o ≡ true → o ≡ Equal
    equal Less e = cc
    equal Equal e = refl
    equal Greater e = cc

    tied : slice_cmp nat_cmp b name ≡ Equal
    tied = equal (slice_cmp nat_cmp b name) (sym (texts_ties b name) ∙ is)

    right : slice_cmp nat_cmp a b ≡ slice_cmp nat_cmp a name
    right = alike_right nat_list_cmp_total b name a tied

    by : (o : Ordering) → is_gt o ≡ false → is_lt o ≡ false → is_eq o ≡ true
    by Less g l = cc
    by Equal g l = refl
    by Greater g l = cc

same-not-below : (a name : List ℕ) → pointwise nat_eq a name ≡ true → is_below a name ≡ false
same-not-below a name is = by (slice_cmp nat_cmp a name) (sym (texts_ties a name) ∙ is)
  where
    by : (o : Ordering) → is_eq o ≡ true → is_lt o ≡ false
    by Less e = cc
    by Equal e = refl
    by Greater e = cc

-- ---- the search

rise-at : (tables : List Table) (x : ℕ) (xs : List ℕ) (j d : ℕ) → AllByRecursion (λ other. IsFalse (is_above (name_at tables x) (name_at tables other))) xs → j < length xs
    → is_above (name_at tables x) (name_at tables (get_or xs j d)) ≡ false
rise-at tables x [] j d h within = absurd (omega (arith, within))
rise-at tables x (y ∷ xs) zero d h within = h.0
rise-at tables x (y ∷ xs) (suc j) d h within = rise-at tables x xs j d h.1 (omega (arith, within))

pub parted : (tables : List Table) (name xs : List ℕ) → NamesRise tables xs → IsPartitionedBy (λ number. is_below (name_at tables number) name) xs
parted tables name [] h i j d le within k = absurd (omega (arith, within))
parted tables name (x ∷ xs) h zero zero d le within k = k
parted tables name (x ∷ xs) h zero (suc j) d le within k =
    still-below (name_at tables x) (name_at tables (get_or xs j d)) name (rise-at tables x xs j d h.0 (omega (arith, within))) k
parted tables name (x ∷ xs) h (suc i) zero d le within k = absurd (omega (arith, le))
parted tables name (x ∷ xs) h (suc i) (suc j) d le within k = parted tables name xs h.1 i j d (omega (arith, le)) (omega (arith, within)) k

not-passed : (tables : List Table) (x n : ℕ) (ys : List ℕ) → AllByRecursion (λ other. IsFalse (is_above (name_at tables x) (name_at tables other))) ys → is_among n ys ≡ true
    → is_above (name_at tables x) (name_at tables n) ≡ false
not-passed tables x n [] k e = cc
not-passed tables x n (y ∷ ys) k e = by (y == n) refl e (λ f. not-passed tables x n ys k.1 f)
  where
    by : (b : Bool) → (y == n) ≡ b → (b || is_among n ys) ≡ true → (is_among n ys ≡ true → is_above (name_at tables x) (name_at tables n) ≡ false)
        → is_above (name_at tables x) (name_at tables n) ≡ false
    by true same f rest = ap (λ m. is_above (name_at tables x) (name_at tables m)) (sym (eqb-true y n same)) ∙ k.0
    by false same f rest = rest f

-- the first one that isn't below the name
unfoldable pub at-point : List Table → List ℕ → Option ℕ → Bool
at-point tables name None = false
at-point tables name (Some number) = pointwise nat_eq (name_at tables number) name

pub found-point : (tables : List Table) (name xs : List ℕ) (i n : ℕ) → NamesRise tables xs → i ≤ length xs → IsNamePoint tables name xs i
    → is_among n xs ≡ true → pointwise nat_eq (name_at tables n) name ≡ true → at-point tables name (slice_get xs i) ≡ true
unfolding at-point
found-point tables name [] i n h le point among is = cc
found-point tables name (x ∷ xs) zero n h le point among is = by (x == n) refl among
  where
    first : is_below (name_at tables x) name ≡ false
    first = point.1 0 x (omega arith) (omega arith)

    by : (b : Bool) → (x == n) ≡ b → (b || is_among n xs) ≡ true → pointwise nat_eq (name_at tables x) name ≡ true
    by true same e = ap (λ m. pointwise nat_eq (name_at tables m) name) (eqb-true x n same) ∙ is
    by false same e = same-between (name_at tables x) (name_at tables n) name (not-passed tables x n xs h.0 e) first is
found-point tables name (x ∷ xs) (suc i) n h le point among is = by (x == n) refl among
    (λ e. found-point tables name xs i n h.1 (omega (arith, le))
    (λ k d low up. point.0 (suc k) d (omega arith) (omega (arith, up)), λ k d low up. point.1 (suc k) d (omega (arith, low)) (omega (arith, up))) e is)
  where
    by : (b : Bool) → (x == n) ≡ b → (b || is_among n xs) ≡ true → (is_among n xs ≡ true → at-point tables name (slice_get xs i) ≡ true) → at-point tables name (slice_get xs i) ≡ true
    by true same e rest =
        let before : is_below (name_at tables x) name ≡ true = point.0 0 x (omega arith) (omega arith) in
        let not_before : is_below (name_at tables x) name ≡ false =
        same-not-below (name_at tables x) name (ap (λ m. pointwise nat_eq (name_at tables m) name) (eqb-true x n same) ∙ is) in
        let both : true ≡ false = sym before ∙ not_before in
        cc
    by false same e rest = rest e

-- ---- a table of that name

record Named (tables : List Table) (name : List ℕ) : Type 0 where
  number : ℕ
  live : is_live_at tables number ≡ true
  named : pointwise nat_eq (name_at tables number) name ≡ true

named-later : (t : Table) (tables : List Table) (name : List ℕ) → Named tables name → Named (t ∷ tables) name
named-later t tables name h = by h.number h.live h.named
  where
    by : (n : ℕ) → is_live_at tables n ≡ true → pointwise nat_eq (name_at tables n) name ≡ true → Named (t ∷ tables) name
    by zero live named = cc
    by (suc n) live named = record { number = suc (suc n); live = live; named = named }

any-named : (tables : List Table) (name : List ℕ) → list_any (is_named name) tables ≡ true → Named tables name
any-named [] name h = cc
any-named (t ∷ tables) name h = by t.is_live refl (pointwise nat_eq t.info.shape.name name) refl h (λ e. named-later t tables name (any-named tables name e))
  where
    by : (b : Bool) → t.is_live ≡ b → (c : Bool) → pointwise nat_eq t.info.shape.name name ≡ c → ((b && c) || list_any (is_named name) tables) ≡ true
        → (list_any (is_named name) tables ≡ true → Named (t ∷ tables) name) → Named (t ∷ tables) name
    by true live true named e rest = record { number = 1; live = live; named = named }
    by true live false named e rest = rest e
    by false live c named e rest = rest e

named-any : (tables : List Table) (name : List ℕ) (n : ℕ) → is_live_at tables n ≡ true → pointwise nat_eq (name_at tables n) name ≡ true → list_any (is_named name) tables ≡ true
named-any tables name zero live named = cc
named-any [] name (suc n) live named = cc
named-any (t ∷ tables) name (suc zero) live named = λ i. (live i && named i) || list_any (is_named name) tables
named-any (t ∷ tables) name (suc (suc n)) live named = or-right (is_named name t) (list_any (is_named name) tables) (named-any tables name (suc n) live named)
  where
    or-right : (a b : Bool) → b ≡ true → (a || b) ≡ true
    or-right true b e = refl
    or-right false b e = e

all-get : (tables : List Table) (xs : List ℕ) (i n : ℕ) → AllByRecursion (λ number. IsTrue (is_live_at tables number)) xs → slice_get xs i ≡ Some n → is_live_at tables n ≡ true
all-get tables [] i n h got = cc
all-get tables (x ∷ xs) zero n h got = let same : x ≡ n = cc in ap (is_live_at tables) (sym same) ∙ h.0
all-get tables (x ∷ xs) (suc i) n h got = all-get tables xs i n h.1 got

-- the search finds a table of the name where there is one
pub searched : (tables : List Table) (name numbers : List ℕ) (i : ℕ) → IsNamed tables numbers → i ≤ length numbers → IsNamePoint tables name numbers i
    → at-point tables name (slice_get numbers i) ≡ list_any (is_named name) tables
unfolding at-point
searched tables name numbers i h le point = by (list_any (is_named name) tables) refl (at-point tables name (slice_get numbers i)) refl
  where
    gives : (o : Option ℕ) → slice_get numbers i ≡ o → at-point tables name o ≡ true → list_any (is_named name) tables ≡ true
    gives None got e = cc
    gives (Some n) got e = named-any tables name n (all-get tables numbers i n h.live got) e

    by : (b : Bool) → list_any (is_named name) tables ≡ b → (c : Bool) → at-point tables name (slice_get numbers i) ≡ c → c ≡ b
    by true is c got =
        let one = any-named tables name is in
        sym got ∙ found-point tables name numbers i one.number h.rise le point (h.all one.number one.live) one.named
    by false is true got = let both : false ≡ true = sym is ∙ gives (slice_get numbers i) refl got in cc
    by false is false got = refl

pub point-some : (tables : List Table) (name numbers : List ℕ) (i n : ℕ) (b : Bool) → slice_get numbers i ≡ Some n → b ≡ pointwise nat_eq (name_at tables n) name
    → b ≡ at-point tables name (slice_get numbers i)
unfolding at-point
point-some tables name numbers i n b got is = is ∙ ap (at-point tables name) (sym got)

pub point-none : (tables : List Table) (name numbers : List ℕ) (i : ℕ) → slice_get numbers i ≡ None → false ≡ at-point tables name (slice_get numbers i)
unfolding at-point
point-none tables name numbers i got = ap (at-point tables name) (sym got)

-- ---- one entry more

-- where all live tables and names are the same
named-same : (ts us : List Table) (numbers : List ℕ) → ((n : ℕ) → live_in (numbered us n) ≡ live_in (numbered ts n)) → ((n : ℕ) → name_in (numbered us n) ≡ name_in (numbered ts n))
    → IsNamed ts numbers → IsNamed us numbers
named-same ts us numbers live name h = record {
  live = all numbers h.live;
  all = λ n is. h.all n (sym (live n) ∙ is);
  rise = rises numbers h.rise;
}
  where
    all : (xs : List ℕ) → AllByRecursion (λ n. IsTrue (is_live_at ts n)) xs → AllByRecursion (λ n. IsTrue (is_live_at us n)) xs
    all [] k = tt
    all (x ∷ xs) k = (live x ∙ k.0, all xs k.1)

    first : (x : ℕ) (xs : List ℕ) → AllByRecursion (λ other. IsFalse (is_above (name_at ts x) (name_at ts other))) xs
        → AllByRecursion (λ other. IsFalse (is_above (name_at us x) (name_at us other))) xs
    first x [] k = tt
    first x (y ∷ xs) k = ((λ i. is_above (name x i) (name y i)) ∙ k.0, first x xs k.1)

    rises : (xs : List ℕ) → NamesRise ts xs → NamesRise us xs
    rises [] k = tt
    rises (x ∷ xs) k = (first x xs k.0, rises xs k.1)

-- ---- a number more

all-insert : (P : ℕ → Type 0) (xs : List ℕ) (at new : ℕ) → P new → AllByRecursion P xs → AllByRecursion P (insert xs at new)
all-insert P [] zero new is h = (is, tt)
all-insert P [] (suc at) new is h = (is, tt)
all-insert P (x ∷ xs) zero new is h = (is, h)
all-insert P (x ∷ xs) (suc at) new is h = (h.0, all-insert P xs at new is h.1)

or-more : (b c : Bool) → c ≡ true → (b || c) ≡ true
or-more true c e = refl
or-more false c e = e

insert-new : (xs : List ℕ) (at new n : ℕ) → new ≡ n → is_among n (insert xs at new) ≡ true
insert-new [] zero new n is = ap (λ b. b || false) (eq-eqb new n is)
insert-new [] (suc at) new n is = ap (λ b. b || false) (eq-eqb new n is)
insert-new (x ∷ xs) zero new n is = ap (λ b. b || is_among n (x ∷ xs)) (eq-eqb new n is)
insert-new (x ∷ xs) (suc at) new n is = or-more (x == n) (is_among n (insert xs at new)) (insert-new xs at new n is)

insert-keeps : (xs : List ℕ) (at new n : ℕ) → is_among n xs ≡ true → is_among n (insert xs at new) ≡ true
insert-keeps [] at new n h = cc
insert-keeps (x ∷ xs) zero new n h = or-more (new == n) (is_among n (x ∷ xs)) h
insert-keeps (x ∷ xs) (suc at) new n h = by (x == n) h (λ e. insert-keeps xs at new n e)
  where
    by : (b : Bool) → (b || is_among n xs) ≡ true → (is_among n xs ≡ true → is_among n (insert xs at new) ≡ true) → (b || is_among n (insert xs at new)) ≡ true
    by true e rest = refl
    by false e rest = rest e

insert-rise : (tables : List Table) (xs : List ℕ) (at new : ℕ) → NamesRise tables xs → at ≤ length xs → IsNamePoint tables (name_at tables new) xs at
    → NamesRise tables (insert xs at new)
insert-rise tables [] zero new h le point = (tt, tt)
insert-rise tables [] (suc at) new h le point = (tt, tt)
insert-rise tables (x ∷ xs) zero new h le point = (front (x ∷ xs) point.1, h)
  where
    front : (ys : List ℕ) → AllWithin (λ number. is_below (name_at tables number) (name_at tables new) ≡ false) ys 0 (length ys)
        → AllByRecursion (λ other. IsFalse (is_above (name_at tables new) (name_at tables other))) ys
    front [] k = tt
    front (y ∷ ys) k =
        (not-above (name_at tables y) (name_at tables new) (k 0 y (omega arith) (omega arith)), front ys (λ i d low up. k (suc i) d (omega arith) (omega (arith, up))))
insert-rise tables (x ∷ xs) (suc at) new h le point = (
  all-insert (λ other. IsFalse (is_above (name_at tables x) (name_at tables other))) xs at new
      (below-not-above (name_at tables x) (name_at tables new) (point.0 0 x (omega arith) (omega arith))) h.0,
  insert-rise tables xs at new h.1 (omega (arith, le))
      (λ k d low up. point.0 (suc k) d (omega arith) (omega (arith, up)), λ k d low up. point.1 (suc k) d (omega (arith, low)) (omega (arith, up))),
)

get-live : (tables : List Table) (xs : List ℕ) (i d : ℕ) → AllByRecursion (λ number. IsTrue (is_live_at tables number)) xs → i < length xs → is_live_at tables (get_or xs i d) ≡ true
get-live tables [] i d h within = absurd (omega (arith, within))
get-live tables (x ∷ xs) zero d h within = h.0
get-live tables (x ∷ xs) (suc i) d h within = get-live tables xs i d h.1 (omega (arith, within))

-- ---- a table more

older : (ts : List Table) (t : Table) (n : ℕ) → n ≤ length ts → numbered (ts ++ t ∷ []) n ≡ numbered ts n
older ts t zero le = refl
older ts t (suc n) le = get-front ts (t ∷ []) n (omega (arith, le))

newest : (ts : List Table) (t : Table) → numbered (ts ++ t ∷ []) (length ts + 1) ≡ Some t
newest ts t = ap (numbered (ts ++ t ∷ [])) (let at : length ts + 1 ≡ suc (length ts) = omega arith in at) ∙ get-last ts t

there : (ts : List Table) (n : ℕ) → live_in (slice_get ts n) ≡ true → n < length ts
there [] n live = cc
there (t ∷ ts) zero live = omega arith
there (t ∷ ts) (suc n) live = let rest = there ts n live in omega (arith, rest)

was-there : (ts : List Table) (n : ℕ) → is_live_at ts n ≡ true → n ≤ length ts
was-there ts zero live = cc
was-there ts (suc n) live = let lt = there ts n live in omega (arith, lt)

old-or-new : (ts : List Table) (t : Table) (n : ℕ) → is_live_at (ts ++ t ∷ []) n ≡ true → (is_live_at ts n ≡ true) ⊎ (length ts + 1 ≡ n)
old-or-new ts t zero live = cc
old-or-new ts t (suc n) live = by ts n live
  where
    by : (xs : List Table) (m : ℕ) → live_in (slice_get (xs ++ t ∷ []) m) ≡ true → (live_in (slice_get xs m) ≡ true) ⊎ (length xs + 1 ≡ suc m)
    by [] zero e = inr refl
    by [] (suc m) e = cc
    by (x ∷ xs) zero e = inl e
    by (x ∷ xs) (suc m) e = so (by xs m e)
      where
        so : (live_in (slice_get xs m) ≡ true) ⊎ (length xs + 1 ≡ suc m) → (live_in (slice_get xs m) ≡ true) ⊎ (suc (length xs) + 1 ≡ suc (suc m))
        so (inl e) = inl e
        so (inr e) = inr (omega (arith, e))

named-more : (ts : List Table) (t : Table) (numbers : List ℕ) (at : ℕ) → t.is_live ≡ true → at ≤ length numbers → IsNamePoint ts t.info.shape.name numbers at
    → IsNamed ts numbers → IsNamed (ts ++ t ∷ []) (insert numbers at (length ts + 1))
named-more ts t numbers at lives le point h = record {
  live = all-insert (λ n. IsTrue (is_live_at (ts ++ t ∷ []) n)) numbers at (length ts + 1) (ap live_in (newest ts t) ∙ lives) (kept numbers h.live);
  all = λ n live. either n (old-or-new ts t n live);
  rise = insert-rise (ts ++ t ∷ []) numbers at (length ts + 1) (rises numbers h.live h.rise) le
      (subst (λ (name : List ℕ). IsNamePoint (ts ++ t ∷ []) name numbers at) (sym (ap name_in (newest ts t))) (
        λ k d low up. ap (λ (name : List ℕ). is_below name t.info.shape.name) (same (get_or numbers k d) (get-live ts numbers k d h.live (omega (arith, le, up)))) ∙ point.0 k d low up,
        λ k d low up. ap (λ (name : List ℕ). is_below name t.info.shape.name) (same (get_or numbers k d) (get-live ts numbers k d h.live up)) ∙ point.1 k d low up,
      ));
}
  where
    same : (n : ℕ) → is_live_at ts n ≡ true → name_at (ts ++ t ∷ []) n ≡ name_at ts n
    same n live = ap name_in (older ts t n (was-there ts n live))

    kept : (xs : List ℕ) → AllByRecursion (λ n. IsTrue (is_live_at ts n)) xs → AllByRecursion (λ n. IsTrue (is_live_at (ts ++ t ∷ []) n)) xs
    kept [] k = tt
    kept (x ∷ xs) k = (ap live_in (older ts t x (was-there ts x k.0)) ∙ k.0, kept xs k.1)

    first : (x : ℕ) (xs : List ℕ) → is_live_at ts x ≡ true → AllByRecursion (λ n. IsTrue (is_live_at ts n)) xs
        → AllByRecursion (λ other. IsFalse (is_above (name_at ts x) (name_at ts other))) xs
        → AllByRecursion (λ other. IsFalse (is_above (name_at (ts ++ t ∷ []) x) (name_at (ts ++ t ∷ []) other))) xs
    first x [] live k l = tt
    first x (y ∷ xs) live k l = ((λ i. is_above (same x live i) (same y k.0 i)) ∙ l.0, first x xs live k.1 l.1)

    rises : (xs : List ℕ) → AllByRecursion (λ n. IsTrue (is_live_at ts n)) xs → NamesRise ts xs → NamesRise (ts ++ t ∷ []) xs
    rises [] k l = tt
    rises (x ∷ xs) k l = (first x xs k.0 k.1 l.0, rises xs k.1 l.1)

    either : (n : ℕ) → (is_live_at ts n ≡ true) ⊎ (length ts + 1 ≡ n) → is_among n (insert numbers at (length ts + 1)) ≡ true
    either n (inl live) = insert-keeps numbers at (length ts + 1) n (h.all n live)
    either n (inr is) = insert-new numbers at (length ts + 1) n is

-- ---- a table dropped

filter-among : (k n : ℕ) (xs : List ℕ) → (n ≡ k → ⊥) → is_among n xs ≡ true → is_among n (filter (other_than k) xs) ≡ true
filter-among k n [] apart h = cc
filter-among k n (x ∷ xs) apart h = by (x == k) refl (x == n) refl h (λ e. filter-among k n xs apart e)
  where
    by : (b : Bool) → (x == k) ≡ b → (c : Bool) → (x == n) ≡ c → (c || is_among n xs) ≡ true → (is_among n xs ≡ true → is_among n (filter (other_than k) xs) ≡ true)
        → is_among n (if (not b) then x ∷ filter (other_than k) xs else filter (other_than k) xs) ≡ true
    by true here true is e rest = absurd (apart (sym (eqb-true x n is) ∙ eqb-true x k here))
    by true here false is e rest = rest e
    by false here true is e rest = ap (λ d. d || is_among n (filter (other_than k) xs)) is
    by false here false is e rest = or-more (x == n) (is_among n (filter (other_than k) xs)) (rest e)

filter-all : (P : ℕ → Type 0) (k : ℕ) (xs : List ℕ) → AllByRecursion P xs → AllByRecursion P (filter (other_than k) xs)
filter-all P k [] h = tt
filter-all P k (x ∷ xs) h = by (x == k) (filter-all P k xs h.1)
  where
    by : (b : Bool) → AllByRecursion P (filter (other_than k) xs) → AllByRecursion P (if (not b) then x ∷ filter (other_than k) xs else filter (other_than k) xs)
    by true rest = rest
    by false rest = (h.0, rest)

filter-rise : (tables : List Table) (k : ℕ) (xs : List ℕ) → NamesRise tables xs → NamesRise tables (filter (other_than k) xs)
filter-rise tables k [] h = tt
filter-rise tables k (x ∷ xs) h = by (x == k) (filter-rise tables k xs h.1)
  where
    by : (b : Bool) → NamesRise tables (filter (other_than k) xs) → NamesRise tables (if (not b) then x ∷ filter (other_than k) xs else filter (other_than k) xs)
    by true rest = rest
    by false rest = (filter-all (λ other. IsFalse (is_above (name_at tables x) (name_at tables other))) k xs h.0, rest)

not-the : (k : ℕ) (xs : List ℕ) → AllByRecursion (λ n. n ≡ k → ⊥) (filter (other_than k) xs)
not-the k [] = tt
not-the k (x ∷ xs) = by (x == k) refl (not-the k xs)
  where
    by : (b : Bool) → (x == k) ≡ b → AllByRecursion (λ n. n ≡ k → ⊥) (filter (other_than k) xs)
        → AllByRecursion (λ n. n ≡ k → ⊥) (if (not b) then x ∷ filter (other_than k) xs else filter (other_than k) xs)
    by true is rest = rest
    by false is rest = (λ e. let both : true ≡ false = sym (eq-eqb x k e) ∙ is in cc, rest)

named-dropped : (ts : List Table) (k : ℕ) (numbers : List ℕ) → IsNamed ts numbers → IsNamed (changed dropped ts k) (filter (other_than k) numbers)
named-dropped ts k numbers h = record {
  live = lives (filter (other_than k) numbers) (not-the k numbers) (filter-all (λ n. IsTrue (is_live_at ts n)) k numbers h.live);
  all = λ n live. by n (same_or_not n k) live;
  rise = names (filter (other_than k) numbers) (filter-rise ts k numbers h.rise);
}
  where
    lives : (xs : List ℕ) → AllByRecursion (λ n. n ≡ k → ⊥) xs → AllByRecursion (λ n. IsTrue (is_live_at ts n)) xs → AllByRecursion (λ n. IsTrue (is_live_at (changed dropped ts k) n)) xs
    lives [] apart l = tt
    lives (x ∷ xs) apart l = (ap live_in (numbered-other dropped ts k x apart.0) ∙ l.0, lives xs apart.1 l.1)

    gone : (o : Option Table) → live_in (option_map dropped o) ≡ false
    gone None = refl
    gone (Some t) = refl

    by : (n : ℕ) → (n ≡ k) ⊎ (n ≡ k → ⊥) → is_live_at (changed dropped ts k) n ≡ true → is_among n (filter (other_than k) numbers) ≡ true
    by n (inl e) live =
        let none : is_live_at (changed dropped ts k) n ≡ false =
        ap (λ m. is_live_at (changed dropped ts m) n) (sym e) ∙ ap live_in (numbered-here dropped ts n) ∙ gone (numbered ts n) in
        let both : true ≡ false = sym live ∙ none in
        cc
    by n (inr apart) live = filter-among k n numbers apart (h.all n (ap live_in (sym (numbered-other dropped ts k n apart)) ∙ live))

    same : (n : ℕ) → name_at (changed dropped ts k) n ≡ name_at ts n
    same n = kept-changed name_in dropped (λ t. refl) ts k n

    first : (x : ℕ) (xs : List ℕ) → AllByRecursion (λ other. IsFalse (is_above (name_at ts x) (name_at ts other))) xs
        → AllByRecursion (λ other. IsFalse (is_above (name_at (changed dropped ts k) x) (name_at (changed dropped ts k) other))) xs
    first x [] l = tt
    first x (y ∷ xs) l = ((λ i. is_above (same x i) (same y i)) ∙ l.0, first x xs l.1)

    names : (xs : List ℕ) → NamesRise ts xs → NamesRise (changed dropped ts k) xs
    names [] l = tt
    names (x ∷ xs) l = (first x xs l.0, names xs l.1)

-- ---- one entry

changed-same : (ts : List Table) (f : Table → Table) (k : ℕ) (numbers : List ℕ) → ((t : Table) → (f t).is_live ≡ t.is_live) → ((t : Table) → (f t).info.shape.name ≡ t.info.shape.name)
    → IsNamed ts numbers → IsNamed (changed f ts k) numbers
changed-same ts f k numbers live name h =
    named-same ts (changed f ts k) numbers (λ n. kept-changed live_in f live ts k n) (λ n. kept-changed name_in f name ts k n) h

pub names-next : (state : State) (event : Entry) (numbers : List ℕ) (at next : ℕ) → IsNamed state.tables numbers → at ≤ length numbers → next ≡ length state.tables + 1
    → IsNamePlace state numbers event at → IsNamed (after state event).tables (names_behind at next event numbers)
unfolding acted
names-next state (entry.Create txn table) numbers at next h le is place =
    subst (λ n. IsNamed (state.tables ++ made_by table.0 (numbered state.transactions txn.0) ∷ []) (insert numbers at n)) (sym is)
    (named-more state.tables (made_by table.0 (numbered state.transactions txn.0)) numbers at refl le place h)
names-next state (entry.Drop txn table) numbers at next h le is place = named-dropped state.tables table.0 numbers h
names-next state (entry.Given txn table write) numbers at next h le is place = changed-same state.tables (owned txn.0) table.0 numbers (λ t. refl) (λ t. refl) h
names-next state (entry.Commit txn wrote) numbers at next h le is place =
    named-same state.tables (tables_behind (commits (numbered state.transactions txn.0)) state.tables) numbers
    (λ n. behind-keeps live_in (λ w t. refl) (commits (numbered state.transactions txn.0)) state.tables n)
    (λ n. behind-keeps name_in (λ w t. refl) (commits (numbered state.transactions txn.0)) state.tables n) h
names-next state (entry.Forgot table write) numbers at next h le is place = changed-same state.tables (forgot write.0) table.0 numbers (λ t. refl) (λ t. refl) h
names-next state (entry.Boot run) numbers at next h le is place = h
names-next state (entry.Opened txn session number text) numbers at next h le is place = h
names-next state (entry.Start txn statement) numbers at next h le is place = h
names-next state (entry.Abort txn cause) numbers at next h le is place = h
names-next state (entry.Asked job table partition kind by) numbers at next h le is place = h
names-next state (entry.Picked job watermark) numbers at next h le is place = h
names-next state (entry.Published job low high mark) numbers at next h le is place = h
names-next state (entry.Empty job) numbers at next h le is place = h
names-next state (entry.Cleaned job) numbers at next h le is place = h
names-next state (entry.Next txn statement number text) numbers at next h le is place = h
names-next state (entry.Did txn statement wrote) numbers at next h le is place = h
names-next state (entry.Alter txn table) numbers at next h le is place = h
names-next state (entry.Failed job cause) numbers at next h le is place = h

pub names-none : IsNamed [] []
names-none = record { live = tt; all = λ n. none n; rise = tt }
  where
    none : (n : ℕ) → is_live_at [] n ≡ true → is_among n [] ≡ true
    none zero live = cc
    none (suc n) live = cc
