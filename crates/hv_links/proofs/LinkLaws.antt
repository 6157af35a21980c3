-- The links of a list with an item or a group more, and what is read from them.
use Rattle.std.proofs.Common.{◌≡◌, ℕ, zero, suc, ◌+◌, ◌<◌, ◌≤◌, Bool, true, false, Option, Some, None, List, [], ◌∷◌, ◌++◌, length, map, take, drop, set, refl, sym, ap, ◌∙◌, subst, arith}
use Rattle.std.specs.Prelude.{◌==◌}
use Rattle.std.specs.List.{slice_get, AllByRecursion}
use Rattle.std.specs.Option.{option_map}
use Rattle.std.proofs.lemmas.Bool.{eq-eqb, eqb-true, ne_eqb}
use Rattle.std.proofs.lemmas.List.{append_assoc, append-nil, map-append}
use Rattle.std.proofs.lemmas.Option.{slice_get-map}
use Rattle.hv_links.specs.declared.links.Link.{Link}
use Rattle.hv_links.specs.Links.{later, last_of, last_before, before_of, group_of, AreChained, AreLasts, IsThere, AreLinked}

-- ---- the last one of a group

later-most : (b : Bool) (n m : ℕ) → n ≤ m → later b n ≤ suc m
later-most b (suc n) m le = omega (arith, le)
later-most true zero m le = omega arith
later-most false zero m le = omega arith

pub last-most : (group : ℕ) (groups : List ℕ) → last_of group groups ≤ length groups
last-most group [] = omega arith
last-most group (x ∷ groups) = later-most (x == group) (last_of group groups) (length groups) (last-most group groups)

pub last-more : (group : ℕ) (groups : List ℕ) (x : ℕ) → x ≡ group → last_of group (groups ++ x ∷ []) ≡ suc (length groups)
last-more group [] x is = ap (λ b. later b 0) (eq-eqb x group is)
last-more group (y ∷ groups) x is = ap (later (y == group)) (last-more group groups x is)

pub last-other : (group : ℕ) (groups : List ℕ) (x : ℕ) → (x ≡ group → ⊥) → last_of group (groups ++ x ∷ []) ≡ last_of group groups
last-other group [] x other = ap (λ b. later b 0) (ne_eqb x group other)
last-other group (y ∷ groups) x other = ap (later (y == group)) (last-other group groups x other)

-- behind it are none of the group
pub none-behind : (group : ℕ) (groups : List ℕ) → AllByRecursion (λ other. other ≡ group → ⊥) (drop (last_of group groups) groups)
none-behind group [] = tt
none-behind group (x ∷ groups) = by (x == group) refl (last_of group groups) (none-behind group groups)
  where
    by : (b : Bool) → (x == group) ≡ b → (n : ℕ) → AllByRecursion (λ other. other ≡ group → ⊥) (drop n groups)
        → AllByRecursion (λ other. other ≡ group → ⊥) (drop (later b n) (x ∷ groups))
    by b is (suc n) h = h
    by true is zero h = h
    by false is zero h = (λ e. let both : true ≡ false = sym (eq-eqb x group e) ∙ is in cc, h)

-- it is one of the group
pub last-is : (group : ℕ) (groups : List ℕ) (at : ℕ) → last_of group groups ≡ suc at → slice_get groups at ≡ Some group
last-is group [] at is = cc
last-is group (x ∷ groups) at is = by (λ k. last-is group groups k) (x == group) refl (last_of group groups) refl at is
  where
    by : ((k : ℕ) → last_of group groups ≡ suc k → slice_get groups k ≡ Some group)
        → (b : Bool) → (x == group) ≡ b → (n : ℕ) → last_of group groups ≡ n → (at : ℕ) → later b n ≡ suc at → slice_get (x ∷ groups) at ≡ Some group
    by rest b here (suc n) last zero e = absurd (omega (arith, e))
    by rest b here (suc n) last (suc at) e = let same : n ≡ at = omega (arith, e) in rest at (last ∙ ap suc same)
    by rest true here zero last zero e = ap Some (eqb-true x group here)
    by rest true here zero last (suc at) e = absurd (omega (arith, e))
    by rest false here zero last at e = absurd (omega (arith, e))

last-absent : (group count : ℕ) (links : List Link) → (group ≡ 0 → ⊥) → count < group → AllByRecursion (IsThere count) links → last_of group (map group_of links) ≡ 0
last-absent group count [] some above h = refl
last-absent group count (link ∷ links) some above h =
    let le : link.group ≤ count = h.0.1 in
    ap (λ b. later b (last_of group (map group_of links))) (ne_eqb link.group group (λ e. absurd (omega (arith, e, above, le))))
    ∙ ap (later false) (last-absent group count links some above h.1)

last-zero : (count : ℕ) (links : List Link) → AllByRecursion (IsThere count) links → last_of 0 (map group_of links) ≡ 0
last-zero count [] h = refl
last-zero count (link ∷ links) h =
    let some : 0 < link.group = h.0.0 in
    ap (λ b. later b (last_of 0 (map group_of links))) (ne_eqb link.group 0 (λ e. absurd (omega (arith, e, some))))
    ∙ ap (later false) (last-zero count links h.1)

-- ---- what is kept of it

lasts-get : (first : ℕ) (groups lasts : List ℕ) (at n : ℕ) → AreLasts first groups lasts → slice_get lasts at ≡ Some n → n ≡ last_of (first + at) groups
lasts-get first groups [] at n h is = cc
lasts-get first groups (last ∷ lasts) zero n h is =
    let same : last ≡ n = cc in
    let at : first ≡ first + 0 = omega arith in
    sym same ∙ h.0 ∙ ap (λ k. last_of k groups) at
lasts-get first groups (last ∷ lasts) (suc at) n h is =
    let same : first + 1 + at ≡ first + suc at = omega arith in
    lasts-get (first + 1) groups lasts at n h.1 is ∙ ap (λ k. last_of k groups) same

lasts-same : (first : ℕ) (groups lasts : List ℕ) (x : ℕ) → x < first → AreLasts first groups lasts → AreLasts first (groups ++ x ∷ []) lasts
lasts-same first groups [] x below h = tt
lasts-same first groups (last ∷ lasts) x below h =
    (h.0 ∙ sym (last-other first groups x (λ e. absurd (omega (arith, e, below)))), lasts-same (first + 1) groups lasts x (omega (arith, below)) h.1)

lasts-set : (first : ℕ) (groups lasts : List ℕ) (at n : ℕ) → n ≡ suc (length groups) → AreLasts first groups lasts
    → AreLasts first (groups ++ (first + at) ∷ []) (set lasts at n)
lasts-set first groups [] at n is h = tt
lasts-set first groups (last ∷ lasts) zero n is h =
    (is ∙ sym (last-more first groups (first + 0) (omega arith)), lasts-same (first + 1) groups lasts (first + 0) (omega arith) h.1)
lasts-set first groups (last ∷ lasts) (suc at) n is h = (
  h.0 ∙ sym (last-other first groups (first + suc at) (λ e. absurd (omega (arith, e)))),
  (let same : first + 1 + at ≡ first + suc at = omega arith in
      subst (λ x. AreLasts (first + 1) (groups ++ x ∷ []) (set lasts at n)) same (lasts-set (first + 1) groups lasts at n is h.1)),
)

lasts-push : (first : ℕ) (groups lasts : List ℕ) → last_of (first + length lasts) groups ≡ 0 → AreLasts first groups lasts → AreLasts first groups (lasts ++ 0 ∷ [])
lasts-push first groups [] none h = (let at : first ≡ first + 0 = omega arith in sym none ∙ ap (λ k. last_of k groups) (sym at), tt)
lasts-push first groups (last ∷ lasts) none h =
    let at : first + 1 + length lasts ≡ first + suc (length lasts) = omega arith in
    (h.0, lasts-push (first + 1) groups lasts (ap (λ k. last_of k groups) at ∙ none) h.1)

chained-more : (front : List ℕ) (links : List Link) (link : Link) → AreChained front links → link.before ≡ last_of link.group (front ++ map group_of links)
    → AreChained front (links ++ link ∷ [])
chained-more front [] link h is = (is ∙ ap (last_of link.group) (append-nil front), tt)
chained-more front (x ∷ links) link h is =
    (h.0, chained-more (front ++ x.group ∷ []) links link h.1 (is ∙ ap (last_of link.group) (sym (append_assoc front (x.group ∷ []) (map group_of links)))))

chained-get : (front : List ℕ) (links : List Link) (at : ℕ) (link : Link) → AreChained front links → slice_get links at ≡ Some link
    → link.before ≡ last_of link.group (front ++ take at (map group_of links))
chained-get front [] at link h is = cc
chained-get front (x ∷ links) zero link h is =
    let same : x ≡ link = cc in
    subst (λ (l : Link). l.before ≡ last_of l.group (front ++ [])) same (h.0 ∙ ap (last_of x.group) (sym (append-nil front)))
chained-get front (x ∷ links) (suc at) link h is =
    chained-get (front ++ x.group ∷ []) links at link h.1 is
    ∙ ap (last_of link.group) (append_assoc front (x.group ∷ []) (take at (map group_of links)))

there-more : (count more : ℕ) (links : List Link) → count ≤ more → AllByRecursion (IsThere count) links → AllByRecursion (IsThere more) links
there-more count more [] le h = tt
there-more count more (link ∷ links) le h =
    let below : link.group ≤ count = h.0.1 in
    ((h.0.0, omega (arith, le, below)), there-more count more links le h.1)

there-snoc : (count : ℕ) (links : List Link) (link : Link) → AllByRecursion (IsThere count) links → IsThere count link → AllByRecursion (IsThere count) (links ++ link ∷ [])
there-snoc count [] link h is = (is, tt)
there-snoc count (x ∷ links) link h is = (h.0, there-snoc count links link h.1 is)

length-snoc : (xs : List ℕ) (x : ℕ) → length (xs ++ x ∷ []) ≡ length xs + 1
length-snoc [] x = omega arith
length-snoc (y ∷ xs) x = omega (arith, length-snoc xs x)

length-set : (xs : List ℕ) (at n : ℕ) → length (set xs at n) ≡ length xs
length-set [] at n = refl
length-set (x ∷ xs) zero n = refl
length-set (x ∷ xs) (suc at) n = ap suc (length-set xs at n)

pub group-added : (links : List Link) (lasts : List ℕ) → AreLinked links lasts → AreLinked links (lasts ++ 0 ∷ [])
group-added links lasts h =
    let long : length lasts + 1 ≡ length (lasts ++ 0 ∷ []) = sym (length-snoc lasts 0) in
    record {
      chained = h.chained;
      last = lasts-push 1 (map group_of links) lasts (last-absent (1 + length lasts) (length lasts) links (λ e. absurd (omega (arith, e))) (omega arith) h.there) h.last;
      there = subst (λ n. AllByRecursion (IsThere n) links) long (there-more (length lasts) (length lasts + 1) links (omega arith) h.there);
    }

pub item-added : (links : List Link) (lasts : List ℕ) (group at before n : ℕ) → AreLinked links lasts → group ≡ 1 + at → at < length lasts
    → slice_get lasts at ≡ Some before → n ≡ suc (length links)
    → AreLinked (links ++ record { group = group; before = before } ∷ []) (set lasts at n)
item-added links lasts group at before n h is within got new =
    let link : Link = record { group = group; before = before } in
    let kept : length lasts ≡ length (set lasts at n) = sym (length-set lasts at n) in
    let known : before ≡ last_of (1 + at) (map group_of links) = lasts-get 1 (map group_of links) lasts at before h.last got in
    let groups : map group_of links ++ group ∷ [] ≡ map group_of (links ++ link ∷ []) = sym (map-append group_of links (link ∷ [])) in
    let long : n ≡ suc (length (map group_of links)) = new ∙ ap suc (sym (mapped links)) in
    record {
      chained = chained-more [] links link h.chained (known ∙ ap (λ k. last_of k (map group_of links)) (sym is));
      last =
          subst (λ gs. AreLasts 1 gs (set lasts at n)) groups
          (subst (λ g. AreLasts 1 (map group_of links ++ g ∷ []) (set lasts at n)) (sym is) (lasts-set 1 (map group_of links) lasts at n long h.last));
      there =
          subst (λ k. AllByRecursion (IsThere k) (links ++ link ∷ [])) kept
          (there-snoc (length lasts) links link h.there (omega (arith, is), omega (arith, is, within)));
    }
  where
    mapped : (xs : List Link) → length (map group_of xs) ≡ length xs
    mapped [] = refl
    mapped (x ∷ xs) = ap suc (mapped xs)

-- ---- what is read

pub last-zero-read : (links : List Link) (lasts : List ℕ) (group : ℕ) → AreLinked links lasts → group ≡ 0 → 0 ≡ last_of group (map group_of links)
last-zero-read links lasts group h is = sym (last-zero (length lasts) links h.there) ∙ ap (λ k. last_of k (map group_of links)) (sym is)

pub last-read : (links : List Link) (lasts : List ℕ) (group at n : ℕ) → AreLinked links lasts → group ≡ 1 + at → slice_get lasts at ≡ Some n → n ≡ last_of group (map group_of links)
last-read links lasts group at n h is got = lasts-get 1 (map group_of links) lasts at n h.last got ∙ ap (λ k. last_of k (map group_of links)) (sym is)

pub last-missing : (links : List Link) (lasts : List ℕ) (group at : ℕ) → AreLinked links lasts → group ≡ 1 + at → slice_get lasts at ≡ None → 0 ≡ last_of group (map group_of links)
last-missing links lasts group at h is got =
    sym (last-absent group (length lasts) links (λ e. absurd (omega (arith, e, is))) (let out = past lasts at got in omega (arith, is, out)) h.there)
  where
    past : (xs : List ℕ) (at : ℕ) → slice_get xs at ≡ None → length xs ≤ at
    past [] at got = omega arith
    past (x ∷ xs) zero got = cc
    past (x ∷ xs) (suc at) got = let rest = past xs at got in omega (arith, rest)

pub before-read : (links : List Link) (lasts : List ℕ) (number at : ℕ) (link : Link) → AreLinked links lasts → number ≡ suc at → slice_get links at ≡ Some link
    → link.before ≡ before_of number (map group_of links)
before-read links lasts number at link h is got =
    chained-get [] links at link h.chained got
    ∙ ap (λ o. last_before o (take at (map group_of links))) (sym (slice_get-map group_of links at ∙ ap (option_map group_of) got))
    ∙ ap (λ k. before_of k (map group_of links)) (sym is)

pub before-missing : (links : List Link) (number at : ℕ) → number ≡ suc at → slice_get links at ≡ None → 0 ≡ before_of number (map group_of links)
before-missing links number at is got =
    ap (λ o. last_before o (take at (map group_of links))) (sym (slice_get-map group_of links at ∙ ap (option_map group_of) got))
    ∙ ap (λ k. before_of k (map group_of links)) (sym is)

taken : (xs : List ℕ) (at : ℕ) → length (take at xs) ≤ at
taken [] zero = omega arith
taken [] (suc at) = omega arith
taken (x ∷ xs) zero = omega arith
taken (x ∷ xs) (suc at) = omega (arith, taken xs at)

pub before-less : (number : ℕ) (groups : List ℕ) → 0 < number → before_of number groups < number
before-less zero groups some = absurd (omega (arith, some))
before-less (suc at) groups some = by (slice_get groups at)
  where
    by : (o : Option ℕ) → last_before o (take at groups) < suc at
    by None = omega arith
    by (Some group) = omega (arith, last-most group (take at groups), taken groups at)
