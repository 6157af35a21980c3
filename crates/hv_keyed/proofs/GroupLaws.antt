-- One row more: what grouping does with it.
use Rattle.std.proofs.Common.{◌≡◌, ℕ, suc, ◌+◌, ◌<◌, Bool, true, false, not, cond, ◌||◌, List, [], ◌∷◌, ◌++◌, length, get_or, set, map, refl, sym, ap, ◌∙◌, subst, true≢false, arith, if◌then◌else◌, eqb, eqb-true}
use Rattle.std.specs.List.{list_any, fold, position_or_len}
use Rattle.std.specs.Cmp.{IsEquivalence}
use Rattle.std.proofs.lemmas.List.{map-append, length-map}
use Rattle.std.proofs.lemmas.List.Elements.{filter-append}
use Rattle.std.proofs.lemmas.List.Sums.{fold-append}
use Rattle.std.proofs.lemmas.List.Folds.{list_any-append, position_or_len_push}
use Rattle.hv_typing.specs.Grouped.{keep_new, distinct, members, keys_in}
use Rattle.hv_keyed.specs.Folds.{with_new, folded, folds}

pub or_false : (a : Bool) → (a || false) ≡ a
or_false true = refl
or_false false = refl

or_assoc : (a b c : Bool) → ((a || b) || c) ≡ (a || (b || c))
or_assoc true b c = refl
or_assoc false b c = refl

pub neither_left : (a b : Bool) → (a || b) ≡ false → a ≡ false
neither_left true b h = absurd (true≢false h)
neither_left false b h = refl

pub neither_right : (a b : Bool) → (a || b) ≡ false → b ≡ false
neither_right true b h = absurd (true≢false h)
neither_right false b h = h

module _ {K : Type 0} {same : K → K → Bool} (laws : IsEquivalence same) where
  -- a key is found where one that is the same is
  pub found_alike : (k x : K) (ks : List K) → same k x ≡ true → list_any (same k) ks ≡ list_any (same x) ks
  found_alike k x [] e = refl
  found_alike k x (j ∷ ks) e = λ i. laws.congr k x j e i || found_alike k x ks e i

  pub any_keep : (k x : K) (ks : List K) → list_any (same k) (keep_new same ks x) ≡ (list_any (same k) ks || same k x)
  any_keep k x ks = by (list_any (same x) ks) refl
    where
      settled : (c : Bool) → same k x ≡ c → list_any (same x) ks ≡ true → list_any (same k) ks ≡ (list_any (same k) ks || c)
      settled true e h = found_alike k x ks e ∙ h ∙ sym (ap (λ b. b || true) (found_alike k x ks e ∙ h))
      settled false e h = sym (or_false (list_any (same k) ks))

      by : (b : Bool) → list_any (same x) ks ≡ b → list_any (same k) (if b then ks else ks ++ x ∷ []) ≡ (list_any (same k) ks || same k x)
      by true h = settled (same k x) refl h ∙ refl
      by false h = list_any-append (same k) ks (x ∷ []) ∙ ap (λ b. list_any (same k) ks || b) (or_false (same k x))

  -- a key is among those kept exactly where it is among all
  pub any_kept : (k : K) (ks xs : List K) → list_any (same k) (fold (keep_new same) ks xs) ≡ (list_any (same k) ks || list_any (same k) xs)
  any_kept k ks [] = sym (or_false (list_any (same k) ks))
  any_kept k ks (x ∷ xs) =
      any_kept k (keep_new same ks x) xs ∙ ap (λ b. b || list_any (same k) xs) (any_keep k x ks)
      ∙ or_assoc (list_any (same k) ks) (same k x) (list_any (same k) xs)

  -- no key comes twice
  pub Apart : List K → Type 0
  Apart [] = Unit {0}
  Apart (k ∷ ks) = (list_any (same k) ks ≡ false) × Apart ks

  apart_push : (ks : List K) (x : K) → list_any (same x) ks ≡ false → Apart ks → Apart (ks ++ x ∷ [])
  unfolding Apart
  apart_push [] x h apart = (refl, tt)
  apart_push (k ∷ ks) x h apart = (
    list_any-append (same k) ks (x ∷ []) ∙ (λ i. apart.0 i || ((laws.symm k x ∙ neither_left (same x k) (list_any (same x) ks) h) i || false)),
    apart_push ks x (neither_right (same x k) (list_any (same x) ks) h) apart.1,
  )

  apart_keep : (ks : List K) (x : K) → Apart ks → Apart (keep_new same ks x)
  apart_keep ks x apart = by (list_any (same x) ks) refl
    where
      by : (b : Bool) → list_any (same x) ks ≡ b → Apart (if b then ks else ks ++ x ∷ [])
      by true h = apart
      by false h = apart_push ks x h apart

  pub apart_kept : (ks xs : List K) → Apart ks → Apart (fold (keep_new same) ks xs)
  apart_kept ks [] apart = apart
  apart_kept ks (x ∷ xs) apart = apart_kept (keep_new same ks x) xs (apart_keep ks x apart)

  pub apart_distinct : (xs : List K) → Apart (distinct same xs)
  unfolding Apart
  apart_distinct xs = apart_kept [] xs tt

  -- a key isn't among those in front of it
  pub apart_front : (front : List K) (k : K) (rest : List K) → Apart (front ++ k ∷ rest) → list_any (same k) front ≡ false
  unfolding Apart
  apart_front [] k rest apart = refl
  apart_front (j ∷ front) k rest apart =
      let later : list_any (same j) (k ∷ rest) ≡ false =
      neither_right (list_any (same j) front) (list_any (same j) (k ∷ rest)) (sym (list_any-append (same j) front (k ∷ rest)) ∙ apart.0) in
      let here : same k j ≡ false = laws.symm k j ∙ neither_left (same j k) (list_any (same j) rest) later in
      let others : list_any (same k) front ≡ false = apart_front front k rest apart.1 in
      λ i. here i || others i

  -- a change at the place of one key
  module _ {A : Type 0} (f g : K → A) (change : A → A) (q : K)
      (others : (k : K) → same q k ≡ false → f k ≡ g k) (own : (k : K) → same q k ≡ true → change (f k) ≡ g k) where
    pub others_all : (ks : List K) → list_any (same q) ks ≡ false → map f ks ≡ map g ks
    others_all [] h = refl
    others_all (k ∷ ks) h = λ i. others k (neither_left (same q k) (list_any (same q) ks) h) i ∷ others_all ks (neither_right (same q k) (list_any (same q) ks) h) i

    pub changed : (ks : List K) → Apart ks → (i : ℕ) (y : A) → i ≡ position_or_len (same q) ks → i < length ks → y ≡ get_or (map f ks) i y
        → set (map f ks) i (change y) ≡ map g ks
    unfolding Apart
    changed [] apart i y at within is = absurd (omega arith)
    changed (k ∷ ks) apart i y at within is = by (same q k) refl (λ j e at' is'. changed ks apart.1 j y at' (omega (arith, e, within)) is')
      where
        by : (b : Bool) → same q k ≡ b
            → ((j : ℕ) → suc j ≡ i → j ≡ position_or_len (same q) ks → y ≡ get_or (map f ks) j y → set (map f ks) j (change y) ≡ map g ks)
            → set (map f (k ∷ ks)) i (change y) ≡ map g (k ∷ ks)
        by true h rest =
            let z : i ≡ 0 = at ∙ ap (λ b. cond (not b) (1 + position_or_len (same q) ks) 0) h in
            let first : y ≡ f k = is ∙ ap (λ n. get_or (map f (k ∷ ks)) n y) z in
            let others_same = others_all ks (found_alike q k ks h ∙ apart.0) in
            ap (λ n. set (map f (k ∷ ks)) n (change y)) z ∙ (λ l. (ap change first ∙ own k h) l ∷ others_same l)
        by false h rest =
            let j = position_or_len (same q) ks in
            let z : i ≡ suc j = at ∙ ap (λ b. cond (not b) (1 + position_or_len (same q) ks) 0) h ∙ omega arith in
            let later = rest j (sym z) refl (is ∙ ap (λ n. get_or (map f (k ∷ ks)) n y) z) in
            ap (λ n. set (map f (k ∷ ks)) n (change y)) z ∙ (λ l. others k h l ∷ later l)

  module _ {R : Type 0} (key : R → K) where
    -- a key that no row has has no rows
    none : (rows : List R) (k : K) → list_any (same k) (map key rows) ≡ false → members same key rows k ≡ []
    none [] k h = refl
    none (row ∷ rows) k h =
        ap (λ b. cond b (row ∷ members same key rows k) (members same key rows k)) (neither_left (same k (key row)) (list_any (same k) (map key rows)) h)
        ∙ none rows k (neither_right (same k (key row)) (list_any (same k) (map key rows)) h)

    pub no_members : (rows : List R) (k : K) → list_any (same k) (keys_in same key rows) ≡ false → members same key rows k ≡ []
    no_members rows k h = none rows k (sym (any_kept k [] (map key rows)) ∙ h)

    pub keys_more : (rows : List R) (row : R) → keys_in same key (rows ++ row ∷ []) ≡ keep_new same (keys_in same key rows) (key row)
    keys_more rows row = ap (fold (keep_new same) []) (map-append key rows (row ∷ [])) ∙ fold-append (keep_new same) [] (map key rows) (key row ∷ [])

    module _ {A : Type 0} (start : A) (step : A → R → A) where
      folded_more : (rows : List R) (row : R) (k : K) (b : Bool) → same k (key row) ≡ b
          → folded same key start step (rows ++ row ∷ []) k ≡ cond b (step (folded same key start step rows k) row) (folded same key start step rows k)
      folded_more rows row k b h =
          ap (fold step start) (filter-append (λ r. same k (key r)) rows (row ∷ []) ∙ ap (λ c. members same key rows k ++ cond c (row ∷ []) []) h)
          ∙ by b
        where
          by : (c : Bool) → fold step start (members same key rows k ++ cond c (row ∷ []) []) ≡ cond c (step (folded same key start step rows k) row) (folded same key start step rows k)
          by true = fold-append step start (members same key rows k) (row ∷ [])
          by false = fold-append step start (members same key rows k) []

      -- a new key is kept with what no row gives
      pub begun : (rows : List R) (k : K) → list_any (same k) (keys_in same key rows) ≡ false
          → map (folded same key start step rows) (keys_in same key rows ++ k ∷ []) ≡ map (folded same key start step rows) (keys_in same key rows) ++ start ∷ []
      begun rows k h =
          map-append (folded same key start step rows) (keys_in same key rows) (k ∷ [])
          ∙ ap (λ a. map (folded same key start step rows) (keys_in same key rows) ++ a ∷ []) (ap (fold step start) (no_members rows k h))

      -- one row more changes what is kept of its own key
      pub folds_more : (rows : List R) (row : R) (i : ℕ) (y : A)
          → i ≡ position_or_len (same (key row)) (keep_new same (keys_in same key rows) (key row))
          → i < length (keep_new same (keys_in same key rows) (key row))
          → y ≡ get_or (map (folded same key start step rows) (keep_new same (keys_in same key rows) (key row))) i y
          → set (map (folded same key start step rows) (keep_new same (keys_in same key rows) (key row))) i (step y row)
          ≡ folds same key start step (rows ++ row ∷ [])
      folds_more rows row i y at within is =
          changed (folded same key start step rows) (folded same key start step (rows ++ row ∷ [])) (λ a. step a row) (key row)
          (λ k h. sym (folded_more rows row k false (laws.symm k (key row) ∙ h)))
          (λ k h. sym (folded_more rows row k true (laws.symm k (key row) ∙ h)))
          (keep_new same (keys_in same key rows) (key row)) (apart_keep (keys_in same key rows) (key row) (apart_distinct (map key rows))) i y at within is
          ∙ ap (map (folded same key start step (rows ++ row ∷ []))) (sym (keys_more rows row))

      -- where a key stands doesn't change as it is kept
      stands : (ks : List K) (k : K) → position_or_len (same k) (keep_new same ks k) ≡ position_or_len (same k) ks
      stands ks k = by (list_any (same k) ks)
        where
          count : (b : Bool) (n : ℕ) → b ≡ true → n + cond b 0 1 ≡ n
          count true n e = omega arith
          count false n e = absurd (true≢false (sym e))

          choice : (b : Bool) (n m : ℕ) → eqb n m ≡ b → cond b (m + cond (same k k) 0 1) n ≡ n
          choice true n m e = count (same k k) m (laws.refl k) ∙ sym (eqb-true n m e)
          choice false n m e = refl

          by : (b : Bool) → position_or_len (same k) (if b then ks else ks ++ k ∷ []) ≡ position_or_len (same k) ks
          by true = refl
          by false = position_or_len_push (same k) ks k ∙ choice (eqb (position_or_len (same k) ks) (length ks)) (position_or_len (same k) ks) (length ks) refl

      module _ (rows rows2 : List R) (row : R) (keys keys2 : List K) (kept kept2 : List A)
          (more : rows2 ≡ rows ++ row ∷ []) (keys_are : keys ≡ keys_in same key rows) (kept_are : kept ≡ folds same key start step rows)
          (keys2_are : keys2 ≡ keep_new same keys (key row))
          (kept2_are : kept2 ≡ with_new start (not (list_any (same (key row)) keys)) kept) where
        known : keys2 ≡ keep_new same (keys_in same key rows) (key row)
        known = keys2_are ∙ ap (λ ks. keep_new same ks (key row)) keys_are

        pub keys_turn : keys2 ≡ keys_in same key rows2
        keys_turn = known ∙ sym (keys_more rows row) ∙ ap (keys_in same key) (sym more)

        kept_known : kept2 ≡ map (folded same key start step rows) keys2
        kept_known = kept2_are ∙ ap (with_new start (not (list_any (same (key row)) keys))) kept_are
            ∙ ap (λ ks. with_new start (not (list_any (same (key row)) ks)) (folds same key start step rows)) keys_are
            ∙ by (list_any (same (key row)) (keys_in same key rows)) refl ∙ ap (map (folded same key start step rows)) (sym known)
          where
            by : (b : Bool) → list_any (same (key row)) (keys_in same key rows) ≡ b
                → with_new start (not b) (folds same key start step rows) ≡ map (folded same key start step rows) (if b then keys_in same key rows else keys_in same key rows ++ key row ∷ [])
            by true h = refl
            by false h = sym (begun rows (key row) h)

        pub kept_fits : length kept2 ≡ length keys2
        kept_fits = ap length kept_known ∙ length-map keys2 (folded same key start step rows)

        pub kept_turn : (i : ℕ) (y z : A) → i ≡ position_or_len (same (key row)) keys → i < length keys2 → y ≡ get_or kept2 i y → z ≡ step y row
            → set kept2 i z ≡ folds same key start step rows2
        kept_turn i y z at within is stepped =
            (λ l. set ((kept_known ∙ ap (map (folded same key start step rows)) known) l) i (stepped l))
            ∙ folds_more rows row i y
            (at ∙ ap (position_or_len (same (key row))) keys_are ∙ sym (stands (keys_in same key rows) (key row)))
            (subst (λ ks. i < length ks) known within)
            (is ∙ ap (λ ks. get_or ks i y) (kept_known ∙ ap (map (folded same key start step rows)) known))
            ∙ ap (folds same key start step) (sym more)
