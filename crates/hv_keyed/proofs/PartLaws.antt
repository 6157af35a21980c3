-- Groups of two parts, and of parts whose groups are put behind one another.
use Rattle.std.proofs.Common.{◌≡◌, ℕ, ◌+◌, ◌<◌, Bool, true, false, true≢false, not, cond, ◌||◌, List, [], ◌∷◌, ◌++◌, length, length-append, length-set, get_or, map, filter, reverse, Option, None, Some, refl, sym, ap, subst, arith, append_assoc, ◌∙◌, if◌then◌else◌}
use Rattle.std.specs.Prelude.{IsSome}
use Rattle.std.specs.List.{list_any, fold, position_or_len, zip}
use Rattle.std.specs.Option.{option_to_list}
use Rattle.std.specs.Cmp.{IsEquivalence}
use Rattle.std.proofs.lemmas.List.{append-nil, get_or_default, length-map, map-append, reverse-append}
use Rattle.std.proofs.lemmas.List.Elements.{filter-append}
use Rattle.std.proofs.lemmas.List.Folds.{list_any-append}
use Rattle.std.proofs.lemmas.List.Sums.{fold-append}
use Rattle.hv_typing.specs.Grouped.{keep_new, members, keys_in}
use Rattle.hv_keyed.specs.Folds.{folded, folds}
use Rattle.hv_keyed.specs.Parts.{with_value, put_beside, put_group, put_groups, kept_of, group_at, groups_in}
use Rattle.hv_keyed.proofs.GroupLaws.{or_false, neither_left, found_alike, any_kept, Apart, apart_kept, apart_distinct, apart_front, others_all, changed, no_members}

place_within : {K : Type 0} (p : K → Bool) (ks : List K) → list_any p ks ≡ true → position_or_len p ks < length ks
place_within p [] h = absurd (true≢false (sym h))
place_within p (k ∷ ks) h = by (p k) h (place_within p ks)
  where
    by : (b : Bool) → (b || list_any p ks) ≡ true → (list_any p ks ≡ true → position_or_len p ks < length ks)
        → cond (not b) (1 + position_or_len p ks) 0 < length (k ∷ ks)
    by true e later = omega arith
    by false e later = let below : position_or_len p ks < length ks = later e in omega arith

-- a key that isn't new has a place among what is kept
pub known_within : {K A : Type 0} (same : K → K → Bool) (key : K) (keys : List K) (kept : List A) (added : Bool) (number : ℕ) → length kept ≡ length keys
    → added ≡ not (list_any (same key) keys) → number ≡ position_or_len (same key) keys → added ≡ false → number < length kept
known_within same key keys kept added number fits was at old =
    let below : position_or_len (same key) keys < length keys = place_within (same key) keys (there (list_any (same key) keys) (sym was ∙ old)) in
    omega (arith, below, at, fits)
  where
    there : (b : Bool) → not b ≡ false → b ≡ true
    there true none = refl
    there false none = sym none

module _ {K : Type 0} {same : K → K → Bool} (laws : IsEquivalence same) where
  keep : List K → K → List K
  keep = keep_new same

  known : (ks : List K) (k : K) → list_any (same k) ks ≡ true → keep_new same ks k ≡ ks
  known ks k h = ap (λ b. if b then ks else ks ++ k ∷ []) h

  -- a key that is kept already, or will be, changes nothing behind
  again : (ks ls : List K) (k : K) → list_any (same k) ls ≡ true → keep_new same (fold (keep_new same) ks ls) k ≡ fold (keep_new same) ks ls
  again ks ls k h = known (fold (keep_new same) ks ls) k (any_kept laws k ks ls ∙ ap (λ b. list_any (same k) ks || b) h ∙ or_true (list_any (same k) ks))
    where
      or_true : (b : Bool) → (b || true) ≡ true
      or_true true = refl
      or_true false = refl

  one_more : (ks ls : List K) (k : K) → fold (keep_new same) ks (keep_new same ls k) ≡ keep_new same (fold (keep_new same) ks ls) k
  one_more ks ls k = by (list_any (same k) ls) refl
    where
      by : (b : Bool) → list_any (same k) ls ≡ b → fold (keep_new same) ks (if b then ls else ls ++ k ∷ []) ≡ keep_new same (fold (keep_new same) ks ls) k
      by true h = sym (again ks ls k h)
      by false h = fold-append (keep_new same) ks ls (k ∷ [])

  -- to keep what was kept is to keep all
  pub kept_twice : (ks ls xs : List K) → fold (keep_new same) ks (fold (keep_new same) ls xs) ≡ fold (keep_new same) (fold (keep_new same) ks ls) xs
  kept_twice ks ls [] = refl
  kept_twice ks ls (x ∷ xs) = kept_twice ks (keep_new same ls x) xs ∙ ap (λ l. fold (keep_new same) l xs) (one_more ks ls x)

  module _ {R A : Type 0} (key : R → K) (start : A) (step : A → R → A) (merge : A → A → A)
      (splits : (us vs : List R) → merge (fold step start us) (fold step start vs) ≡ fold step start (us ++ vs)) where
    pub keys_of_parts : (xs ys : List R) → keys_in same key (xs ++ ys) ≡ fold (keep_new same) (keys_in same key xs) (keys_in same key ys)
    keys_of_parts xs ys =
        ap (fold (keep_new same) []) (map-append key xs ys) ∙ fold-append (keep_new same) [] (map key xs) (map key ys)
        ∙ sym (kept_twice (keys_in same key xs) [] (map key ys))

    folded_parts : (xs ys : List R) (k : K) → folded same key start step (xs ++ ys) k ≡ merge (folded same key start step xs k) (folded same key start step ys k)
    folded_parts xs ys k =
        ap (fold step start) (filter-append (λ r. same k (key r)) xs ys) ∙ sym (splits (members same key xs k) (members same key ys k))

    map_same : (f g : K → A) → ((k : K) → f k ≡ g k) → (ks : List K) → map f ks ≡ map g ks
    map_same f g e [] = refl
    map_same f g e (k ∷ ks) = λ i. e k i ∷ map_same f g e ks i

    -- what is kept of a key once the groups of some keys of `ys` were put behind those of `xs`
    half : List R → List R → List K → K → A
    half xs ys done k =
        if list_any (same k) done then merge (folded same key start step xs k) (folded same key start step ys k) else folded same key start step xs k

    module _ (xs ys : List R) (done : List K) (q : K) (new : list_any (same q) done ≡ false) where
      abbrev with_q : List K
      with_q = done ++ q ∷ []

      among : (k : K) → list_any (same k) with_q ≡ (list_any (same k) done || same k q)
      among k = list_any-append (same k) done (q ∷ []) ∙ ap (λ b. list_any (same k) done || b) (or_false (same k q))

      others : (k : K) → same q k ≡ false → half xs ys done k ≡ half xs ys with_q k
      unfolding half
      others k h =
          let e : list_any (same k) with_q ≡ list_any (same k) done =
          among k ∙ ap (λ b. list_any (same k) done || b) (laws.symm k q ∙ h) ∙ or_false (list_any (same k) done) in
          ap (λ b. if b then merge (folded same key start step xs k) (folded same key start step ys k) else folded same key start step xs k) (sym e)

      -- keys that are the same have the same rows
      alike : (k : K) → same q k ≡ true → folded same key start step ys q ≡ folded same key start step ys k
      alike k h = λ i. fold step start (filter (λ r. laws.congr q k (key r) h i) ys)

      own : (k : K) → same q k ≡ true → merge (half xs ys done k) (folded same key start step ys q) ≡ half xs ys with_q k
      unfolding half
      own k h =
          let before : list_any (same k) done ≡ false = sym (found_alike laws q k done h) ∙ new in
          let after : list_any (same k) with_q ≡ true = among k ∙ (λ i. before i || (laws.symm k q ∙ h) i) in
          ap (λ b. merge (if b then merge (folded same key start step xs k) (folded same key start step ys k) else folded same key start step xs k) (folded same key start step ys q)) before
          ∙ ap (merge (folded same key start step xs k)) (alike k h)
          ∙ sym (ap (λ b. if b then merge (folded same key start step xs k) (folded same key start step ys k) else folded same key start step xs k) after)

      -- keys so far
      abbrev so_far : List K
      so_far = fold (keep_new same) (keys_in same key xs) done

      apart : Apart laws so_far
      apart = apart_kept laws (keys_in same key xs) done (apart_distinct laws (map key xs))

      -- of a new key nothing is kept yet
      nothing : list_any (same q) so_far ≡ false → folded same key start step ys q ≡ half xs ys with_q q
      unfolding half
      nothing h =
          let none : members same key xs q ≡ [] =
          no_members laws key xs q (neither_left (list_any (same q) (keys_in same key xs)) (list_any (same q) done) (sym (any_kept laws q (keys_in same key xs) done) ∙ h)) in
          let there : list_any (same q) with_q ≡ true = among q ∙ (λ i. new i || laws.refl q i) in
          sym (splits [] (members same key ys q))
          ∙ ap (λ l. merge (fold step start l) (folded same key start step ys q)) (sym none)
          ∙ sym (ap (λ b. if b then merge (folded same key start step xs q) (folded same key start step ys q) else folded same key start step xs q) there)

      kept_more : (b : Bool) → list_any (same q) so_far ≡ b
          → put_beside merge (not b) (position_or_len (same q) so_far) (folded same key start step ys q) (map (half xs ys done) so_far)
          ≡ map (half xs ys with_q) (if b then so_far else so_far ++ q ∷ [])
      kept_more true h =
          let place = position_or_len (same q) so_far in
          let value = folded same key start step ys q in
          let here : place < length so_far = place_within (same q) so_far h in
          let mapped : place < length (map (half xs ys done) so_far) = subst (λ n. place < n) (sym (length-map so_far (half xs ys done))) here in
          let y = get_or (map (half xs ys done) so_far) place value in
          changed laws (half xs ys done) (half xs ys with_q) (λ a. merge a value) q others own so_far apart place y refl here
          (get_or_default (map (half xs ys done) so_far) place value y mapped)
      kept_more false h =
          (λ i. others_all laws (half xs ys done) (half xs ys with_q) (λ a. merge a (folded same key start step ys q)) q others own so_far h i ++ nothing h i ∷ [])
          ∙ sym (map-append (half xs ys with_q) so_far (q ∷ []))

      one_key : put_group same merge (so_far, map (half xs ys done) so_far) (group_at same key start step ys q)
          ≡ (fold (keep_new same) (keys_in same key xs) with_q, map (half xs ys with_q) (fold (keep_new same) (keys_in same key xs) with_q))
      one_key =
          let more : fold (keep_new same) (keys_in same key xs) (done ++ q ∷ []) ≡ keep_new same (fold (keep_new same) (keys_in same key xs) done) q =
          fold-append (keep_new same) (keys_in same key xs) done (q ∷ []) in
          (λ i. (keep_new same (fold (keep_new same) (keys_in same key xs) done) q, kept_more (list_any (same q) (fold (keep_new same) (keys_in same key xs) done)) refl i))
          ∙ (λ i. (sym more i, map (half xs ys (done ++ q ∷ [])) (sym more i)))

    -- the groups of the keys that are left
    put_rest : (xs ys : List R) (done rest : List K) → Apart laws (done ++ rest)
        → put_groups same merge (fold (keep_new same) (keys_in same key xs) done, map (half xs ys done) (fold (keep_new same) (keys_in same key xs) done)) (map (group_at same key start step ys) rest)
        ≡ (fold (keep_new same) (keys_in same key xs) (done ++ rest), map (half xs ys (done ++ rest)) (fold (keep_new same) (keys_in same key xs) (done ++ rest)))
    put_rest xs ys done [] distinct =
        ap (λ ks. (fold (keep_new same) (keys_in same key xs) ks, map (half xs ys ks) (fold (keep_new same) (keys_in same key xs) ks))) (sym (append-nil done))
    put_rest xs ys done (q ∷ rest) distinct =
        let assoc : (done ++ q ∷ []) ++ rest ≡ done ++ q ∷ rest = append_assoc done (q ∷ []) rest in
        ap (λ s. put_groups same merge s (map (group_at same key start step ys) rest)) (one_key xs ys done q (apart_front laws done q rest distinct))
        ∙ put_rest xs ys (done ++ q ∷ []) rest (subst (Apart laws) (sym assoc) distinct)
        ∙ ap (λ ks. (fold (keep_new same) (keys_in same key xs) ks, map (half xs ys ks) (fold (keep_new same) (keys_in same key xs) ks))) assoc

    half_is : (xs ys : List R) (k : K) → half xs ys (keys_in same key ys) k ≡ folded same key start step (xs ++ ys) k
    unfolding half
    half_is xs ys k = by (list_any (same k) (keys_in same key ys)) refl
      where
        by : (b : Bool) → list_any (same k) (keys_in same key ys) ≡ b
            → (if b then merge (folded same key start step xs k) (folded same key start step ys k) else folded same key start step xs k) ≡ folded same key start step (xs ++ ys) k
        by true h = sym (folded_parts xs ys k)
        by false h =
            sym (folded_parts xs ys k ∙ ap (λ l. merge (folded same key start step xs k) (fold step start l)) (no_members laws key ys k h)
            ∙ splits (members same key xs k) [] ∙ ap (fold step start) (append-nil (members same key xs k)))

    -- the groups of a part, put behind those of what is before it, are the groups of both
    pub put_part : (xs ys : List R) → put_groups same merge (kept_of same key start step xs) (groups_in same key start step ys) ≡ kept_of same key start step (xs ++ ys)
    unfolding half
    put_part xs ys =
        ap (λ kept. put_groups same merge (keys_in same key xs, kept) (groups_in same key start step ys))
        (map_same (folded same key start step xs) (half xs ys []) (λ k. refl) (keys_in same key xs))
        ∙ put_rest xs ys [] (keys_in same key ys) (apart_distinct laws (map key ys))
        ∙ (λ i. (sym (keys_of_parts xs ys) i, map_same (half xs ys (keys_in same key ys)) (folded same key start step (xs ++ ys)) (half_is xs ys) (sym (keys_of_parts xs ys) i) i))

-- ---- the loop that puts groups behind one another

module _ {K A : Type 0} (same : K → K → Bool) (merge : A → A → A) where
  abbrev pub all_put : List (K × A) → List K × List A
  all_put groups = put_groups same merge ([], []) groups

  pub groups_keys : (groups : List (K × A)) (k : K) (v : A) (keys keys2 : List K) → keys ≡ (all_put groups).0 → keys2 ≡ keep_new same keys k
      → keys2 ≡ (all_put (groups ++ (k, v) ∷ [])).0
  groups_keys groups k v keys keys2 before now =
      let more : (all_put (groups ++ (k, v) ∷ [])).0 ≡ keep_new same (all_put groups).0 k
      = λ i. (fold-append (put_group same merge) ([], []) groups ((k, v) ∷ []) i).0 in
      now ∙ ap (λ ks. keep_new same ks k) before ∙ sym more

  pub groups_kept : (groups : List (K × A)) (k : K) (v : A) (keys : List K) (kept kept2 : List A) → keys ≡ (all_put groups).0 → kept ≡ (all_put groups).1
      → kept2 ≡ put_beside merge (not (list_any (same k) keys)) (position_or_len (same k) keys) v kept
      → kept2 ≡ (all_put (groups ++ (k, v) ∷ [])).1
  groups_kept groups k v keys kept kept2 keys_are before also =
      let more : (all_put (groups ++ (k, v) ∷ [])).1
      ≡ put_beside merge (not (list_any (same k) (all_put groups).0)) (position_or_len (same k) (all_put groups).0) v (all_put groups).1
      = λ i. (fold-append (put_group same merge) ([], []) groups ((k, v) ∷ []) i).1 in
      also ∙ (λ i. put_beside merge (not (list_any (same k) (keys_are i))) (position_or_len (same k) (keys_are i)) v (before i)) ∙ sym more

  pub group_fits : (k : K) (v : A) (keys keys2 : List K) (kept kept2 : List A) → length kept ≡ length keys
      → keys2 ≡ keep_new same keys k → kept2 ≡ put_beside merge (not (list_any (same k) keys)) (position_or_len (same k) keys) v kept
      → length kept2 ≡ length keys2
  group_fits k v keys keys2 kept kept2 fits now also = ap length also ∙ by (list_any (same k) keys) ∙ ap length (sym now)
    where
      by : (b : Bool) → length (put_beside merge (not b) (position_or_len (same k) keys) v kept) ≡ length (if b then keys else keys ++ k ∷ [])
      by true = length-set kept (position_or_len (same k) keys) (merge (get_or kept (position_or_len (same k) keys) v) v) ∙ fits
      by false = length-append kept (v ∷ []) ∙ ap (λ n. n + length (v ∷ [])) fits ∙ sym (length-append keys (k ∷ []))

-- ---- keys beside what is kept of each

zip_push : {K A : Type 0} (ks : List K) (vs : List A) (k : K) (v : A) → length vs ≡ length ks → zip (ks ++ k ∷ []) (vs ++ v ∷ []) ≡ zip ks vs ++ (k, v) ∷ []
zip_push [] [] k v fits = refl
zip_push [] (w ∷ vs) k v fits = absurd (omega arith)
zip_push (j ∷ ks) [] k v fits = absurd (omega arith)
zip_push (j ∷ ks) (w ∷ vs) k v fits = ap (λ l. (j, w) ∷ l) (zip_push ks vs k v (omega arith))

-- the last key and the last value go
pub entry_more : {K A : Type 0} (ks ks2 : List K) (vs vs2 : List A) (k : K) (v : Option A) (es es2 all : List (K × A)) → length vs ≡ length ks
    → ks ≡ ks2 ++ k ∷ [] → vs ≡ vs2 ++ option_to_list v → (0 < length vs → IsSome v) → es2 ≡ es ++ with_value k v → zip ks vs ++ reverse es ≡ all
    → (length vs2 ≡ length ks2) × (zip ks2 vs2 ++ reverse es2 ≡ all)
entry_more ks ks2 vs vs2 k None es es2 all fits keys values some entries before =
    let count : length ks ≡ length ks2 + 1 = ap length keys ∙ length-append ks2 (k ∷ []) in
    absurd (true≢false (sym (some (omega (arith, count, fits)))))
entry_more ks ks2 vs vs2 k (Some v) es es2 all fits keys values some entries before =
    let count : length ks ≡ length ks2 + 1 = ap length keys ∙ length-append ks2 (k ∷ []) in
    let also : length vs ≡ length vs2 + 1 = ap length values ∙ length-append vs2 (v ∷ []) in
    let same : length vs2 ≡ length ks2 = omega (arith, count, also, fits) in (
      same,
      ap (λ l. zip ks2 vs2 ++ reverse l) entries ∙ ap (λ l. zip ks2 vs2 ++ l) (reverse-append es ((k, v) ∷ []))
          ∙ sym (append_assoc (zip ks2 vs2) ((k, v) ∷ []) (reverse es)) ∙ ap (λ l. l ++ reverse es) (sym (zip_push ks2 vs2 k v same))
          ∙ (λ i. zip (sym keys i) (sym values i) ++ reverse es) ∙ before,
    )

module _ {K : Type 0} (same : K → K → Bool) {R : Type 0} (key : R → K) {A : Type 0} (start : A) (step : A → R → A) where
  zip_at : (rows : List R) (ks : List K) → zip ks (map (folded same key start step rows) ks) ≡ map (group_at same key start step rows) ks
  zip_at rows [] = refl
  zip_at rows (k ∷ ks) = ap (λ l. (k, folded same key start step rows k) ∷ l) (zip_at rows ks)

  module _ (rows : List R) (keys : List K) (kept : List A) (keys_are : keys ≡ keys_in same key rows) (kept_are : kept ≡ folds same key start step rows) where
    pub folds_fit : length kept ≡ length keys
    folds_fit = ap length kept_are ∙ length-map (keys_in same key rows) (folded same key start step rows) ∙ sym (ap length keys_are)

    pub entries_are : zip keys kept ≡ groups_in same key start step rows
    entries_are = (λ i. zip (keys_are i) (kept_are i)) ∙ zip_at rows (keys_in same key rows)
