-- Reading and writing items one behind the other, as a loop does.
use Rattle.std.proofs.Common.{◌≡◌, ℕ, suc, ◌-◌, ◌+◌, ◌≤◌, ◌<◌, List, [], ◌∷◌, ◌++◌, length, get_or, take, Option, Some, None, refl, sym, ap, ◌∙◌, append_assoc, arith}
use Rattle.std.specs.List.{flat_map, AllByRecursion}
use Rattle.std.proofs.lemmas.List.{append-nil, length-append}
use Rattle.std.proofs.lemmas.List.Concat.{flat_map-cons}
use Rattle.std.proofs.lemmas.List.Folds.{length-flat_map-take}
use Rattle.std.proofs.lemmas.Grind.{flat_map-append}
use Rattle.hv_bytes.specs.declared.fault.FieldFault.{FieldFault}
use Rattle.hv_bytes.specs.declared.fault.FieldFault.TheVariants as fault
use Rattle.hv_bytes.specs.Reading.{◌>>=◌, Fails, items_at}

-- what was written of the items, and the next one, is no longer than all
pub item_within : {X : Type 0} (f : X → List ℕ) (xs : List X) (i : ℕ) (x : X) → x ≡ get_or xs i x → i < length xs → length (flat_map f (take i xs)) + length (f x) ≤ length (flat_map f xs)
item_within {X} f xs i x is lt = omega (arith, ap (λ (y : X). length (f y)) is, length-flat_map-take f xs i x lt)

module _ {X : Type 0} where
  -- what was read before, and what is still read
  abbrev pub with_front : List X → Option (List X × List ℕ) → Option (List X × List ℕ)
  with_front front read = read >>= λ x. Some (front ++ x.0, x.1)

  regroup : (front : List X) (v : X) (read : Option (List X × List ℕ)) → with_front front (read >>= λ x. Some (v ∷ x.0, x.1)) ≡ with_front (front ++ v ∷ []) read
  regroup front v (Some x) = ap (λ (vs : List X). Some (vs, x.1)) (simp append_assoc)
  regroup front v None = refl

  whole : (read : Option (List X × List ℕ)) → with_front [] read ≡ read
  whole None = refl
  whole (Some x) = refl

  pub starts : (at : List ℕ → Option (X × List ℕ)) (n : ℕ) (bytes : List ℕ) → with_front [] (items_at at (n - 0) bytes) ≡ items_at at n bytes
  starts at n bytes = let k : n - 0 ≡ n = omega arith in ap (λ (m : ℕ). with_front [] (items_at at m bytes)) k ∙ whole (items_at at n bytes)

  pub goes_on : (at : List ℕ → Option (X × List ℕ)) (front : List X) (count i : ℕ) (bytes : List ℕ) (v : X) (after : List ℕ) (total : Option (List X × List ℕ)) → i < count → at bytes ≡ Some (v, after)
      → with_front front (items_at at (count - i) bytes) ≡ total → with_front (front ++ v ∷ []) (items_at at (count - (i + 1)) after) ≡ total
  goes_on at front count i bytes v after total lt h so_far =
      let k : count - i ≡ suc (count - (i + 1)) = omega arith in
      let one : with_front front (items_at at (count - i) bytes) ≡ with_front (front ++ v ∷ []) (items_at at (count - (i + 1)) after) = rw (k, h) (regroup front v (items_at at (count - (i + 1)) after)) in
      sym one ∙ so_far

  pub ends : (at : List ℕ → Option (X × List ℕ)) (e : FieldFault) (front : List X) (count i : ℕ) (bytes : List ℕ) (total : Option (List X × List ℕ)) → i < count → Fails e (at bytes)
      → with_front front (items_at at (count - i) bytes) ≡ total → Fails e total
  ends at fault.NoMemory front count i bytes total lt h so_far = tt
  ends at fault.Damaged front count i bytes total lt h so_far =
      let k : count - i ≡ suc (count - (i + 1)) = omega arith in
      let one : with_front front (items_at at (count - i) bytes) ≡ None = rw (k, h) refl in
      sym so_far ∙ one

  pub is_done : (at : List ℕ → Option (X × List ℕ)) (front : List X) (count i : ℕ) (bytes : List ℕ) (total : Option (List X × List ℕ)) → count ≤ i → with_front front (items_at at (count - i) bytes) ≡ total → total ≡ Some (front, bytes)
  is_done at front count i bytes total le so_far =
      let k : count - i ≡ 0 = omega arith in
      let one : with_front front (items_at at (count - i) bytes) ≡ Some (front, bytes) = rw k (ap (λ (vs : List X). Some (vs, bytes)) (append-nil front)) in
      sym so_far ∙ one

  -- what was spelled is read again
  pub items_again : (at : List ℕ → Option (X × List ℕ)) (spelling : X → List ℕ) (Has : X → Type 0) → ((v : X) (rest : List ℕ) → Has v → at (spelling v ++ rest) ≡ Some (v, rest))
      → (vs : List X) (rest : List ℕ) → AllByRecursion Has vs → items_at at (length vs) (flat_map spelling vs ++ rest) ≡ Some (vs, rest)
  items_again at spelling Has again [] rest has = refl
  items_again at spelling Has again (v ∷ vs) rest has =
      let regrouped : flat_map spelling (v ∷ vs) ++ rest ≡ spelling v ++ (flat_map spelling vs ++ rest) = ap (λ (x : List ℕ). x ++ rest) (flat_map-cons spelling v vs) ∙ append_assoc (spelling v) (flat_map spelling vs) rest in
      ap (items_at at (suc (length vs))) regrouped ∙ rw (again v (flat_map spelling vs ++ rest) has.0, items_again at spelling Has again vs rest has.1) refl

  one_more : (P : X → Type 0) (vs : List X) (v : X) → AllByRecursion P vs → P v → AllByRecursion P (vs ++ v ∷ [])
  one_more P [] v each h = (h, tt)
  one_more P (first ∷ vs) v each h = (each.0, one_more P vs v each.1 h)

  -- the items read so far, and the bytes behind them
  pub record Takes (spelling : X → List ℕ) (Has : X → Type 0) (bytes : List ℕ) (vs : List X) (rest : List ℕ) : Type 0 where
    pub has : AllByRecursion Has vs
    pub parts : bytes ≡ flat_map spelling vs ++ rest

  pub takes_more : (spelling : X → List ℕ) (Has : X → Type 0) (bytes : List ℕ) (vs : List X) (rest : List ℕ) (v : X) (after : List ℕ) → Takes spelling Has bytes vs rest → Has v → rest ≡ spelling v ++ after
      → Takes spelling Has bytes (vs ++ v ∷ []) after
  takes_more spelling Has bytes vs rest v after so_far h e =
      let spelled : flat_map spelling (vs ++ v ∷ []) ≡ flat_map spelling vs ++ spelling v =
      flat_map-append spelling vs (v ∷ []) ∙ ap (λ (x : List ℕ). flat_map spelling vs ++ x) (flat_map-cons spelling v [] ∙ append-nil (spelling v)) in
      let parts : bytes ≡ flat_map spelling (vs ++ v ∷ []) ++ after =
      so_far.parts ∙ ap (λ (x : List ℕ). flat_map spelling vs ++ x) e ∙ sym (append_assoc (flat_map spelling vs) (spelling v) after) ∙ ap (λ (x : List ℕ). x ++ after) (sym spelled) in
      record { has = one_more Has vs v so_far.has h; parts = parts }

  -- two facts on each item
  pub both : (P Q : X → Type 0) (vs : List X) → AllByRecursion P vs → AllByRecursion Q vs → AllByRecursion (λ v. P v × Q v) vs
  both P Q [] p q = tt
  both P Q (v ∷ vs) p q = ((p.0, q.0), both P Q vs p.1 q.1)

  pub all_map : (P Q : X → Type 0) → ((v : X) → P v → Q v) → (vs : List X) → AllByRecursion P vs → AllByRecursion Q vs
  all_map P Q f [] h = tt
  all_map P Q f (v ∷ vs) h = (f v h.0, all_map P Q f vs h.1)

  -- each item is no longer than all of them
  pub all_short : (spelling : X → List ℕ) (limit : ℕ) (vs : List X) → length (flat_map spelling vs) < limit → AllByRecursion (λ v. length (spelling v) < limit) vs
  all_short spelling limit [] h = tt
  all_short spelling limit (v ∷ vs) h =
      let len : length (flat_map spelling (v ∷ vs)) ≡ length (spelling v) + length (flat_map spelling vs) = ap length (flat_map-cons spelling v vs) ∙ length-append (spelling v) (flat_map spelling vs) in
      (omega (arith, len), all_short spelling limit vs (omega (arith, len)))

  -- there are no more items than bytes of them
  pub items_count : (spelling : X → List ℕ) → ((v : X) → 1 ≤ length (spelling v)) → (vs : List X) → length vs ≤ length (flat_map spelling vs)
  items_count spelling some [] = omega arith
  items_count spelling some (v ∷ vs) =
      let len : length (flat_map spelling (v ∷ vs)) ≡ length (spelling v) + length (flat_map spelling vs) = ap length (flat_map-cons spelling v vs) ∙ length-append (spelling v) (flat_map spelling vs) in
      omega (arith, len, some v, items_count spelling some vs)
