-- Each list of places has a listing, since whether a text is the name of a directory can be found out; and so each partition has directories.
use Rattle.std.proofs.Common.{refl, ◌≡◌, ◌⊎◌, inl, inr, ℕ, zero, suc, ◌<◌, ◌≤◌, Bool, true, false, Some, None, List, [], ◌∷◌, sym, ◌∙◌, subst, arith, true≢false}
use Rattle.std.specs.Prelude.{nat_eq}
use Rattle.std.specs.Cmp.Lexicographic.{pointwise}
use Rattle.std.proofs.lemmas.Bool.{cases_lt}
use Rattle.hv_shelf.specs.declared.place.Place.{Place}
use Rattle.hv_shelf.specs.Disk.{places_of}
use Rattle.hv_dirs.specs.Names.{IsName, text_of, IsNumber, IsRange, write_end, statement_end}
use Rattle.hv_choosing.specs.declared.dir.Dir.{Dir}
use Rattle.hv_choosing.specs.declared.dir.Dir.TheVariants.{Base, Own, Wide}
use Rattle.hv_choosing.specs.declared.listing.DirFile.{DirFile}
use Rattle.hv_choosing.specs.Dirs.{name_of, IsAt}
use Rattle.hv_choosing.specs.Listing.{AreListed}
use Rattle.hv_table_rows.proofs.Names.{same-text, text-same}
use Rattle.hv_law_directories.specs.Directories.{directories_in}
use Rattle.hv_law_directories.specs.Laws.{ThereAreDirectories}
use Rattle.hv_law_directories.proofs.ListedLemmas.{listed-directories}

-- it holds, or it doesn't
abbrev IsDecided : Type 0 → Type 0
IsDecided A = A ⊎ (A → ⊥)

decided-both : {A B : Type 0} → IsDecided A → IsDecided B → IsDecided (A × B)
decided-both (inl a) (inl b) = inl (a, b)
decided-both (inl a) (inr none) = inr (λ both. none both.1)
decided-both (inr none) b = inr (λ both. none both.0)

decided-three : {A B C : Type 0} → IsDecided A → IsDecided B → IsDecided C → IsDecided (A × B × C)
decided-three (inl a) (inl b) (inl c) = inl (a, b, c)
decided-three (inl a) (inl b) (inr none) = inr (λ all. none all.2)
decided-three (inl a) (inr none) c = inr (λ all. none all.1)
decided-three (inr none) b c = inr (λ all. none all.0)

decided-less : (a b : ℕ) → IsDecided (a < b)
decided-less a b = elim (cases_lt a b) [ inl less ↦ inl less | inr more ↦ inr (λ less. omega (arith, less, more)) ]

decided-most : (a b : ℕ) → IsDecided (a ≤ b)
decided-most a b = elim (cases_lt b a) [ inl more ↦ inr (λ less. omega (arith, less, more)) | inr less ↦ inl (omega (arith, less)) ]

decided-text : (a b : List ℕ) → IsDecided (a ≡ b)
decided-text a b = by (pointwise nat_eq a b) refl
  where
    by : (c : Bool) → pointwise nat_eq a b ≡ c → IsDecided (a ≡ b)
    by true e = inl (same-text a b e)
    by false e = inr (λ same. true≢false (sym (text-same a b same) ∙ e))

-- of some number below another one
abbrev IsBelow : ℕ → (ℕ → Type 0) → Type 0
IsBelow n P = (k : ℕ) × (k < n) × P k

decided-below : (P : ℕ → Type 0) → ((k : ℕ) → IsDecided (P k)) → (n : ℕ) → IsDecided (IsBelow n P)
decided-below P each zero = inr (λ found. let low = found.1 in omega (arith, low))
decided-below P each (suc n) = by (each n) (decided-below P each n)
  where
    by : IsDecided (P n) → IsDecided (IsBelow n P) → IsDecided (IsBelow (suc n) P)
    by (inl here) rest = inl (n, omega arith, here)
    by (inr none) (inl found) = let low = found.1 in inl (found.0, omega (arith, low), found.2)
    by (inr none) (inr no_lower) = inr (λ found. elim (cases_lt found.0 n) [
      | inl less ↦ no_lower (found.0, less, found.2)
      | inr more ↦
          let low = found.1 in
          let same : found.0 ≡ n = omega (arith, low, more) in
          none (subst P same found.2)
    ])

-- ---- of a directory

decided-number : (n : ℕ) → IsDecided (IsNumber n)
decided-number n = decided-both (decided-most 1 n) (decided-less n write_end)

decided-name : (d : Dir) → IsDecided (IsName (name_of d))
decided-name (Base high) = decided-number high.0
decided-name (Own deletes write statement) = decided-both (decided-number write.0) (decided-less statement statement_end)
decided-name (Wide deletes low high) = decided-three (decided-most 1 low.0) (decided-most low.0 high.0) (decided-less high.0 write_end)

decided-at : (text : List ℕ) (d : Dir) → IsDecided (IsAt text d)
decided-at text d = decided-both (decided-name d) (decided-text (text_of (name_of d)) text)

low-below : (low high : ℕ) → IsRange low high → low < write_end
low-below low high range = let more = range.1 in let last = range.2 in omega (arith, more, last)

module _ (text : List ℕ) where
  abbrev IsBaseAt : Type 0
  IsBaseAt = IsBelow write_end (λ k. IsAt text (Base (record { 0 = k })))

  abbrev IsOwnAt : Bool → Type 0
  IsOwnAt deletes = IsBelow write_end (λ w. IsBelow statement_end (λ s. IsAt text (Own deletes (record { 0 = w }) s)))

  abbrev IsWideAt : Bool → Type 0
  IsWideAt deletes = IsBelow write_end (λ l. IsBelow write_end (λ h. IsAt text (Wide deletes (record { 0 = l }) (record { 0 = h }))))

  decided-base : IsDecided IsBaseAt
  decided-base = decided-below (λ k. IsAt text (Base (record { 0 = k }))) (λ k. decided-at text (Base (record { 0 = k }))) write_end

  decided-own : (deletes : Bool) → IsDecided (IsOwnAt deletes)
  decided-own deletes =
      decided-below (λ w. IsBelow statement_end (λ s. IsAt text (Own deletes (record { 0 = w }) s)))
      (λ w. decided-below (λ s. IsAt text (Own deletes (record { 0 = w }) s)) (λ s. decided-at text (Own deletes (record { 0 = w }) s)) statement_end) write_end

  decided-wide : (deletes : Bool) → IsDecided (IsWideAt deletes)
  decided-wide deletes =
      decided-below (λ l. IsBelow write_end (λ h. IsAt text (Wide deletes (record { 0 = l }) (record { 0 = h }))))
      (λ l. decided-below (λ h. IsAt text (Wide deletes (record { 0 = l }) (record { 0 = h }))) (λ h. decided-at text (Wide deletes (record { 0 = l }) (record { 0 = h }))) write_end)
      write_end

  -- none of the kinds has the name
  none-of : (IsBaseAt → ⊥) → (IsOwnAt true → ⊥) → (IsOwnAt false → ⊥) → (IsWideAt true → ⊥) → (IsWideAt false → ⊥) → (d : Dir) → IsAt text d → ⊥
  none-of base own_deletes own wide_deletes wide (Base high) at = base (high.0, at.0.1, at)
  none-of base own_deletes own wide_deletes wide (Own true write statement) at = own_deletes (write.0, at.0.0.1, (statement, at.0.1, at))
  none-of base own_deletes own wide_deletes wide (Own false write statement) at = own (write.0, at.0.0.1, (statement, at.0.1, at))
  none-of base own_deletes own wide_deletes wide (Wide true low high) at =
      let range = at.0 in
      let below : low.0 < write_end = low-below low.0 high.0 range in wide_deletes (low.0, below, (high.0, range.2, at))
  none-of base own_deletes own wide_deletes wide (Wide false low high) at =
      let range = at.0 in
      let below : low.0 < write_end = low-below low.0 high.0 range in wide (low.0, below, (high.0, range.2, at))

  abbrev IsDir : Type 0
  IsDir = (d : Dir) × IsAt text d

  some-or : IsDecided IsBaseAt → IsDecided (IsOwnAt true) → IsDecided (IsOwnAt false) → IsDecided (IsWideAt true) → IsDecided (IsWideAt false) → IsDecided IsDir
  some-or (inl b) own_deletes own wide_deletes wide = inl (Base (record { 0 = b.0 }), b.2)
  some-or (inr b) (inl o) own wide_deletes wide = inl (Own true (record { 0 = o.0 }) o.2.0, o.2.2)
  some-or (inr b) (inr o) (inl p) wide_deletes wide = inl (Own false (record { 0 = p.0 }) p.2.0, p.2.2)
  some-or (inr b) (inr o) (inr p) (inl w) wide = inl (Wide true (record { 0 = w.0 }) (record { 0 = w.2.0 }), w.2.2)
  some-or (inr b) (inr o) (inr p) (inr w) (inl v) = inl (Wide false (record { 0 = v.0 }) (record { 0 = v.2.0 }), v.2.2)
  some-or (inr b) (inr o) (inr p) (inr w) (inr v) = inr (λ dir. none-of b o p w v dir.0 dir.1)

  decided-dir : IsDecided IsDir
  decided-dir = some-or decided-base (decided-own true) (decided-own false) (decided-wide true) (decided-wide false)

-- ---- of a list of places

listed : (places : List Place) → (named : List DirFile) × AreListed places named
listed [] = ([], refl)
listed (place ∷ places) = by (decided-dir place.dir) (listed places)
  where
    by : IsDecided (IsDir place.dir) → ((named : List DirFile) × AreListed places named) → (named : List DirFile) × AreListed (place ∷ places) named
    by (inl dir) rest = (record { place = place; dir = dir.0 } ∷ rest.0, (Some (record { place = place; dir = dir.0 }), rest.0, (refl, dir.1), refl, rest.1))
    by (inr none) rest = (rest.0, (None, rest.0, (λ d at. none (d, at)), refl, rest.1))

pub there-are : ThereAreDirectories
there-are read info partition files =
    let named = listed (places_of info.table files) in
    (directories_in read info partition files named.0, listed-directories read info partition files named.0 named.1)
