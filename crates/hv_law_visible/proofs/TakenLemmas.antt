-- What is taken covers all that stands above the base.
use Rattle.std.proofs.Common.{refl, ◌≡◌, ◌⊎◌, inl, inr, ℕ, ◌<◌, ◌≤◌, ◌==◌, nat_lt, Bool, true, false, cond, ◌&&◌, List, [], ◌∷◌, sym, ap, ◌∙◌, subst, arith, ltb-true, eq-eqb, lt-ltb, le-ltb, true≢false}
use Rattle.std.proofs.lemmas.Bool.{and_parts, cases_Bool, cases_lt}
use Rattle.std.specs.List.{AllByRecursion}
use Rattle.hv_law_visible.specs.Members.{IsIn}
use Rattle.hv_dirs.specs.Choice.{Sight, Delta, Own, Wide, low_of, high_of, is_own, taken_from}

-- c stands before d in the order of choice
abbrev pub Precedes : Delta → Delta → Type 0
Precedes c d =
    (low_of c ≤ low_of d) × (low_of c ≡ low_of d → high_of d ≤ high_of c) × (low_of c ≡ low_of d → high_of c ≡ high_of d → is_own c ≡ true → is_own d ≡ true)

abbrev pub Ordered : List Delta → Type 0
Ordered [] = Unit {0}
Ordered (d ∷ ds) = AllByRecursion (Precedes d) ds × Ordered ds

pub all-in : {A : Type 0} (P : A → Type 0) (xs : List A) (x : A) → AllByRecursion P xs → IsIn x xs → P x
all-in P [] x all at = absurd at
all-in P (y ∷ ys) x all (inl e) = subst P e all.0
all-in P (y ∷ ys) x all (inr at) = all-in P ys x all.1 at

-- what is in the rest is in what a test adds to it
in-cond : {A : Type 0} (b : Bool) (x d : A) (ds : List A) → IsIn x ds → IsIn x (cond b (d ∷ ds) ds)
in-cond true x d ds at = inr at
in-cond false x d ds at = at

pub own-single : (d : Delta) → is_own d ≡ true → low_of d ≡ high_of d
own-single (Own write statement) e = refl
own-single (Wide first last) e = absurd (true≢false (sym e))

-- c shows what d shows
abbrev pub Covers : Delta → Delta → Type 0
Covers c d = (c ≡ d) ⊎ ((is_own c ≡ false) × (low_of c ≤ low_of d) × (high_of d ≤ high_of c))

module _ (sight : Sight) where
  -- behind a delta of one statement that was taken, all others of that id are taken
  follow-step : (top : ℕ) (x d : Delta) (xs : List Delta) (rest : List Delta) (a b t : Bool) → IsIn d rest
      → (b ≡ true → ⊥)
      → IsIn d (cond a (cond b (x ∷ xs) (cond t (x ∷ rest) rest)) rest)
  follow-step top x d xs rest false b t at low_top = at
  follow-step top x d xs rest true true t at low_top = absurd (low_top refl)
  follow-step top x d xs rest true false t at low_top = in-cond t d x rest at

  follow-here : (top : ℕ) (x d : Delta) (xs rest : List Delta) (a b t : Bool) → x ≡ d → a ≡ true → b ≡ false → t ≡ true
      → IsIn d (cond a (cond b (x ∷ xs) (cond t (x ∷ rest) rest)) rest)
  follow-here top x d xs rest true false true e p q r = inl e
  follow-here top x d xs rest false b t e p q r = absurd (true≢false (sym p))
  follow-here top x d xs rest true true t e p q r = absurd (true≢false q)
  follow-here top x d xs rest true false false e p q r = absurd (true≢false (sym r))

  follow : (c d : Delta) (ds : List Delta) → low_of c ≡ high_of c → AllByRecursion (Precedes c) ds → Ordered ds → IsIn d ds
      → low_of d ≡ high_of c → high_of d ≡ high_of c → sight.has_some (low_of d) (high_of d) ≡ true
      → IsIn d (taken_from sight (high_of c) true ds)
  follow c d [] single all up at l h is = absurd at
  follow c d (x ∷ xs) single all up (inl e) l h is =
      let lx : low_of x ≡ high_of c = ap low_of e ∙ l in
      let hx : high_of x ≡ high_of c = ap high_of e ∙ h in
      follow-here (high_of c) x d (taken_from sight (high_of x) (is_own x) xs) (taken_from sight (high_of c) true xs)
      (sight.has_some (low_of x) (high_of x)) (nat_lt (high_of c) (high_of x)) (true && (low_of x == high_of c && high_of x == high_of c)) e
      (ap (λ (y : Delta). sight.has_some (low_of y) (high_of y)) e ∙ is)
      (le-ltb (high_of c) (high_of x) (omega arith))
      (λ i. true && (eq-eqb (low_of x) (high_of c) lx i && eq-eqb (high_of x) (high_of c) hx i))
  follow c d (x ∷ xs) single all up (inr at) l h is =
      let p : Precedes x d = all-in (Precedes x) xs d up.0 at in
      let q : Precedes c x = all.0 in
      follow-step (high_of c) x d (taken_from sight (high_of x) (is_own x) xs) (taken_from sight (high_of c) true xs)
      (sight.has_some (low_of x) (high_of x)) (nat_lt (high_of c) (high_of x)) (true && (low_of x == high_of c && high_of x == high_of c))
      (follow c d xs single all.1 up.1 at l h is)
      (λ over.
      let more : high_of c < high_of x = ltb-true (high_of c) (high_of x) over in
      let first : low_of x ≤ low_of d = p.0 in
      let second : low_of c ≤ low_of x = q.0 in
      let same : low_of c ≡ low_of x = omega arith in
      let within : high_of x ≤ high_of c = q.1 same in
      omega arith)

  -- what stands above the top is covered by something that is taken
  Covered : Delta → List Delta → Type 0
  Covered d ds = (c : Delta) × IsIn c ds × Covers c d

  covered-more : (x d : Delta) (ds : List Delta) (b : Bool) → Covered d ds → Covered d (cond b (x ∷ ds) ds)
  unfolding Covered
  covered-more x d ds b h = (h.0, in-cond b h.0 x ds h.1, h.2)

  cover-step : (top : ℕ) (x d : Delta) (xs rest : List Delta) (a b t : Bool)
      → (a ≡ true → b ≡ true → Covered d (x ∷ xs)) → Covered d rest
      → Covered d (cond a (cond b (x ∷ xs) (cond t (x ∷ rest) rest)) rest)
  cover-step top x d xs rest false b t over under = under
  cover-step top x d xs rest true true t over under = over refl refl
  cover-step top x d xs rest true false t over under = covered-more x d rest t under

  cover-here : (top : ℕ) (x d : Delta) (xs rest : List Delta) (a b t : Bool) → x ≡ d → a ≡ true → b ≡ true
      → Covered d (cond a (cond b (x ∷ xs) (cond t (x ∷ rest) rest)) rest)
  unfolding Covered
  cover-here top x d xs rest true true t e p q = (x, inl refl, inl e)
  cover-here top x d xs rest false b t e p q = absurd (true≢false (sym p))
  cover-here top x d xs rest true false t e p q = absurd (true≢false (sym q))

  covered-behind : (x d : Delta) (ds : List Delta) → Covered d ds → Covered d (x ∷ ds)
  unfolding Covered
  covered-behind x d ds h = (h.0, inr h.1, h.2)

  cover-own : (x d : Delta) (xs : List Delta) → Precedes x d → AllByRecursion (Precedes x) xs → Ordered xs → IsIn d xs
      → low_of d ≤ high_of d → high_of d ≤ high_of x → sight.has_some (low_of d) (high_of d) ≡ true
      → (b o : Bool) → is_own x ≡ b → is_own d ≡ o → Covered d (x ∷ taken_from sight (high_of x) b xs)
  unfolding Covered
  cover-own x d xs p all up at fits under is false o wide e = (x, inl refl, inr (wide, p.0, under))
  cover-own x d xs p all up at fits under is true true own e =
      let single : low_of x ≡ high_of x = own-single x own in
      let first : low_of x ≤ low_of d = p.0 in
      (d, inr (follow x d xs single all up at (omega arith) (omega arith) is), inl refl)
  cover-own x d xs p all up at fits under is true false own e =
      let single : low_of x ≡ high_of x = own-single x own in
      let first : low_of x ≤ low_of d = p.0 in
      let l : low_of x ≡ low_of d = omega arith in
      let h : high_of x ≡ high_of d = omega arith in
      absurd (true≢false (sym (p.2 l h own) ∙ e))

  pub covers : (top : ℕ) (own : Bool) (d : Delta) (ds : List Delta) → Ordered ds → IsIn d ds
      → low_of d ≤ high_of d → top < high_of d → sight.has_some (low_of d) (high_of d) ≡ true
      → (c : Delta) × IsIn c (taken_from sight top own ds) × Covers c d
  unfolding Covered
  covers top own d [] up at fits over is = absurd at
  covers top own d (x ∷ xs) up (inl e) fits over is =
      cover-here top x d (taken_from sight (high_of x) (is_own x) xs) (taken_from sight top own xs)
      (sight.has_some (low_of x) (high_of x)) (nat_lt top (high_of x)) (own && (low_of x == top && high_of x == top)) e
      (ap (λ (y : Delta). sight.has_some (low_of y) (high_of y)) e ∙ is)
      (ap (λ (y : Delta). nat_lt top (high_of y)) e ∙ lt-ltb top (high_of d) over)
  covers top own d (x ∷ xs) up (inr at) fits over is =
      let p : Precedes x d = all-in (Precedes x) xs d up.0 at in
      cover-step top x d (taken_from sight (high_of x) (is_own x) xs) (taken_from sight top own xs)
      (sight.has_some (low_of x) (high_of x)) (nat_lt top (high_of x)) (own && (low_of x == top && high_of x == top))
      (λ some further. elim (cases_lt (high_of x) (high_of d)) [
        | inl more ↦ covered-behind x d (taken_from sight (high_of x) (is_own x) xs) (covers (high_of x) (is_own x) d xs up.1 at fits more is)
        | inr under ↦ cover-own x d xs p up.0 up.1 at fits under is (is_own x) (is_own d) refl refl
      ])
      (covers top own d xs up.1 at fits over is)

  -- what is taken stands, has a valid id, and reaches above the base
  pub record IsTaken (base : ℕ) (c : Delta) (ds : List Delta) : Type 0 where
    pub stands : IsIn c ds
    pub some : sight.has_some (low_of c) (high_of c) ≡ true
    pub over : base < high_of c

  taken-behind : (base : ℕ) (c x : Delta) (ds : List Delta) → IsTaken base c ds → IsTaken base c (x ∷ ds)
  taken-behind base c x ds t = record { stands = inr t.stands; some = t.some; over = t.over }

  taken-here : (base : ℕ) (c x : Delta) (ds : List Delta) → x ≡ c → sight.has_some (low_of x) (high_of x) ≡ true → base < high_of x → IsTaken base c (x ∷ ds)
  taken-here base c x ds e some over = record {
    stands = inl e;
    some = ap (λ (y : Delta). sight.has_some (low_of y) (high_of y)) (sym e) ∙ some;
    over = subst (λ (y : Delta). base < high_of y) e over;
  }

  taken-step : (base top : ℕ) (own : Bool) (c x : Delta) (ds xs rest : List Delta) → base ≤ top → (own ≡ true → base < top)
      → (base < high_of x → IsIn c xs → IsTaken base c ds) → (IsIn c rest → IsTaken base c ds)
      → (a b t : Bool) → sight.has_some (low_of x) (high_of x) ≡ a → nat_lt top (high_of x) ≡ b
      → (t ≡ true → (own ≡ true) × (high_of x ≡ top))
      → IsIn c (cond a (cond b (x ∷ xs) (cond t (x ∷ rest) rest)) rest) → IsTaken base c (x ∷ ds)
  taken-step base top own c x ds xs rest under own_over over later false b t p q r at = taken-behind base c x ds (later at)
  taken-step base top own c x ds xs rest under own_over over later true true t p q r (inl e) =
      let more : top < high_of x = ltb-true top (high_of x) q in
      taken-here base c x ds e p (omega arith)
  taken-step base top own c x ds xs rest under own_over over later true true t p q r (inr at) =
      let more : top < high_of x = ltb-true top (high_of x) q in
      taken-behind base c x ds (over (omega arith) at)
  taken-step base top own c x ds xs rest under own_over over later true false true p q r (inl e) =
      let s : (own ≡ true) × (high_of x ≡ top) = r refl in
      let is : high_of x ≡ top = s.1 in
      let more : base < top = own_over s.0 in
      taken-here base c x ds e p (omega arith)
  taken-step base top own c x ds xs rest under own_over over later true false true p q r (inr at) = taken-behind base c x ds (later at)
  taken-step base top own c x ds xs rest under own_over over later true false false p q r at = taken-behind base c x ds (later at)

  pub is-taken : (base top : ℕ) (own : Bool) (c : Delta) (ds : List Delta) → base ≤ top → (own ≡ true → base < top)
      → IsIn c (taken_from sight top own ds) → IsTaken base c ds
  is-taken base top own c [] under own_over at = absurd at
  is-taken base top own c (x ∷ xs) under own_over at =
      taken-step base top own c x xs (taken_from sight (high_of x) (is_own x) xs) (taken_from sight top own xs) under own_over
      (λ over. is-taken base (high_of x) (is_own x) c xs (omega arith) (λ _. over))
      (is-taken base top own c xs under own_over)
      (sight.has_some (low_of x) (high_of x)) (nat_lt top (high_of x)) (own && (low_of x == top && high_of x == top)) refl refl
      (λ e.
      let s = and_parts own (low_of x == top && high_of x == top) e in
      let t = and_parts (low_of x == top) (high_of x == top) s.1 in
      (s.0, Rattle.std.proofs.lemmas.Bool.eqb-true (high_of x) top t.1))
      at
