-- No reader takes a directory that may be gone: what covers it stands, and is taken before it.
use Rattle.std.proofs.Common.{refl, ◌≡◌, ◌≢◌, ◌⊎◌, inl, inr, ℕ, zero, suc, ◌<◌, ◌≤◌, ◌==◌, nat_lt, Bool, true, false, cond, ◌&&◌, List, [], ◌∷◌, filter, sym, ap, ◌∙◌, subst, arith, ltb-true, ltb-false, true≢false}
use Rattle.std.proofs.lemmas.Bool.{and_parts, eqb-true}
use Rattle.std.specs.List.{flat_map, AllByRecursion}
use Rattle.hv_base.specs.declared.ids.RowId.{RowId}
use Rattle.hv_law_visible.specs.Members.{IsIn}
use Rattle.hv_dirs.specs.Choice.{Sight, Delta, Own, Wide, low_of, high_of, is_own, taken_from}
use Rattle.hv_law_visible.specs.History.{Write, Compaction, Minor, Major, CoversDelta, has_write, IsMade, IsMadeBase}
use Rattle.hv_law_visible.specs.Stands.{IsSound, Fits, IsLoose, IsForeign, Stand}
use Rattle.hv_law_visible.proofs.MemberLemmas.{in-flat, from-flat, in-filter, from-filter}
use Rattle.hv_law_visible.proofs.TakenLemmas.{Precedes, Ordered, all-in, own-single, is-taken}
use Rattle.hv_law_visible.proofs.ReachedLemmas.{rest, rest-less, names, name-fits, within-from, has-wide}

wrong-order : (c d : Delta) → Precedes d c → is_own c ≡ false → c ≢ d → low_of c ≤ low_of d → high_of d ≤ high_of c → ⊥
wrong-order (Own a b) d p wide apart l h = true≢false wide
wrong-order (Wide a b) (Own e f) p wide apart l h =
    let x : e ≤ a = p.0 in
    let low_same : e ≡ a = omega arith in
    let y : b ≤ e = p.1 low_same in
    let high_same : e ≡ b = omega arith in
    true≢false (sym (p.2 low_same high_same refl))
wrong-order (Wide a b) (Wide e f) p wide apart l h =
    let x : e ≤ a = p.0 in
    let low_same : e ≡ a = omega arith in
    let y : b ≤ f = p.1 low_same in
    let high_same : b ≡ f = omega arith in
    apart (λ i. Wide (sym low_same i) (high_same i))

module _ (sight : Sight) (c d : Delta) (fits : low_of d ≤ high_of d) (wide : is_own c ≡ false) (apart : c ≢ d) (under : low_of c ≤ low_of d) (over : high_of d ≤ high_of c)
    (some : sight.has_some (low_of c) (high_of c) ≡ true) where
  Never : List Delta → Type 0
  Never ds = IsIn d ds → ⊥

  -- what a step leaves
  never-step : (x : Delta) (xs rest : List Delta) (top : ℕ) (own : Bool) (a b t : Bool) → sight.has_some (low_of x) (high_of x) ≡ a → nat_lt top (high_of x) ≡ b
      → (own && (low_of x == top && high_of x == top)) ≡ t
      → (b ≡ true → x ≢ d) → (b ≡ false → t ≡ true → x ≢ d) → (a ≡ true → b ≡ true → Never xs) → ((a ≡ false) ⊎ (b ≡ false) → Never rest)
      → Never (cond a (cond b (x ∷ xs) (cond t (x ∷ rest) rest)) rest)
  unfolding Never
  never-step x xs rest top own false b t p q r first again taken_so passed at = passed (inl refl) at
  never-step x xs rest top own true true t p q r first again taken_so passed (inl e) = first refl e
  never-step x xs rest top own true true t p q r first again taken_so passed (inr at) = taken_so refl refl at
  never-step x xs rest top own true false true p q r first again taken_so passed (inl e) = again refl refl e
  never-step x xs rest top own true false true p q r first again taken_so passed (inr at) = passed (inr refl) at
  never-step x xs rest top own true false false p q r first again taken_so passed at = passed (inr refl) at

  -- behind what covers it
  after : (top : ℕ) (own : Bool) (ds : List Delta) → high_of d ≤ top → (own ≡ true → low_of d ≡ top → ⊥) → Never (taken_from sight top own ds)
  unfolding Never
  after top own [] high_top last at = at
  after top own (x ∷ xs) high_top last at =
      never-step x (taken_from sight (high_of x) (is_own x) xs) (taken_from sight top own xs) top own
      (sight.has_some (low_of x) (high_of x)) (nat_lt top (high_of x)) (own && (low_of x == top && high_of x == top)) refl refl refl
      (λ q e. let more : top < high_of x = ltb-true top (high_of x) q in let same : high_of x ≡ high_of d = ap high_of e in absurd (omega arith))
      (λ q r e.
      let s = and_parts own (low_of x == top && high_of x == top) r in
      let u = and_parts (low_of x == top) (high_of x == top) s.1 in
      last s.0 (ap low_of (sym e) ∙ eqb-true (low_of x) top u.0))
      (λ p q.
      let more : top < high_of x = ltb-true top (high_of x) q in
      after (high_of x) (is_own x) xs (omega arith) (λ own_x e. absurd (omega arith)))
      (λ passed. after top own xs high_top last)
      at

  -- the last one that was taken, if it has a statement, and all that comes
  Last : ℕ → Bool → List Delta → Type 0
  Last top own ds = own ≡ true → (e : Delta) × (is_own e ≡ true) × (high_of e ≡ top) × AllByRecursion (Precedes e) ds

  last-tail : (top : ℕ) (own : Bool) (x : Delta) (xs : List Delta) → Last top own (x ∷ xs) → Last top own xs
  unfolding Last
  last-tail top own x xs h is = let l = h is in (l.0, l.1, l.2, l.3.1)

  not-last : (top : ℕ) (own : Bool) (x : Delta) (xs : List Delta) → Last top own (x ∷ xs) → x ≡ c → high_of x ≤ top → own ≡ true → low_of d ≡ top → ⊥
  unfolding Last
  not-last top own x xs h e top_over is at_top =
      let l = h is in
      let p : Precedes l.0 c = subst (Precedes l.0) e l.3.0 in
      let single : low_of l.0 ≡ high_of l.0 = own-single l.0 l.1 in
      let top_is : high_of l.0 ≡ top = l.2 in
      let below : low_of l.0 ≤ low_of c = p.0 in
      let c_top : high_of x ≡ high_of c = ap high_of e in
      let low_same : low_of l.0 ≡ low_of c = omega arith in
      let high_same : high_of l.0 ≡ high_of c = omega arith in
      true≢false (sym (p.2 low_same high_same l.1) ∙ wide)

  before : (top : ℕ) (own : Bool) (ds : List Delta) → Ordered ds → IsIn c ds → Last top own ds → Never (taken_from sight top own ds)
  unfolding Never Last
  before top own [] up c_at last at = absurd c_at
  before top own (x ∷ xs) up (inl e) last at =
      never-step x (taken_from sight (high_of x) (is_own x) xs) (taken_from sight top own xs) top own
      (sight.has_some (low_of x) (high_of x)) (nat_lt top (high_of x)) (own && (low_of x == top && high_of x == top)) refl refl refl
      (λ q f. apart (sym e ∙ f))
      (λ q r f. apart (sym e ∙ f))
      (λ p q. let s : high_of x ≡ high_of c = ap high_of e in
      after (high_of x) (is_own x) xs (omega arith) (λ own_x f. absurd (true≢false (sym own_x ∙ ap is_own e ∙ wide))))
      (λ passed. elim passed [
        | inl no_some ↦ absurd (true≢false (sym (ap (λ (y : Delta). sight.has_some (low_of y) (high_of y)) e ∙ some) ∙ no_some))
        | inr q ↦
            let top_over : high_of x ≤ top = ltb-false top (high_of x) q in
            let s : high_of x ≡ high_of c = ap high_of e in
            after top own xs (omega arith) (not-last top own x xs last e top_over)
      ])
      at
  before top own (x ∷ xs) up (inr c_at) last at =
      never-step x (taken_from sight (high_of x) (is_own x) xs) (taken_from sight top own xs) top own
      (sight.has_some (low_of x) (high_of x)) (nat_lt top (high_of x)) (own && (low_of x == top && high_of x == top)) refl refl refl
      (λ q e. wrong-order c d (subst (λ y. Precedes y c) e (all-in (Precedes x) xs c up.0 c_at)) wide apart under over)
      (λ q r e. wrong-order c d (subst (λ y. Precedes y c) e (all-in (Precedes x) xs c up.0 c_at)) wide apart under over)
      (λ p q. before (high_of x) (is_own x) xs up.1 c_at (λ own_x. (x, own_x, refl, up.0)))
      (λ passed. before top own xs up.1 c_at (last-tail top own x xs last))
      at

  pub never : (base : ℕ) (ds : List Delta) → Ordered ds → IsIn c ds → IsIn d (taken_from sight base false ds) → ⊥
  unfolding Never Last
  never base ds up c_at at = before base false ds up c_at (λ own. absurd (true≢false (sym own))) at

module _ {Found Record : Type 0} (events : Write Found → List Record) (id_of : Found → RowId) (most : ℕ) (sight : Sight) (past : Compaction → Type 0) (foreign : ℕ → Type 0)
    (writes : List (Write Found)) (jobs : List Compaction) (dirs : List Delta) (files : Delta → List Record)
    (base : ℕ)
    (ordered : Ordered dirs)
    (sound : IsSound id_of most writes jobs)
    (fits : Fits sight past foreign writes jobs)
    (stand : Stand past foreign jobs (λ d. flat_map events (filter (has_write d) writes)) dirs files)
    (greatest : (h : ℕ) → IsMadeBase jobs h → sight.may_base h ≡ true → h ≤ base)
    (d : Delta) (w : Write Found) (r : Record) (at : IsIn w writes) (has : IsIn r (events w)) (is : has_write d w ≡ true) (is_made : IsMade jobs d)
    (above : base < high_of d)
  where
    -- a standing directory that covers d and isn't d
    unfoldable pub Above : Type 0
    Above = (c : Delta) × IsIn c dirs × (is_own c ≡ false) × (low_of c ≤ low_of d) × (high_of d ≤ high_of c) × (rest most c < rest most d)

    Later : ℕ → Type 0
    Later n = (first last : ℕ) → IsMade jobs (Wide first last) → first ≤ low_of d → high_of d ≤ last → rest most (Wide first last) < n
        → rest most (Wide first last) < rest most d → Above

    up-from : (n : ℕ) → Later n → (c : Delta) → IsMade jobs c → low_of c ≤ low_of d → high_of d ≤ high_of c → rest most c < suc n → rest most c ≤ rest most d
        → (job : Compaction) → IsIn job jobs → past job → CoversDelta job c → Above
    unfolding Later
    up-from n later c made_c l h fuel within (Minor first last mark) listed gone covered =
        let m = sound.minors first last mark listed in
        let less : rest most (Wide first last) < rest most c = rest-less most first last mark c (names sound c made_c) m.1 m.2 covered in
        let a : first ≤ low_of c = covered.0 in
        let b : high_of c ≤ last = covered.1 in
        later first last (mark, listed) (omega arith) (omega arith) (omega arith) (omega arith)
    up-from n later c made_c l h fuel within (Major last mark) listed gone covered =
        let under : last ≤ base = greatest last (mark, listed) (fits.past_may (Major last mark) listed gone) in
        let b : high_of c ≤ last = covered in
        absurd (omega arith)

    in-wide : (first last : ℕ) → first ≤ low_of d → high_of d ≤ last → IsIn r (flat_map events (filter (has_write (Wide first last)) writes))
    in-wide first last l h =
        let p = within-from d w is in
        let a : low_of d ≤ w.write = p.0 in
        let b : w.write ≤ high_of d = p.1 in
        in-flat events w r (filter (has_write (Wide first last)) writes)
        (in-filter (has_write (Wide first last)) w writes at (has-wide first last w (omega arith) (omega arith))) has

    stands-or : (n : ℕ) → Later n
    unfolding Later Above
    stands-or zero first last made_c l h fuel less = absurd (omega arith)
    stands-or (suc n) first last made_c l h fuel less = elim (stand.each (Wide first last) r made_c (in-wide first last l h)) [
      | inr whole ↦ (Wide first last, whole.0, refl, l, h, less)
      | inl loose ↦ up-from n (stands-or n) (Wide first last) made_c l h (omega arith) (omega arith) loose.0 loose.1 loose.2 loose.3
    ]

    -- what is loose has one above it
    pub above-loose : IsLoose past jobs d → Above
    above-loose loose =
        up-from (rest most d) (stands-or (rest most d)) d is_made (omega arith) (omega arith) (omega arith) (omega arith) loose.0 loose.1 loose.2 loose.3

    pub not-chosen : IsLoose past jobs d → IsIn d (taken_from sight base false dirs) → ⊥
    unfolding Above
    not-chosen loose chosen =
        let t = is-taken sight base base false d dirs (omega arith) (λ e. absurd (true≢false (sym e))) chosen in
        let u = above-loose loose in
        let v = fits.some_valid (low_of d) (high_of d) t.some in
        let a : low_of d ≤ v.0 = v.1 in
        let b : v.0 ≤ high_of d = v.2 in
        let l : low_of u.0 ≤ low_of d = u.3 in
        let h : high_of d ≤ high_of u.0 = u.4 in
        let less : rest most u.0 < rest most d = u.5 in
        never sight u.0 d (name-fits most d (names sound d is_made)) u.2 (λ e. less-self (rest most d) (subst (λ x. rest most x < rest most d) e less)) l h
        (fits.some_from (low_of u.0) (high_of u.0) v.0 (omega arith) (omega arith) v.3)
        base dirs ordered u.1 chosen
      where
        less-self : (n : ℕ) → n < n → ⊥
        less-self n h = omega arith

-- what is chosen is made, with its own records alone, and reaches above the base
pub record IsChosen {Record : Type 0} (jobs : List Compaction) (made files : Delta → List Record) (base : ℕ) (d : Delta) : Type 0 where
  pub made_by : IsMade jobs d
  pub only : (r : Record) → IsIn r (files d) → IsIn r (made d)
  pub over : base < high_of d

module _ {Found Record : Type 0} (events : Write Found → List Record) (id_of : Found → RowId) (most : ℕ) (sight : Sight) (past : Compaction → Type 0) (foreign : ℕ → Type 0)
    (writes : List (Write Found)) (jobs : List Compaction) (dirs : List Delta) (files : Delta → List Record)
    (base : ℕ)
    (ordered : Ordered dirs)
    (sound : IsSound id_of most writes jobs)
    (fits : Fits sight past foreign writes jobs)
    (stand : Stand past foreign jobs (λ d. flat_map events (filter (has_write d) writes)) dirs files)
    (greatest : (h : ℕ) → IsMadeBase jobs h → sight.may_base h ≡ true → h ≤ base)
  where
    pub no-foreign : {A : Type 0} (d : Delta) → sight.has_some (low_of d) (high_of d) ≡ true → IsForeign foreign d → A
    no-foreign d some is =
        let s = fits.some_valid is.0 is.0 (ap (λ (e : Delta). sight.has_some (low_of e) (high_of e)) (sym is.2) ∙ some) in
        let a : is.0 ≤ s.0 = s.1 in
        let b : s.0 ≤ is.0 = s.2 in
        let one : s.0 ≡ is.0 = omega arith in
        absurd (true≢false (sym s.3 ∙ ap sight.valid one ∙ fits.unseen is.0 is.3))

    pub not-loose : (d : Delta) → IsIn d (taken_from sight base false dirs) → IsLoose past jobs d → ⊥
    not-loose d chosen loose =
        let t = is-taken sight base base false d dirs (omega arith) (λ e. absurd (true≢false (sym e))) chosen in
        elim (stand.only d t.stands) [
          | inr anything ↦ no-foreign d t.some anything
          | inl m ↦
              let s = from-flat events m.1.0 (filter (has_write d) writes) m.1.1 in
              let k = from-filter (has_write d) s.0 writes s.1 in
              not-chosen events id_of most sight past foreign writes jobs dirs files base ordered sound fits stand greatest
              d s.0 m.1.0 k.0 s.2 k.1 m.0 t.over loose chosen
        ]

    pub is-chosen : (d : Delta) → IsIn d (taken_from sight base false dirs) → IsChosen jobs (λ e. flat_map events (filter (has_write e) writes)) files base d
    is-chosen d chosen =
        let t = is-taken sight base base false d dirs (omega arith) (λ e. absurd (true≢false (sym e))) chosen in
        elim (stand.only d t.stands) [
          | inr anything ↦ no-foreign d t.some anything
          | inl m ↦ record {
            made_by = m.0;
            over = t.over;
            only = elim m.2 [
              | inr own ↦ own
              | inl loose ↦ absurd (not-loose d chosen loose)
            ];
          }
        ]
