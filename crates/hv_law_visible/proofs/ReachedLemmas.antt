-- The records of a directory that the history makes, and that reaches above the base, are read.
use Rattle.std.proofs.Common.{refl, ◌≡◌, ◌≢◌, ◌⊎◌, inl, inr, ℕ, zero, suc, ◌+◌, ◌-◌, ◌<◌, ◌≤◌, ◌==◌, max, Bool, true, false, cond, nat_le, List, [], ◌∷◌, filter, sym, ap, ◌∙◌, subst, arith, eq-eqb, leb-true, le-leb, true≢false}
use Rattle.std.proofs.lemmas.Bool.{and_parts, and_from, cases_Bool, cases_lt}
use Rattle.std.specs.List.{flat_map}
use Rattle.hv_base.specs.declared.ids.RowId.{RowId}
use Rattle.hv_law_visible.specs.Members.{IsIn}
use Rattle.hv_dirs.specs.Choice.{Sight, Delta, Own, Wide, low_of, high_of, is_own, base_of, taken_from}
use Rattle.hv_law_visible.specs.History.{Write, Compaction, Minor, Major, CoversDelta, has_write, IsMade, IsMadeBase}
use Rattle.hv_law_visible.specs.Stands.{IsSound, Fits, Stand}
use Rattle.hv_law_visible.proofs.MemberLemmas.{in-flat, in-filter}
use Rattle.hv_law_visible.proofs.TakenLemmas.{Ordered, Covers, covers, is-taken}

-- ---- the greatest base

base-in-cond : (sight : Sight) (b : Bool) (h x most : ℕ) → (x ≡ h → b ≡ true) → (x ≡ h) ⊎ (h ≤ most) → h ≤ cond b (max x most) most
base-in-cond sight true h x most is (inl e) = omega arith
base-in-cond sight true h x most is (inr less) = omega arith
base-in-cond sight false h x most is (inl e) = absurd (true≢false (sym (is e)))
base-in-cond sight false h x most is (inr less) = less

pub base-most : (sight : Sight) (h : ℕ) (bases : List ℕ) → IsIn h bases → sight.may_base h ≡ true → h ≤ base_of sight bases
base-most sight h [] at may = absurd at
base-most sight h (x ∷ bases) (inl e) may =
    base-in-cond sight (sight.may_base x) h x (base_of sight bases) (λ f. ap sight.may_base e ∙ may) (inl e)
base-most sight h (x ∷ bases) (inr at) may =
    base-in-cond sight (sight.may_base x) h x (base_of sight bases) (λ f. ap sight.may_base f ∙ may) (inr (base-most sight h bases at may))

pub record IsBase (sight : Sight) (base : ℕ) (bases : List ℕ) : Type 0 where
  pub stands : IsIn base bases
  pub may : sight.may_base base ≡ true

base-is-more : (sight : Sight) (base x : ℕ) (bases : List ℕ) → IsBase sight base bases → IsBase sight base (x ∷ bases)
base-is-more sight base x bases is = record { stands = inr is.stands; may = is.may }

base-is-cond : (sight : Sight) (b : Bool) (x most : ℕ) (bases : List ℕ) → sight.may_base x ≡ b → (most ≡ 0) ⊎ IsBase sight most bases
    → (cond b (max x most) most ≡ 0) ⊎ IsBase sight (cond b (max x most) most) (x ∷ bases)
base-is-cond sight false x most bases may (inl e) = inl e
base-is-cond sight false x most bases may (inr is) = inr (base-is-more sight most x bases is)
base-is-cond sight true x most bases may later = elim (cases_lt x most) [
  | inl less ↦ let e : most ≡ max x most = omega arith in
      subst (λ n. (n ≡ 0) ⊎ IsBase sight n (x ∷ bases)) e
      (elim later as (λ _. (most ≡ 0) ⊎ IsBase sight most (x ∷ bases)) [ inl none ↦ inl none | inr is ↦ inr (base-is-more sight most x bases is) ])
  | inr more ↦ let e : x ≡ max x most = omega arith in
      subst (λ n. (n ≡ 0) ⊎ IsBase sight n (x ∷ bases)) e (inr (record { stands = inl refl; may = may }))
]

pub base-is : (sight : Sight) (bases : List ℕ) → (base_of sight bases ≡ 0) ⊎ IsBase sight (base_of sight bases) bases
base-is sight [] = inl refl
base-is sight (x ∷ bases) = base-is-cond sight (sight.may_base x) x (base_of sight bases) bases refl (base-is sight bases)

-- ---- what is left to cover a directory: less for each that covers it

-- a name that is one of the profile's, up to the greatest id
pub IsName : ℕ → Delta → Type 0
IsName most (Own write statement) = Unit {0}
IsName most (Wide first last) = (first ≤ last) × (last ≤ most)

pub rest : ℕ → Delta → ℕ
rest most (Own write statement) = suc (suc (most + most))
rest most (Wide first last) = suc (most + ((most - last) + first))

apart : (a b c d : ℕ) → (Wide a b ≢ Wide c d) → a ≡ c → b ≡ d → ⊥
apart a b c d other e f = other (λ i. Wide (e i) (f i))

pub rest-less : (most first last mark : ℕ) (d : Delta) → IsName most d → first ≤ last → last ≤ most → CoversDelta (Minor first last mark) d
    → rest most (Wide first last) < rest most d
unfolding rest IsName
rest-less most first last mark (Own write statement) name fits within covered = omega arith
rest-less most first last mark (Wide a b) name fits within covered =
    elim (cases_lt first a) [
      | inl less ↦ let l : b ≤ last = covered.1 in let n : a ≤ b = name.0 in omega arith
      | inr more ↦ let f : first ≤ a = covered.0 in let l : b ≤ last = covered.1 in let n : a ≤ b = name.0 in
          elim (cases_lt b last) [
            | inl less ↦ omega arith
            | inr same ↦ absurd (apart a b first last covered.2 (omega arith) (omega arith))
          ]
    ]

rest-within : (most : ℕ) (c d : Delta) → IsName most c → IsName most d → is_own c ≡ false → low_of c ≤ low_of d → high_of d ≤ high_of c → low_of d ≤ high_of d
    → rest most c ≤ rest most d
unfolding rest IsName
rest-within most (Own w s) d named name wide under over fits = absurd (true≢false wide)
rest-within most (Wide a b) (Own w s) named name wide under over fits = let x : a ≤ b = named.0 in let y : b ≤ most = named.1 in omega arith
rest-within most (Wide a b) (Wide e f) named name wide under over fits = let x : b ≤ most = named.1 in omega arith

pub rest-some : (most : ℕ) (d : Delta) → 1 ≤ rest most d
unfolding rest
rest-some most (Own w s) = omega arith
rest-some most (Wide a b) = omega arith

pub own-id : (write statement : ℕ) (d : Delta) → d ≡ Own write statement → is_own d ≡ true
own-id write statement d e = ap is_own e

-- ---- the ids of a delta

pub within-from : {Found : Type 0} (d : Delta) (w : Write Found) → has_write d w ≡ true → (low_of d ≤ w.write) × (w.write ≤ high_of d)
within-from (Own write statement) w is =
    let e : w.write ≡ write = Rattle.std.proofs.lemmas.Bool.eqb-true w.write write (and_parts (w.write == write) (w.statement == statement) is).0 in
    (omega arith, omega arith)
within-from (Wide first last) w is =
    let p = and_parts (nat_le first w.write) (nat_le w.write last) is in
    (leb-true first w.write p.0, leb-true w.write last p.1)

pub has-own : {Found : Type 0} (w : Write Found) → has_write (Own w.write w.statement) w ≡ true
has-own w = and_from _ _ (eq-eqb w.write w.write refl) (eq-eqb w.statement w.statement refl)

pub has-wide : {Found : Type 0} (first last : ℕ) (w : Write Found) → first ≤ w.write → w.write ≤ last → has_write (Wide first last) w ≡ true
has-wide first last w a b = and_from _ _ (le-leb first w.write a) (le-leb w.write last b)

pub names : {Found : Type 0} {id_of : Found → RowId} {most : ℕ} {writes : List (Write Found)} {jobs : List Compaction} → IsSound id_of most writes jobs
    → (d : Delta) → IsMade jobs d → IsName most d
unfolding IsName
names sound (Own write statement) made = tt
names sound (Wide first last) made = let m = sound.minors first last made.0 made.1 in (m.1, m.2)

pub name-fits : (most : ℕ) (d : Delta) → IsName most d → low_of d ≤ high_of d
unfolding IsName
name-fits most (Own w s) name = omega arith
name-fits most (Wide a b) name = name.0

module _ {Found Record : Type 0} (events : Write Found → List Record) (id_of : Found → RowId) (most : ℕ) (sight : Sight) (past : Compaction → Type 0) (foreign : ℕ → Type 0)
    (writes : List (Write Found)) (jobs : List Compaction) (dirs : List Delta) (files : Delta → List Record)
    (base : ℕ)
    (ordered : Ordered dirs)
    (sound : IsSound id_of most writes jobs)
    (fits : Fits sight past foreign writes jobs)
    (stand : Stand past foreign jobs (λ d. flat_map events (filter (has_write d) writes)) dirs files)
    (greatest : (h : ℕ) → IsMadeBase jobs h → sight.may_base h ≡ true → h ≤ base)
  where
    made : Delta → List Record
    made d = flat_map events (filter (has_write d) writes)

    module _ (w : Write Found) (r : Record) (at : IsIn w writes) (has : IsIn r (events w)) (valid : sight.valid w.write ≡ true) where
      in-made : (d : Delta) → has_write d w ≡ true → IsIn r (made d)
      unfolding made
      in-made d is = in-flat events w r (filter (has_write d) writes) (in-filter (has_write d) w writes at is) has

      some-of : (d : Delta) → has_write d w ≡ true → sight.has_some (low_of d) (high_of d) ≡ true
      some-of d is = let p = within-from d w is in fits.some_from (low_of d) (high_of d) w.write p.0 p.1 valid

      Read : Type 0
      Read = (c : Delta) × IsIn c (taken_from sight base false dirs) × IsIn r (files c)

      Later : ℕ → Type 0
      Later n = (d : Delta) → rest most d ≤ n → IsMade jobs d → has_write d w ≡ true → base < high_of d → Read

      -- a directory that may be gone: what covers it has the record too
      climb : (n : ℕ) → Later n → (d : Delta) → rest most d ≤ suc n → IsName most d → has_write d w ≡ true → base < high_of d
          → (job : Compaction) → IsIn job jobs → past job → CoversDelta job d → Read
      unfolding Later
      climb n later d fuel name is over (Minor first last mark) listed gone covered =
          let m = sound.minors first last mark listed in
          let p = within-from d w is in
          let less : rest most (Wide first last) < rest most d = rest-less most first last mark d name m.1 m.2 covered in
          let a : first ≤ low_of d = covered.0 in
          let b : high_of d ≤ last = covered.1 in
          let l : low_of d ≤ w.write = p.0 in
          let h : w.write ≤ high_of d = p.1 in
          later (Wide first last) (omega arith) (mark, listed) (has-wide first last w (omega arith) (omega arith)) (omega arith)
      climb n later d fuel name is over (Major last mark) listed gone covered =
          let under : last ≤ base = greatest last (mark, listed) (fits.past_may (Major last mark) listed gone) in
          let b : high_of d ≤ last = covered in
          absurd (omega arith)

      reach : (n : ℕ) → Later n → (d : Delta) → rest most d ≤ suc n → IsMade jobs d → has_write d w ≡ true → base < high_of d
          → IsIn d dirs → ((s : Record) → IsIn s (made d) → IsIn s (files d)) → (c : Delta) → IsIn c (taken_from sight base false dirs) → Covers c d → Read
      unfolding Read made
      reach n later d fuel is_made is over stands whole c chosen (inl same) = (c, chosen, subst (λ x. IsIn r (files x)) (sym same) (whole r (in-made d is)))
      reach n later d fuel is_made is over stands whole c chosen (inr wide) =
          let t = is-taken sight base base false c dirs (omega arith) (λ e. absurd (true≢false (sym e))) chosen in
          let p = within-from d w is in
          let lower : low_of c ≤ low_of d = wide.1 in
          let upper : high_of d ≤ high_of c = wide.2 in
          let l : low_of d ≤ w.write = p.0 in
          let h : w.write ≤ high_of d = p.1 in
          let has_c : has_write c w ≡ true = wide-has c w wide.0 (omega arith) (omega arith) in
          elim (stand.only c t.stands) [
            | inr foreign ↦ absurd (true≢false (sym (own-id foreign.0 foreign.1 c foreign.2) ∙ wide.0))
            | inl made_c ↦ elim (stand.each c r made_c.0 (in-made c has_c)) [
              | inr whole_c ↦ (c, chosen, whole_c.1 r (in-made c has_c))
              | inl loose ↦
                  let name_c = names sound c made_c.0 in
                  let name_d = names sound d is_made in
                  let less : rest most c ≤ rest most d = rest-within most c d name_c name_d wide.0 wide.1 wide.2 (name-fits most d name_d) in
                  climb n later c (omega arith) name_c has_c (omega arith) loose.0 loose.1 loose.2 loose.3
            ]
          ]
        where
          wide-has : (e : Delta) (v : Write Found) → is_own e ≡ false → low_of e ≤ v.write → v.write ≤ high_of e → has_write e v ≡ true
          wide-has (Own a b) v own x y = absurd (true≢false own)
          wide-has (Wide a b) v own x y = has-wide a b v x y

      complete : (n : ℕ) → Later n
      unfolding Later made
      complete zero d fuel is_made is over = let some : 1 ≤ rest most d = rest-some most d in absurd (omega arith)
      complete (suc n) d fuel is_made is over =
          let name = names sound d is_made in
          elim (stand.each d r is_made (in-made d is)) [
            | inl loose ↦ climb n (complete n) d fuel name is over loose.0 loose.1 loose.2 loose.3
            | inr whole ↦
                let c = covers sight base false d dirs ordered whole.0 (name-fits most d name) over (some-of d is) in
                reach n (complete n) d fuel is_made is over whole.0 whole.1 c.0 c.1 c.2
          ]

      -- the record of a directory that is made and reaches above the base stands in one that is chosen
      pub read : (d : Delta) → IsMade jobs d → has_write d w ≡ true → base < high_of d → (c : Delta) × IsIn c (taken_from sight base false dirs) × IsIn r (files c)
      unfolding Read Later
      read d is_made is over = complete (rest most d) d (omega arith) is_made is over
