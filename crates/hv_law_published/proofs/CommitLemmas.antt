-- What a commit does to the directories of one kind, and that no base gains a row by it.
use Rattle.std.proofs.Common.{refl, ◌≡◌, ◌⊎◌, inl, inr, ℕ, ◌<◌, ◌≤◌, ◌==◌, true, cond, nat_le, List, [], ◌∷◌, ◌++◌, filter, sym, ap, ◌∙◌, subst, arith, leb-true}
use Rattle.std.proofs.lemmas.Bool.{and_parts, cases_eq, eqb-true, lt-leb}
use Rattle.std.specs.List.{flat_map}
use Rattle.hv_base.specs.declared.ids.RowId.{RowId}
use Rattle.hv_dirs.specs.Choice.{Delta, Own, Wide}
use Rattle.hv_law_visible.specs.Members.{IsIn}
use Rattle.hv_law_visible.specs.History.{Write, Compaction, Minor, end_of, has_write, is_upto, rows_in, content_of, IsMade}
use Rattle.hv_law_visible.specs.Stands.{IsLoose, IsForeign, Stand}
use Rattle.hv_law_visible.proofs.MemberLemmas.{in-left, in-right, in-either, in-flat, from-flat, in-filter, from-filter}

-- ---- a commit of what one transaction wrote in the table

module _ {Found Record : Type 0} (events : Write Found → List Record) (past : Compaction → Type 0) (foreign foreign_now : ℕ → Type 0) (jobs : List Compaction)
    (writes more : List (Write Found)) (id : ℕ) (names : List Delta) (files : Delta → List Record)
    -- all of it is of one write id, which is above each job and is new
    (one : (w : Write Found) → IsIn w more → w.write ≡ id)
    (above : (job : Compaction) → IsIn job jobs → end_of job < id)
    (new : (w : Write Found) → IsIn w writes → w.write ≡ id → ⊥)
    (stay : (write : ℕ) → foreign write → (write ≡ id) ⊎ foreign_now write)
    -- its own directories hold it
    (put : (statement : ℕ) (r : Record) → IsIn r (flat_map events (filter (has_write (Own id statement)) more))
    → IsIn (Own id statement) names
    × ((s : Record) → IsIn s (flat_map events (filter (has_write (Own id statement)) more)) → IsIn s (files (Own id statement))))
    (put_only : (statement : ℕ) → IsIn (Own id statement) names
    → ((r : Record) × IsIn r (flat_map events (filter (has_write (Own id statement)) more)))
    × ((r : Record) → IsIn r (files (Own id statement)) → IsIn r (flat_map events (filter (has_write (Own id statement)) more))))
    (stand : Stand past foreign jobs (λ d. flat_map events (filter (has_write d) writes)) names files)
  where
    of : List (Write Found) → Delta → List Record
    of ws d = flat_map events (filter (has_write d) ws)

    part : (d : Delta) (r : Record) → IsIn r (of (writes ++ more) d) → IsIn r (of writes d) ⊎ IsIn r (of more d)
    unfolding of
    part d r at =
        let w = from-flat events r (filter (has_write d) (writes ++ more)) at in
        let k = from-filter (has_write d) w.0 (writes ++ more) w.1 in
        elim (in-either w.0 writes more k.0) [
          | inl old ↦ inl (in-flat events w.0 r (filter (has_write d) writes) (in-filter (has_write d) w.0 writes old k.1) w.2)
          | inr now ↦ inr (in-flat events w.0 r (filter (has_write d) more) (in-filter (has_write d) w.0 more now k.1) w.2)
        ]

    join : (d : Delta) (r : Record) → IsIn r (of writes d) ⊎ IsIn r (of more d) → IsIn r (of (writes ++ more) d)
    unfolding of
    join d r (inl at) =
        let w = from-flat events r (filter (has_write d) writes) at in
        let k = from-filter (has_write d) w.0 writes w.1 in
        in-flat events w.0 r (filter (has_write d) (writes ++ more)) (in-filter (has_write d) w.0 (writes ++ more) (in-left w.0 writes more k.0) k.1) w.2
    join d r (inr at) =
        let w = from-flat events r (filter (has_write d) more) at in
        let k = from-filter (has_write d) w.0 more w.1 in
        in-flat events w.0 r (filter (has_write d) (writes ++ more)) (in-filter (has_write d) w.0 (writes ++ more) (in-right w.0 writes more k.0) k.1) w.2

    has-id : (write statement : ℕ) (w : Write Found) → has_write (Own write statement) w ≡ true → w.write ≡ write
    has-id write statement w is = eqb-true w.write write (and_parts (w.write == write) (w.statement == statement) is).0

    -- an old directory of another id, or of a job, gains nothing
    none-own : (write statement : ℕ) → (write ≡ id → ⊥) → (r : Record) → IsIn r (of more (Own write statement)) → ⊥
    unfolding of
    none-own write statement other r at =
        let w = from-flat events r (filter (has_write (Own write statement)) more) at in
        let k = from-filter (has_write (Own write statement)) w.0 more w.1 in
        other (sym (has-id write statement w.0 k.1) ∙ one w.0 k.0)

    none-wide : (first last : ℕ) → IsMade jobs (Wide first last) → (r : Record) → IsIn r (of more (Wide first last)) → ⊥
    unfolding of
    none-wide first last is r at =
        let w = from-flat events r (filter (has_write (Wide first last)) more) at in
        let k = from-filter (has_write (Wide first last)) w.0 more w.1 in
        let e : w.0.write ≡ id = one w.0 k.0 in
        let under : w.0.write ≤ last = leb-true w.0.write last (and_parts (nat_le first w.0.write) (nat_le w.0.write last) k.1).1 in
        let over : last < id = above (Minor first last is.0) is.1 in
        omega arith

    none-old : (statement : ℕ) (r : Record) → IsIn r (of writes (Own id statement)) → ⊥
    unfolding of
    none-old statement r at =
        let w = from-flat events r (filter (has_write (Own id statement)) writes) at in
        let k = from-filter (has_write (Own id statement)) w.0 writes w.1 in
        new w.0 k.0 (has-id id statement w.0 k.1)

    Each : Delta → Type 0
    Each d = IsLoose past jobs d ⊎ (IsIn d names × ((s : Record) → IsIn s (of (writes ++ more) d) → IsIn s (files d)))

    each-old : (d : Delta) (r : Record) → IsMade jobs d → ((s : Record) → IsIn s (of more d) → ⊥) → IsIn r (of (writes ++ more) d) → Each d
    unfolding of Each part
    each-old d r is none at = elim (part d r at) [
      | inr now ↦ absurd (none r now)
      | inl old ↦ elim (stand.each d r is old) [
        | inl loose ↦ inl loose
        | inr whole ↦ inr (whole.0, λ s has. elim (part d s has) [ inl before ↦ whole.1 s before | inr now ↦ absurd (none s now) ])
      ]
    ]

    each-here : (statement : ℕ) (r : Record) → IsIn r (of (writes ++ more) (Own id statement)) → Each (Own id statement)
    unfolding of Each part
    each-here statement r at = elim (part (Own id statement) r at) [
      | inl old ↦ absurd (none-old statement r old)
      | inr now ↦
          let p = put statement r now in
          inr (p.0, λ s has. elim (part (Own id statement) s has) [ inl before ↦ absurd (none-old statement s before) | inr after ↦ p.1 s after ])
    ]

    each-now : (d : Delta) (r : Record) → IsMade jobs d → IsIn r (of (writes ++ more) d) → Each d
    each-now (Wide first last) r is at = each-old (Wide first last) r is (none-wide first last is) at
    each-now (Own write statement) r is at = elim (cases_eq write id) [
      | inl e ↦ subst (λ n. Each (Own n statement)) (sym e) (each-here statement r (subst (λ n. IsIn r (of (writes ++ more) (Own n statement))) e at))
      | inr other ↦ each-old (Own write statement) r is (none-own write statement other) at
    ]

    Only : Delta → Type 0
    Only d =
        (IsMade jobs d × ((r : Record) × IsIn r (of (writes ++ more) d)) × (IsLoose past jobs d ⊎ ((r : Record) → IsIn r (files d) → IsIn r (of (writes ++ more) d))))
        ⊎ IsForeign foreign_now d

    only-foreign : (d : Delta) (write statement : ℕ) → d ≡ Own write statement → IsIn d names → (write ≡ id) ⊎ foreign_now write → Only d
    unfolding of Only join
    only-foreign d write statement e at (inr is) = inr (write, statement, e, is)
    only-foreign d write statement e at (inl same) =
        let f : d ≡ Own id statement = e ∙ ap (λ n. Own n statement) same in
        let p = put_only statement (subst (λ x. IsIn x names) f at) in
        subst Only (sym f) (inl (tt, (p.0.0, join (Own id statement) p.0.0 (inr p.0.1)), inr (λ r has. join (Own id statement) r (inr (p.1 r has)))))

    only-now : (d : Delta) → IsIn d names → Only d
    unfolding of Only join
    only-now d at = elim (stand.only d at) [
      | inl m ↦ inl (m.0, (m.1.0, join d m.1.0 (inl m.1.1)), elim m.2 [ inl gone ↦ inl gone | inr own ↦ inr (λ r has. join d r (inl (own r has))) ])
      | inr is ↦ only-foreign d is.0 is.1 is.2 at (stay is.0 is.3)
    ]

    pub committed : Stand past foreign_now jobs (λ d. flat_map events (filter (has_write d) (writes ++ more))) names files
    unfolding of Each Only
    committed = record { each = each-now; only = only-now }

-- a base keeps its records
base-kept : {Found : Type 0} (base : ℕ) (writes more : List (Write Found)) → ((w : Write Found) → IsIn w more → base < w.write)
    → filter (is_upto base) (writes ++ more) ≡ filter (is_upto base) writes
base-kept base [] [] above = refl
base-kept base [] (w ∷ more) above =
    (λ i. cond (lt-leb w.write base (above w (inl refl)) i) (w ∷ filter (is_upto base) more) (filter (is_upto base) more))
    ∙ base-kept base [] more (λ v at. above v (inr at))
base-kept base (w ∷ writes) more above =
    λ i. cond (nat_le w.write base) (w ∷ base-kept base writes more above i) (base-kept base writes more above i)

pub rows-kept : {Found : Type 0} (id_of : Found → RowId) (base : ℕ) (writes more : List (Write Found))
    → ((w : Write Found) → IsIn w more → base < w.write) → rows_in id_of (writes ++ more) base ≡ rows_in id_of writes base
rows-kept id_of base writes more above = ap (content_of id_of) (base-kept base writes more above)
