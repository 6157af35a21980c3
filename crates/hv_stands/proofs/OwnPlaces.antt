-- Whether a place is in an own directory of a write id is decided.
use Rattle.std.proofs.Common.{refl, ◌≡◌, ℕ, zero, suc, ◌+◌, ◌*◌, ◌/◌, ◌%◌, ◌<◌, ◌==◌, ◌⊎◌, inl, inr, nat_eq, nat_lt, Bool, true, false, List, [], ◌∷◌, ◌++◌, codes, sym, ap, ◌∙◌, arith, ltb-true, ltb-false, eqb-true, eq-eqb}
use Rattle.std.specs.Cmp.Lexicographic.{pointwise, bytes_decides}
use Rattle.hv_table.specs.Decimal.{fixed_digits}
use Rattle.hv_table.proofs.DecimalLemmas.{fixed_digits-more}
use Rattle.hv_dirs.specs.Names.{own_name, kind_mark}
use Rattle.hv_shelf.specs.declared.place.Place.{Place}
use Rattle.hv_stands.specs.Files.{own_dir}
use Rattle.hv_stands.specs.Running.{IsOfId}
use Rattle.hv_stands.proofs.Numbers.{either}

-- ---- a name shows the last digits of a number alone

-- so many numbers have names of this width
bound : ℕ → ℕ
bound zero = 1
bound (suc width) = bound width * 10

record IsShort (width number : ℕ) : Type 0 where
  short : ℕ
  less : short < bound width
  same : fixed_digits width short ≡ fixed_digits width number

shortened : (width number : ℕ) → IsShort width number
unfolding bound fixed_digits
shortened zero number = record { short = 0; less = omega arith; same = refl }
shortened (suc width) number =
    let front = shortened width (number / 10) in
    let digit : number % 10 < 10 = omega arith in
    record {
      short = front.short * 10 + number % 10;
      less = omega (arith, front.less, digit);
      same = fixed_digits-more width front.short (number % 10) digit ∙ ap (λ (ds : List ℕ). ds ++ (48 + number % 10) ∷ []) front.same;
    }

short-dir : (deletes : Bool) (write statement : ℕ) → own_dir deletes write (shortened 4 statement).short ≡ own_dir deletes write statement
unfolding own_name
short-dir deletes write statement =
    ap (λ (digits : List ℕ). kind_mark deletes ++ (codes "delta_" ++ fixed_digits 7 write ++ codes "_" ++ fixed_digits 7 write ++ codes "_" ++ digits))
    (shortened 4 statement).same

-- ---- a search below a bound

record IsFound (test : ℕ → Bool) : Type 0 where
  at : ℕ
  holds : test at ≡ true

searched : (test : ℕ → Bool) (most : ℕ) → IsFound test ⊎ ((n : ℕ) → n < most → test n ≡ false)
searched test zero = inr (λ n less. absurd (omega (arith, less)))
searched test (suc most) = by (searched test most) (either (test most))
  where
    by : IsFound test ⊎ ((n : ℕ) → n < most → test n ≡ false) → (test most ≡ true) ⊎ (test most ≡ false) → IsFound test ⊎ ((n : ℕ) → n < suc most → test n ≡ false)
    by (inl found) last = inl found
    by (inr none) (inl holds) = inl (record { at = most; holds = holds })
    by (inr none) (inr fails) = inr (λ n less. or n less (either (nat_lt n most)))
      where
        or : (n : ℕ) → n < suc most → (nat_lt n most ≡ true) ⊎ (nat_lt n most ≡ false) → test n ≡ false
        or n less (inl is) = none n (ltb-true n most is)
        or n less (inr not_less) =
            let last : n ≡ most = omega (arith, less, ltb-false n most not_less) in
            ap test last ∙ fails

-- ---- the directories of a write id

is_dir : Bool → ℕ → List ℕ → ℕ → Bool
is_dir deletes write dir statement = pointwise nat_eq (own_dir deletes write statement) dir

-- one of a kind
record IsOfKind (deletes : Bool) (write : ℕ) (dir : List ℕ) : Type 0 where
  statement : ℕ
  is : dir ≡ own_dir deletes write statement

kind-decided : (deletes : Bool) (write : ℕ) (dir : List ℕ) → IsOfKind deletes write dir ⊎ (IsOfKind deletes write dir → ⊥)
unfolding is_dir
kind-decided deletes write dir = by (searched (is_dir deletes write dir) (bound 4))
  where
    by : IsFound (is_dir deletes write dir) ⊎ ((n : ℕ) → n < bound 4 → is_dir deletes write dir n ≡ false) → IsOfKind deletes write dir ⊎ (IsOfKind deletes write dir → ⊥)
    by (inl found) = inl (record { statement = found.at; is = sym ((bytes_decides (own_dir deletes write found.at) dir).0 found.holds) })
    by (inr none) = inr (λ of.
        let short = shortened 4 of.statement in
        let holds : is_dir deletes write dir short.short ≡ true =
        (bytes_decides (own_dir deletes write short.short) dir).1 (short-dir deletes write of.statement ∙ sym of.is) in
        let never : true ≡ false = sym holds ∙ none short.short short.less in cc)

pub of-id-decided : (table write : ℕ) (place : Place) → IsOfId table write place ⊎ (IsOfId table write place → ⊥)
of-id-decided table write place = by (either (place.table.0 == table)) (kind-decided false write place.dir) (kind-decided true write place.dir)
  where
    by : (place.table.0 == table ≡ true) ⊎ (place.table.0 == table ≡ false)
        → IsOfKind false write place.dir ⊎ (IsOfKind false write place.dir → ⊥) → IsOfKind true write place.dir ⊎ (IsOfKind true write place.dir → ⊥)
        → IsOfId table write place ⊎ (IsOfId table write place → ⊥)
    by (inl same) (inl of) second = inl (record { table_is = eqb-true place.table.0 table same; deletes = false; statement = of.statement; dir = of.is })
    by (inl same) (inr none) (inl of) = inl (record { table_is = eqb-true place.table.0 table same; deletes = true; statement = of.statement; dir = of.is })
    by (inl same) (inr none) (inr never) = inr (λ of. neither of.deletes (record { statement = of.statement; is = of.dir }))
      where
        neither : (deletes : Bool) → IsOfKind deletes write place.dir → ⊥
        neither false of = none of
        neither true of = never of
    by (inr apart) first second = inr (λ of. let never : true ≡ false = sym (eq-eqb place.table.0 table of.table_is) ∙ apart in cc)
