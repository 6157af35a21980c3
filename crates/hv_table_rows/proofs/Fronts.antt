-- Fronts of a file's records, and what a file is that has nothing amiss.
use Rattle.std.proofs.Common.{◌≡◌, ◌+◌, ◌==◌, ℕ, zero, suc, Bool, true, false, cond, Option, Some, None, List, [], ◌∷◌, ◌&&◌, ◌≤◌, length, take, nat_lt, refl, sym, ap, ◌∙◌, arith, eqb-true}
use Rattle.std.specs.List.{AllByRecursion}
use Rattle.std.specs.Prelude.{nat_le}
use Rattle.std.proofs.lemmas.Bool.{and_parts}
use Rattle.std.proofs.lemmas.Bool.Decides.{nat_tests}
use Rattle.hv_base.specs.declared.ids.RowId.{RowId}
use Rattle.hv_rowfile.specs.declared.record.Rec.{Rec}
use Rattle.hv_rowfile.specs.Layout.{RecIsTaken, RisesFrom, CanWrite, id_of, file_spelling}
use Rattle.hv_choosing.specs.declared.dir.Span.{Span}
use Rattle.hv_table_rows.specs.Amiss.{writer_of, is_within, IsWithin, own_count, is_kind, first_other, first_amiss}

each-front : (deletes : Bool) (bucket n : ℕ) (recs : List Rec) → AllByRecursion (RecIsTaken deletes bucket) recs → AllByRecursion (RecIsTaken deletes bucket) (take n recs)
each-front deletes bucket zero recs each = tt
each-front deletes bucket (suc n) [] each = tt
each-front deletes bucket (suc n) (r ∷ recs) each = (each.0, each-front deletes bucket n recs each.1)

rises-front : (before : Option RowId) (n : ℕ) (recs : List Rec) → RisesFrom before recs → RisesFrom before (take n recs)
rises-front before zero recs up = tt
rises-front before (suc n) [] up = tt
rises-front before (suc n) (r ∷ recs) up = (up.0, rises-front (Some (id_of r)) n recs up.1)

pub can-front : (deletes : Bool) (bucket n : ℕ) (recs : List Rec) → CanWrite deletes bucket recs → CanWrite deletes bucket (take n recs)
can-front deletes bucket n recs can = record { each = each-front deletes bucket n recs can.each; rising = rises-front None n recs can.rising }

-- ---- nothing is amiss

same-number : (n : ℕ) → (n == n) ≡ true
same-number n = grind (arith, nat_tests)

kind-same : (kind : Bool) → is_kind kind kind ≡ true
kind-same true = refl
kind-same false = refl

same-kind : (kind other : Bool) → is_kind kind other ≡ true → kind ≡ other
same-kind true true e = refl
same-kind true false e = cc
same-kind false true e = cc
same-kind false false e = refl

less-more : (n m : ℕ) → nat_lt (1 + n) (suc m) ≡ nat_lt n m
less-more n m = by (nat_lt n m) refl
  where
    by : (b : Bool) → nat_lt n m ≡ b → nat_lt (1 + n) (suc m) ≡ b
    by true e = grind (arith, nat_tests, e)
    by false e = grind (arith, nat_tests, e)

le-true : (n m : ℕ) → nat_le n m ≡ true → n ≤ m
le-true n m e = grind (arith, nat_tests, e)

true-le : (n m : ℕ) → n ≤ m → nat_le n m ≡ true
true-le n m h = grind (arith, nat_tests, h)

within-true : (span : Span) (r : Rec) → is_within span r ≡ true → IsWithin span r
within-true span r e =
    let both = and_parts (nat_le span.low (writer_of r)) (nat_le (writer_of r) span.high) e in
    (le-true span.low (writer_of r) both.0, le-true (writer_of r) span.high both.1)

true-within : (span : Span) (r : Rec) → IsWithin span r → is_within span r ≡ true
true-within span r is = λ i. true-le span.low (writer_of r) is.0 i && true-le (writer_of r) span.high is.1 i

all-within : (span : Span) (recs : List Rec) → nat_lt (own_count span recs) (length recs) ≡ false → AllByRecursion (IsWithin span) recs
all-within span [] e = tt
all-within span (r ∷ recs) e =
    by (is_within span r) refl e (λ rest. all-within span recs rest)
  where
    by : (b : Bool) → is_within span r ≡ b → nat_lt (cond b (1 + own_count span recs) 0) (length (r ∷ recs)) ≡ false
        → (nat_lt (own_count span recs) (length recs) ≡ false → AllByRecursion (IsWithin span) recs) → AllByRecursion (IsWithin span) (r ∷ recs)
    by true is e rest = (within-true span r is, rest (sym (less-more (own_count span recs) (length recs)) ∙ e))
    by false is e rest = let some : nat_lt 0 (suc (length recs)) ≡ true = grind (arith, nat_tests) in let never : true ≡ false = sym some ∙ e in cc

within-none : (span : Span) (recs : List Rec) → AllByRecursion (IsWithin span) recs → nat_lt (own_count span recs) (length recs) ≡ false
within-none span [] all = refl
within-none span (r ∷ recs) all =
    ap (λ b. nat_lt (cond b (1 + own_count span recs) 0) (length (r ∷ recs))) (true-within span r all.0)
    ∙ less-more (own_count span recs) (length recs) ∙ within-none span recs all.1

pub own-none : (deletes : Bool) (bucket : ℕ) (span : Span) (recs : List Rec) → AllByRecursion (IsWithin span) recs → first_amiss deletes bucket span deletes bucket recs ≡ None
unfolding first_amiss
own-none deletes bucket span recs all =
    ap (λ b. cond b (cond (bucket == bucket) (first_other deletes bucket span recs) (Some 5)) (Some 4)) (kind-same deletes)
    ∙ ap (λ b. cond b (first_other deletes bucket span recs) (Some 5)) (same-number bucket)
    ∙ ap (λ b. cond b (Some (length (file_spelling deletes bucket (take (own_count span recs) recs)))) None) (within-none span recs all)

-- with nothing amiss the file is that of the kind, the bucket and the span id
pub none-amiss : (deletes : Bool) (bucket : ℕ) (span : Span) (kind : Bool) (other : ℕ) (recs : List Rec) → first_amiss deletes bucket span kind other recs ≡ None
    → (deletes ≡ kind) × (other ≡ bucket) × AllByRecursion (IsWithin span) recs
unfolding first_amiss
none-amiss deletes bucket span kind other recs none = by-kind (is_kind deletes kind) refl none
  where
    by-own : (b : Bool) → nat_lt (own_count span recs) (length recs) ≡ b
        → cond b (Some (length (file_spelling kind other (take (own_count span recs) recs)))) None ≡ None → AllByRecursion (IsWithin span) recs
    by-own true is e = cc
    by-own false is e = all-within span recs is

    by-bucket : (b : Bool) → (other == bucket) ≡ b → cond b (first_other kind other span recs) (Some 5) ≡ None → (other ≡ bucket) × AllByRecursion (IsWithin span) recs
    by-bucket true is e = (eqb-true other bucket is, by-own (nat_lt (own_count span recs) (length recs)) refl e)
    by-bucket false is e = cc

    by-kind : (b : Bool) → is_kind deletes kind ≡ b → cond b (cond (other == bucket) (first_other kind other span recs) (Some 5)) (Some 4) ≡ None
        → (deletes ≡ kind) × (other ≡ bucket) × AllByRecursion (IsWithin span) recs
    by-kind true is e = let rest = by-bucket (other == bucket) refl e in (same-kind deletes kind is, rest.0, rest.1)
    by-kind false is e = cc
