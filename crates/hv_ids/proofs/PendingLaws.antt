-- Ids by table: where one is put, and which are those of one table.
use Rattle.std.proofs.Common.{◌≡◌, ℕ, zero, suc, ◌-◌, ◌≤◌, true, false, List, [], ◌∷◌, length, filter, take, drop, refl, sym, ap, ◌∙◌, arith}
use Rattle.std.specs.Prelude.{if◌then◌else◌, nat_le, nat_lt}
use Rattle.std.specs.List.{insert, AllWithin}
use Rattle.std.specs.List.Sorted.{IsPartitionPoint}
use Rattle.std.proofs.lemmas.Bool.{leb-true, leb-false, ltb-true, ltb-false, eq-eqb, ne_eqb}
use Rattle.std.proofs.lemmas.List.{take_all, length-drop}
use Rattle.hv_ids.specs.declared.notes.IdNote.{IdNote}
use Rattle.hv_ids.specs.Ids.{is_in, put_next, put_id}

abbrev pub IsUpTo : ℕ → List IdNote → ℕ → Type 0
IsUpTo table = IsPartitionPoint (λ (id : IdNote). nat_le id.table table ≡ true) (λ (id : IdNote). nat_le id.table table ≡ false)

abbrev pub IsBelow : ℕ → List IdNote → ℕ → Type 0
IsBelow table = IsPartitionPoint (λ (id : IdNote). nat_lt id.table table ≡ true) (λ (id : IdNote). nat_lt id.table table ≡ false)

-- ---- one more

pub put-insert : (id : IdNote) (xs : List IdNote) (i : ℕ) → i ≤ length xs → IsUpTo id.table xs i → insert xs i id ≡ put_id id xs
put-insert id [] zero le point = refl
put-insert id [] (suc i) le point = absurd (omega (arith, le))
put-insert id (x ∷ xs) zero le point = ap (λ b. put_next b id x xs (put_id id xs)) (sym (point.1 0 x (omega arith) (omega arith)))
put-insert id (x ∷ xs) (suc i) le point =
    let rest = put-insert id xs i (omega (arith, le))
    (λ k d low high. point.0 (suc k) d (omega arith) (omega (arith, high)), λ k d low high. point.1 (suc k) d (omega (arith, low)) (omega (arith, high)))
    in
    ap (λ ys. x ∷ ys) rest ∙ ap (λ b. put_next b id x xs (put_id id xs)) (sym (point.0 0 x (omega arith) (omega arith)))

-- ---- those of one table

none-of : (table : ℕ) (xs : List IdNote) → AllWithin (λ (id : IdNote). nat_le id.table table ≡ false) xs 0 (length xs) → filter (is_in table) xs ≡ []
none-of table [] above = refl
none-of table (x ∷ xs) above =
    let first = leb-false x.table table (above 0 x (omega arith) (omega arith)) in
    let rest = none-of table xs (λ k d low high. above (suc k) d (omega arith) (omega (arith, high))) in
    ap (λ b. if b then x ∷ filter (is_in table) xs else filter (is_in table) xs) (ne_eqb x.table table (λ e. absurd (omega (arith, e, first)))) ∙ rest

-- where none is of a lower table
front-of : (table : ℕ) (xs : List IdNote) (high : ℕ) → high ≤ length xs → AllWithin (λ (id : IdNote). nat_lt id.table table ≡ false) xs 0 (length xs) → IsUpTo table xs high
    → take high xs ≡ filter (is_in table) xs
front-of table [] zero b from upto = refl
front-of table [] (suc high) b from upto = absurd (omega (arith, b))
front-of table (x ∷ xs) zero b from upto = sym (none-of table (x ∷ xs) upto.1)
front-of table (x ∷ xs) (suc high) b from upto =
    let least = ltb-false x.table table (from 0 x (omega arith) (omega arith)) in
    let most = leb-true x.table table (upto.0 0 x (omega arith) (omega arith)) in
    let rest = front-of table xs high (omega (arith, b)) (λ k d low up. from (suc k) d (omega arith) (omega (arith, up)))
    (λ k d low up. upto.0 (suc k) d (omega arith) (omega (arith, up)), λ k d low up. upto.1 (suc k) d (omega (arith, low)) (omega (arith, up)))
    in
    ap (λ ys. x ∷ ys) rest
    ∙ ap (λ b. if b then x ∷ filter (is_in table) xs else filter (is_in table) xs) (sym (eq-eqb x.table table (omega (arith, least, most))))

pub middle-of : (table : ℕ) (xs : List IdNote) (low high : ℕ) → low ≤ length xs → IsBelow table xs low → high ≤ length (drop low xs) → IsUpTo table (drop low xs) high
    → take high (drop low xs) ≡ filter (is_in table) xs
middle-of table xs zero high a below b upto = front-of table xs high b below.1 upto
middle-of table [] (suc low) high a below b upto = absurd (omega (arith, a))
middle-of table (x ∷ xs) (suc low) high a below b upto =
    let first = ltb-true x.table table (below.0 0 x (omega arith) (omega arith)) in
    let rest = middle-of table xs low high (omega (arith, a))
    (λ k d from up. below.0 (suc k) d (omega arith) (omega (arith, up)), λ k d from up. below.1 (suc k) d (omega (arith, from)) (omega (arith, up))) b upto
    in
    rest ∙ ap (λ b. if b then x ∷ filter (is_in table) xs else filter (is_in table) xs) (sym (ne_eqb x.table table (λ e. absurd (omega (arith, e, first)))))

-- the rest of a list is its whole rest
pub rest-all : {A : Type 0} (n : ℕ) (xs : List A) → take (length xs - n) (drop n xs) ≡ drop n xs
rest-all n xs = let long = length-drop n xs in take_all (length xs - n) (drop n xs) (omega (arith, long))
