-- The order of places tells all items apart, where their own order does.
use Rattle.std.proofs.Common.{◌≡◌, ℕ, suc, ◌+◌, true, false, List, [], ◌∷◌, ◌++◌, length, refl, ap, sym, ◌∙◌, arith}
use Rattle.std.specs.declared.cmp.Ordering.{Ordering}
use Rattle.std.specs.Ordering.{bool_cmp}
use Rattle.std.specs.FinMap.{IsAntisymmetric, nat_cmp-IsAntisymmetric, slice_cmp-IsAntisymmetric}
use Rattle.hv_base.specs.Identifiers.{row_id_cmp}
use Rattle.hv_value.specs.declared.row.Row.{Row}
use Rattle.hv_rowfile.specs.declared.record.Rec.{Rec}
use Rattle.hv_rowfile.specs.declared.record.Rec.TheVariants as rec
use Rattle.hv_logic.specs.declared.catalog.Shape.{Shape}
use Rattle.std.specs.Prelude.{Err}
use Rattle.std.specs.List.{list_all}
use Rattle.std.proofs.lemmas.Bool.{cond-true, cond-false}
use Rattle.hv_logic.specs.declared.catalog.TableInfo.{TableInfo}
use Rattle.hv_logic.specs.declared.effect.Effect.{Effect}
use Rattle.hv_value.specs.OrderLaws.{then_first, then_second}
use Rattle.hv_route.specs.declared.fault.RouteFault.TheVariants as fault
use Rattle.hv_route.specs.Touching.{stored_fits, within_limits, touches_of, touched}
use Rattle.hv_route.specs.Placing.{placed_cmp}
use Rattle.hv_logic.specs.declared.effect.Found.{Found}
use Rattle.hv_route.specs.Routes.{stored, row_number, inserts_from, founds_from}

-- one record more
pub inserts_more : (shape : Shape) (write statement bucket n : ℕ) (rows : List Row) (row : Row)
    → inserts_from shape write statement bucket n (rows ++ row ∷ []) ≡ inserts_from shape write statement bucket n rows ++ rec.Insert (row_number write statement bucket (n + length rows)) (stored shape row) ∷ []
inserts_more shape write statement bucket n [] row =
    let e : n ≡ n + 0 = omega arith in ap (λ k. rec.Insert (row_number write statement bucket k) (stored shape row) ∷ []) e
inserts_more shape write statement bucket n (first ∷ rows) row =
    let e : suc n + length rows ≡ n + suc (length rows) = omega arith in
    ap (λ (z : List Rec). rec.Insert (row_number write statement bucket n) (stored shape first) ∷ z)
    (inserts_more shape write statement bucket (suc n) rows row
    ∙ ap (λ k. inserts_from shape write statement bucket (suc n) rows ++ rec.Insert (row_number write statement bucket k) (stored shape row) ∷ []) e)

pub inserts_count : (shape : Shape) (write statement bucket n : ℕ) (rows : List Row) → length (inserts_from shape write statement bucket n rows) ≡ length rows
inserts_count shape write statement bucket n [] = refl
inserts_count shape write statement bucket n (row ∷ rows) = ap suc (inserts_count shape write statement bucket (suc n) rows)

-- a row that stands, by its number
abbrev pub found_at : List ℕ → ℕ → ℕ → ℕ → ℕ → Row → Found
found_at partition write statement bucket n row =
    record { partition = partition; id = row_number write statement bucket n; row = row }

-- one row that stands more
pub founds_more : (partition : List ℕ) (write statement bucket n : ℕ) (rows : List Row) (row : Row)
    → founds_from partition write statement bucket n (rows ++ row ∷ [])
    ≡ founds_from partition write statement bucket n rows
    ++ found_at partition write statement bucket (n + length rows) row ∷ []
founds_more partition write statement bucket n [] row =
    let e : n ≡ n + 0 = omega arith in
    ap (λ k. found_at partition write statement bucket k row ∷ []) e
founds_more partition write statement bucket n (first ∷ rows) row =
    let e : suc n + length rows ≡ n + suc (length rows) = omega arith in
    ap (λ (z : List Found). found_at partition write statement bucket n first ∷ z)
    (founds_more partition write statement bucket (suc n) rows row
    ∙ ap (λ k. founds_from partition write statement bucket (suc n) rows ++ found_at partition write statement bucket k row ∷ []) e)

pub founds_count : (partition : List ℕ) (write statement bucket n : ℕ) (rows : List Row) → length (founds_from partition write statement bucket n rows) ≡ length rows
founds_count partition write statement bucket n [] = refl
founds_count partition write statement bucket n (row ∷ rows) = ap suc (founds_count partition write statement bucket (suc n) rows)

-- ---- items that tie are one

pub placed-same : {T : Type 0} {cmp : T → T → Ordering} → IsAntisymmetric cmp → IsAntisymmetric (placed_cmp cmp)
unfolding placed_cmp
placed-same {T} {cmp} same x y e =
    let partition = slice_cmp-IsAntisymmetric nat_cmp-IsAntisymmetric x.partition y.partition (then_first _ _ e) in
    let behind = then_second _ _ e in
    let bucket = nat_cmp-IsAntisymmetric x.bucket y.bucket (then_first _ _ behind) in
    let item = same x.item y.item (then_second _ _ behind) in
    λ i. record { partition = partition i; bucket = bucket i; item = item i }

pub bool-same : IsAntisymmetric bool_cmp
bool-same true true e = refl
bool-same false false e = refl
bool-same true false e = cc
bool-same false true e = cc

pub id-same : IsAntisymmetric row_id_cmp
unfolding row_id_cmp
id-same x y e =
    let write = nat_cmp-IsAntisymmetric x.write.0 y.write.0 (then_first _ _ e) in
    let one = then_second _ _ e in
    let statement = nat_cmp-IsAntisymmetric x.statement y.statement (then_first _ _ one) in
    let two = then_second _ _ one in
    let bucket = nat_cmp-IsAntisymmetric x.bucket y.bucket (then_first _ _ two) in
    let row = nat_cmp-IsAntisymmetric x.row y.row (then_second _ _ two) in
    λ i. record { write = record { 0 = write i }; statement = statement i; bucket = bucket i; row = row i }

-- ---- the two ways of a change

pub touched-fits : (info : TableInfo) (effect : Effect) → list_all (stored_fits info.shape) effect.inserts ≡ true → within_limits (touches_of info effect) ≡ touched info effect
unfolding touched
touched-fits info effect e = sym (cond-true _ _ _ e)

pub touched-over : (info : TableInfo) (effect : Effect) → list_all (stored_fits info.shape) effect.inserts ≡ false → Err fault.RowLimit ≡ touched info effect
unfolding touched
touched-over info effect e = sym (cond-false _ _ _ e)
