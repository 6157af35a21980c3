-- The order of identifiers, part by part.
use Rattle.std.proofs.Common.{refl, ◌≡◌, ℕ, ◌==◌, nat_lt, Bool, true, false, cond, true≢false, sym, ap, ◌∙◌}
use Rattle.std.specs.declared.cmp.Ordering.{Ordering}
use Rattle.std.specs.declared.cmp.Ordering.TheVariants.{Less, Equal, Greater}
use Rattle.std.specs.Ordering.{is_lt, nat_cmp, ordering_then}
use Rattle.std.specs.Cmp.{nat_cmp_total, tied_itself}
use Rattle.std.proofs.lemmas.Bool.{ne_eqb}
use Rattle.hv_base.specs.declared.ids.RowId.{RowId}
use Rattle.hv_base.specs.Identifiers.{row_id_cmp}
use Rattle.hv_merge.specs.Steps.{is_below}

by-parts : (a b : RowId) → is_below b a ≡ is_lt (ordering_then (nat_cmp a.write.0 b.write.0)
    (ordering_then (nat_cmp a.statement b.statement) (ordering_then (nat_cmp a.bucket b.bucket) (nat_cmp a.row b.row))))
unfolding row_id_cmp
by-parts a b = refl

by-write : (o : Ordering) (a b : RowId) → nat_cmp a.write.0 b.write.0 ≡ o
    → is_below b a ≡ is_lt (ordering_then o (ordering_then (nat_cmp a.statement b.statement) (ordering_then (nat_cmp a.bucket b.bucket) (nat_cmp a.row b.row))))
by-write o a b e =
    by-parts a b ∙ ap (λ (p : Ordering). is_lt (ordering_then p (ordering_then (nat_cmp a.statement b.statement) (ordering_then (nat_cmp a.bucket b.bucket) (nat_cmp a.row b.row))))) e

by-statement : (o : Ordering) (a b : RowId) → nat_cmp a.write.0 b.write.0 ≡ Equal → nat_cmp a.statement b.statement ≡ o
    → is_below b a ≡ is_lt (ordering_then o (ordering_then (nat_cmp a.bucket b.bucket) (nat_cmp a.row b.row)))
by-statement o a b e f =
    by-write Equal a b e ∙ ap (λ (p : Ordering). is_lt (ordering_then p (ordering_then (nat_cmp a.bucket b.bucket) (nat_cmp a.row b.row)))) f

by-bucket : (o : Ordering) (a b : RowId) → nat_cmp a.write.0 b.write.0 ≡ Equal → nat_cmp a.statement b.statement ≡ Equal → nat_cmp a.bucket b.bucket ≡ o
    → is_below b a ≡ is_lt (ordering_then o (nat_cmp a.row b.row))
by-bucket o a b e f g = by-statement Equal a b e f ∙ ap (λ (p : Ordering). is_lt (ordering_then p (nat_cmp a.row b.row))) g

row-by : (a b : Bool) → a ≡ is_lt (cond a Less (cond b Equal Greater))
row-by true b = refl
row-by false true = refl
row-by false false = refl

row-lt : (a b : ℕ) → nat_lt a b ≡ is_lt (nat_cmp a b)
row-lt a b = row-by (nat_lt a b) (a == b)

-- ---- the first part that differs decides

part-by : (l e : Bool) (rest : Ordering) → e ≡ false → is_lt (ordering_then (cond l Less (cond e Equal Greater)) rest) ≡ l
part-by true e rest h = refl
part-by false true rest h = absurd (true≢false h)
part-by false false rest h = refl

part : (a b : ℕ) (rest : Ordering) → (a ≡ b → ⊥) → is_lt (ordering_then (nat_cmp a b) rest) ≡ nat_lt a b
part a b rest h = part-by (nat_lt a b) (a == b) rest (ne_eqb a b h)

-- equal parts decide nothing
tied : (a b : ℕ) → a ≡ b → nat_cmp a b ≡ Equal
tied a b e = ap (nat_cmp a) (sym e) ∙ tied_itself nat_cmp_total a

pub write-first : (a b : RowId) → (a.write.0 ≡ b.write.0 → ⊥) → nat_lt a.write.0 b.write.0 ≡ is_below b a
write-first a b h = sym (by-write (nat_cmp a.write.0 b.write.0) a b refl ∙ part a.write.0 b.write.0 _ h)

pub statement-first : (a b : RowId) → a.write.0 ≡ b.write.0 → (a.statement ≡ b.statement → ⊥) → nat_lt a.statement b.statement ≡ is_below b a
statement-first a b w h =
    sym (by-statement (nat_cmp a.statement b.statement) a b (tied a.write.0 b.write.0 w) refl ∙ part a.statement b.statement _ h)

pub bucket-first : (a b : RowId) → a.write.0 ≡ b.write.0 → a.statement ≡ b.statement → (a.bucket ≡ b.bucket → ⊥)
    → nat_lt a.bucket b.bucket ≡ is_below b a
bucket-first a b w s h =
    sym (by-bucket (nat_cmp a.bucket b.bucket) a b (tied a.write.0 b.write.0 w) (tied a.statement b.statement s) refl ∙ part a.bucket b.bucket _ h)

pub row-first : (a b : RowId) → a.write.0 ≡ b.write.0 → a.statement ≡ b.statement → a.bucket ≡ b.bucket → nat_lt a.row b.row ≡ is_below b a
row-first a b w s k =
    row-lt a.row b.row
    ∙ sym (by-bucket Equal a b (tied a.write.0 b.write.0 w) (tied a.statement b.statement s) (tied a.bucket b.bucket k))
