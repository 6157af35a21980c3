-- The test of rising records tells whether they rise.
use Rattle.std.proofs.Common.{refl, ◌≡◌, ◌↔◌, Bool, true, false, cond, Option, Some, None, List, [], ◌∷◌, sym, ap, ◌∙◌, IsTrue, true≢false}
use Rattle.std.specs.declared.cmp.Ordering.{Ordering}
use Rattle.std.specs.declared.cmp.Ordering.TheVariants.{Less, Equal, Greater}
use Rattle.std.specs.Ordering.{is_lt}
use Rattle.hv_base.specs.declared.ids.RowId.{RowId}
use Rattle.hv_base.specs.Identifiers.{row_id_cmp}
use Rattle.hv_rowfile.specs.declared.record.Rec.{Rec}
use Rattle.hv_rowfile.specs.Layout.{Follows, RisesFrom, id_of}
use Rattle.hv_merge.specs.Steps.{is_behind, rises_from}

pub lt-is : (o : Ordering) → is_lt o ≡ true → o ≡ Less
lt-is Less e = refl
lt-is Equal e = absurd (true≢false (sym e))
lt-is Greater e = absurd (true≢false (sym e))

follows-to : (before : Option RowId) (r : Rec) → is_behind before (id_of r) ≡ true → Follows before r
follows-to None r e = tt
follows-to (Some id) r e = lt-is (row_id_cmp id (id_of r)) e

follows-from : (before : Option RowId) (r : Rec) → Follows before r → is_behind before (id_of r) ≡ true
follows-from None r h = refl
follows-from (Some id) r h = ap is_lt h

both : (a b : Bool) → cond a b false ≡ true → (a ≡ true) × (b ≡ true)
both true b e = (refl, e)
both false b e = absurd (true≢false (sym e))

both-back : (a b : Bool) → a ≡ true → b ≡ true → cond a b false ≡ true
both-back true b e f = f
both-back false b e f = absurd (true≢false (sym e))

to : (before : Option RowId) (recs : List Rec) → rises_from before recs ≡ true → RisesFrom before recs
to before [] e = tt
to before (r ∷ recs) e =
    let h = both (is_behind before (id_of r)) (rises_from (Some (id_of r)) recs) e in
    (follows-to before r h.0, to (Some (id_of r)) recs h.1)

from : (before : Option RowId) (recs : List Rec) → RisesFrom before recs → rises_from before recs ≡ true
from before [] h = refl
from before (r ∷ recs) h = both-back (is_behind before (id_of r)) (rises_from (Some (id_of r)) recs) (follows-from before r h.0) (from (Some (id_of r)) recs h.1)

pub decides : (before : Option RowId) (recs : List Rec) (b : Bool) → b ≡ rises_from before recs → IsTrue b ↔ RisesFrom before recs
decides before recs b e = (λ is. to before recs (sym e ∙ is), λ h. e ∙ from before recs h)
