-- The worked trail, row by row.
use Rattle.std.proofs.Common.{◌≡◌, Some, None, [], ◌∷◌, refl}
use Rattle.hv_book.specs.hv_history.specs.declared.state.Ending.TheVariants.{Committed, Aborted}
use Rattle.hv_book.specs.hv_history.specs.State.{acted}
use Rattle.hv_book.specs.hv_history.specs.declared.entry.Cause.TheVariants as cause
use Rattle.hv_trail.specs.Worked.{both_open, both_ended, record_of, snapshot_at, ids_of, ending_of, wrote}
use Rattle.hv_trail.specs.Own.{own_places}

pub first-snapshot : snapshot_at (record_of 2 both_open) ≡ Some (Some 6)
unfolding acted
first-snapshot = refl

pub second-snapshot : snapshot_at (record_of 3 both_open) ≡ Some (Some 7)
unfolding acted
second-snapshot = refl

pub first-ids : ids_of (record_of 2 both_ended) ≡ Some ((1, 1) ∷ [])
unfolding acted
first-ids = refl

pub second-ids : ids_of (record_of 3 both_ended) ≡ Some ((1, 2) ∷ [])
unfolding acted
second-ids = refl

pub first-open : ending_of (record_of 2 both_open) ≡ Some None
unfolding acted
first-open = refl

pub first-ending : ending_of (record_of 2 both_ended) ≡ Some (Some (Committed 11 wrote))
unfolding acted
first-ending = refl

pub second-ending : ending_of (record_of 3 both_ended) ≡ Some (Some (Aborted 10 (cause.WriteFault 1)))
unfolding acted
second-ending = refl

pub first-places : own_places 2 both_ended ≡ 4 ∷ 6 ∷ 8 ∷ 9 ∷ 13 ∷ []
unfolding acted
first-places = refl

pub second-places : own_places 3 both_ended ≡ 5 ∷ 7 ∷ 10 ∷ 11 ∷ 12 ∷ []
unfolding acted
second-places = refl
