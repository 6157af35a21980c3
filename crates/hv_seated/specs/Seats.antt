-- A chair between two steps.
use Rattle.std.specs.Prelude.{◌≡◌, ◌≤◌, ℕ, false, Some, []}
use Rattle.std.proofs.Common.{le_refl}
use Rattle.atomic_table.specs.Seated.{TableId}
use Rattle.hv_trail.specs.declared.trail.TrailItem.{TrailItem}
use Rattle.hv_turn.specs.Tokens.{Token}
use Rattle.hv_seated.specs.declared.shared.Shared.{Shared}
use Rattle.hv_seated.specs.declared.shared.Origin.{Origin}

-- what no step changes of a seat: of which turn it is, its parts, and how long the history was at the start
pub record Fixed : Type 0 where
  pub turn : TableId
  pub parts : ℕ
  pub start : ℕ

abbrev pub as_fixed : TableId → ℕ → ℕ → Fixed
as_fixed turn parts start = record { turn = turn; parts = parts; start = start }

abbrev pub fixed_of : {S I Q : Type 0} → Token S I Q → Fixed
fixed_of seat = as_fixed seat.turn seat.parts seat.start

-- of no seat at all
abbrev pub no_seat : Fixed
no_seat =
    as_fixed (record { words = 0; slots = 0; views_name = 0; atom = 0; block = 0; offset = 0; slot_names = [] }) 0 0

-- Its seat is of this turn, hasn't the turn, and has seen this house, which is as each act keeps it; and so much of it no step changes.
pub record IsSeated {D H : Type 0} (turn : TableId) (seat : Token (Shared D H) TrailItem (Origin D))
    (seen : Shared D H) (keeps shuts : H → Type 0) (stays : Fixed) : Type 0 where
  pub of_it : seat.turn ≡ turn
  pub free : seat.has_turn ≡ false
  pub saw : seat.saw ≡ Some seen
  pub kept : keeps seen.house
  pub shut : shuts seen.house
  pub same : fixed_of seat ≡ stays

module _ {D H : Type 0} (turn : TableId) (seat : Token (Shared D H) TrailItem (Origin D)) (seen : Shared D H)
    (keeps shuts : H → Type 0) (stays : Fixed) (seated : IsSeated turn seat seen keeps shuts stays) where
  pub seated_keeps : keeps seen.house
  seated_keeps = seated.kept

  pub seated_shuts : shuts seen.house
  seated_shuts = seated.shut

  -- what is known of its seat where it is given back
  pub seated_free : seat.has_turn ≡ false
  seated_free = seated.free

  pub seated_same : fixed_of seat ≡ stays
  seated_same = seated.same

-- who adds one item in a step adds one at least
pub one_of_one : 1 ≤ 1
one_of_one = le_refl 1
