-- What becomes of a seat that works.
use Rattle.std.specs.Prelude.{◌≡◌, ℕ, ◌+◌, false, length}
use mathlib.Core.List.{IsPrefix}
use Rattle.hv_turn.specs.Tokens.{Token}

-- the same seat, free, which has seen no less and has added so many items more
pub record IsLater {S I Q : Type 0} (added : ℕ) (old new : Token S I Q) : Type 0 where
  pub turn : new.turn ≡ old.turn
  pub root : new.root ≡ old.root
  pub start : new.start ≡ old.start
  pub parts : new.parts ≡ old.parts
  pub free : new.has_turn ≡ false
  pub own : length new.own ≡ length old.own + added
  pub seen : IsPrefix old.seen new.seen
