-- Reading a source up to a limit.
use Rattle.std.specs.Prelude.{◌≡◌, ℕ, ◌<◌, List, [], ◌++◌, length}

-- these bytes were taken from the front of what was left, and where they are fewer than the limit nothing is left
pub record TakesUpTo (most : ℕ) (bytes before now : List ℕ) : Type 0 where
  pub taken : before ≡ bytes ++ now
  pub ended : length bytes < most → now ≡ []
