-- What a read gives of a list of bytes. Source: this project's profile.

use Rattle.std.specs.Prelude.{◌≡◌, ℕ, ◌<◌, List, [], ◌++◌, length, take, drop, suc}

-- A read into this buffer answered `count`: so many bytes went from the front of what was left
-- into the front of the buffer, and at least one where both have one. So 0 comes at the end.
pub record GivesNext (count : ℕ) (buffer before now : List ℕ) : Type 0 where
  pub given : before ≡ take count buffer ++ now
  pub some : 0 < length buffer → 0 < length before → 0 < count

-- All that was left is these bytes, and nothing is left.
pub record GivesAll (bytes before now : List ℕ) : Type 0 where
  pub given : before ≡ bytes
  pub ended : now ≡ []

-- More was left than the limit, and one byte more than the limit was taken.
pub record PassesLimit (limit : ℕ) (before now : List ℕ) : Type 0 where
  pub more : limit < length before
  pub taken : now ≡ drop (suc limit) before

-- These bytes were taken from the front of what was left.
abbrev pub GivesFront : List ℕ → List ℕ → List ℕ → Type 0
GivesFront front before now = before ≡ front ++ now

-- Some bytes were taken from the front, and no others.
abbrev pub LosesFront : List ℕ → List ℕ → Type 0
LosesFront before now = (front : List ℕ) × GivesFront front before now
