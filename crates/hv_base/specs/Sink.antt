-- What a write adds to a list of bytes. Source: this project's profile.

use Rattle.std.specs.Prelude.{◌≡◌, ℕ, ◌<◌, List, ◌++◌, length, take}

-- These bytes were added at the end.
abbrev pub Gains : List ℕ → List ℕ → List ℕ → Type 0
Gains bytes before now = now ≡ before ++ bytes

-- A front of these bytes, and not all of them, was added at the end.
pub record GainsPart (bytes before now : List ℕ) : Type 0 where
  pub count : ℕ
  pub short : count < length bytes
  pub gained : now ≡ before ++ take count bytes
