-- What a count says of the numbers between two bounds that a rising list has.
use Rattle.std.specs.Prelude.{◌≡◌, ℕ, ◌==◌, ◌+◌, ◌<◌, ◌≤◌, Bool, true, false, List}
use Rattle.std.specs.List.{list_any}

abbrev pub has : List ℕ → ℕ → Bool
has numbers number = list_any (λ other. other == number) numbers

-- none, some or all numbers from low to last are in the list, by how many are
pub record IsCountBetween (low last : ℕ) (numbers : List ℕ) (count : ℕ) : Type 0 where
  pub none : count ≡ 0 → (number : ℕ) → low ≤ number → number ≤ last → has numbers number ≡ false
  pub some : 0 < count
      → (number : ℕ) × ((low ≤ number) × (number ≤ last) × (has numbers number ≡ true))
  pub full : last < low + count
      → (number : ℕ) → low ≤ number → number ≤ last → has numbers number ≡ true
  pub room : low + count ≤ last
      → (number : ℕ) × ((low ≤ number) × (number ≤ last) × (has numbers number ≡ false))
