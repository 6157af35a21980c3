-- Where the transactions of a book were opened.
use Rattle.std.specs.Prelude.{◌≡◌, ℕ, ◌<◌, nat_lt, List, length, take}
use Rattle.std.specs.List.{AllByRecursion}
use Rattle.hv_history.specs.declared.entry.Entry.{Entry}
use Rattle.hv_history.specs.State.{state_of}
use Rattle.hv_book.specs.Past.{total, only_if}
use Rattle.hv_book.specs.Commits.{IsRising}

abbrev pub before_place : ℕ → ℕ → ℕ
before_place position at = only_if (nat_lt at position) 1

-- so many of these places, which rise, stand before a place as transactions were opened before it
pub record AreOpened (entries : List Entry) (places : List ℕ) : Type 0 where
  pub below : AllByRecursion (λ (at : ℕ). at < length entries) places
  pub rising : IsRising places
  pub count : (position : ℕ) → total (before_place position) places ≡ length (state_of (take position entries)).transactions
