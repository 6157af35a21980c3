-- What the commits of a table said at an earlier place of a book, by the notes that are kept beside it.
use Rattle.std.specs.Prelude.{◌≡◌, ℕ, ◌==◌, ◌&&◌, nat_le, Bool, true, false, Option, Some, None, List, length, take}
use Rattle.hv_history.specs.declared.entry.Entry.{Entry}
use Rattle.hv_history.specs.State.{state_of, numbered}
use Rattle.hv_ids.specs.declared.notes.IdNote.{IdNote}
use Rattle.hv_ids.specs.declared.notes.PlacedId.{PlacedId}
use Rattle.hv_book.specs.Commits.{wrote_in}
use Rattle.hv_book.specs.Past.{owners_in, total}
use Rattle.hv_earlier.specs.declared.fates.Fate.{Fate}
use Rattle.hv_earlier.specs.declared.fates.Fate.TheVariants as fate
use Rattle.hv_earlier.specs.Places.{only_those}
use Rattle.hv_counts.specs.declared.due.Due.{Due}
use Rattle.hv_counts.specs.declared.spot.Spot.{Spot}
use Rattle.hv_counts.specs.Counts.{dues_of}

-- the table had so many write ids before that place, and so many transactions were opened
pub record IsSpot (entries : List Entry) (spot : Spot) : Type 0 where
  pub high : spot.high ≡ length (owners_in (numbered (state_of (take spot.position entries)).tables spot.table))
  pub transactions : spot.transactions ≡ length (state_of (take spot.position entries)).transactions

-- the transaction is there and has committed
abbrev pub is_done : Option Fate → Bool
is_done None = false
is_done (Some fate.Open) = false
is_done (Some fate.Committed) = true
is_done (Some fate.Aborted) = false

-- what a write id of the table says, where it was given before that place
unfoldable pub dues_then : List Entry → Spot → IdNote → List Due
dues_then entries spot id =
    only_those ((id.table == spot.table) && nat_le id.write spot.high)
    (dues_of spot.table id.write (wrote_in (numbered (state_of (take spot.position entries)).transactions id.txn)))

-- what that weighs
abbrev pub dues_weight : List Entry → Spot → (Due → ℕ) → PlacedId → ℕ
dues_weight entries spot weight placed = total weight (dues_then entries spot placed.id)
