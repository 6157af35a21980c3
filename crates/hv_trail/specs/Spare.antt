-- The places that a kept trail has ready: one entry for each transaction that is open, which ends it. Source: this project's profile.
use Rattle.std.specs.Prelude.{◌≡◌, ℕ, ◌+◌, ◌*◌, ◌≤◌, ◌||◌, not, nat_lt, Bool, true, false, List, sum_by, map}
use Rattle.hv_book.specs.hv_history.specs.declared.entry.Entry.{Entry}
use Rattle.hv_book.specs.hv_history.specs.declared.entry.Entry.TheVariants as entry
use Rattle.hv_book.specs.hv_history.specs.declared.state.Transaction.{Transaction}
use Rattle.hv_book.specs.hv_history.specs.State.{numbered, state_of}
use Rattle.hv_book.specs.hv_history.specs.Legal.{open_one}
use Rattle.hv_book.specs.Notes.{is_open_note}
use Rattle.hv_book.specs.Briefs.{brief}

-- how many transactions of a book are open
abbrev pub open_count : List Entry → ℕ
open_count book = sum_by open_one (state_of book).transactions

-- the transaction of that number is there and open
abbrev pub is_open_at : List Transaction → ℕ → Bool
is_open_at transactions txn = is_open_note (numbered (map brief transactions) txn)

-- an entry ends one of these that is open
abbrev pub ends_one : List Transaction → Entry → Bool
ends_one transactions (entry.Commit txn wrote) = is_open_at transactions txn.0
ends_one transactions (entry.Abort txn cause) = is_open_at transactions txn.0
ends_one transactions (entry.Create txn table) = is_open_at transactions txn.0
ends_one transactions (entry.Drop txn table) = is_open_at transactions txn.0
ends_one transactions _ = false

abbrev pub ends_open : List Entry → Entry → Bool
ends_open book event = ends_one (state_of book).transactions event

-- an entry and so many behind it need room that isn't there yet, but for one that ends an open transaction and stands alone
abbrev pub needs_room : List Entry → Entry → ℕ → Bool
needs_room book first more = nat_lt 0 more || not (ends_open book first)

-- Where they need room, so many entries more fit: each of them, and one for each transaction that is open behind it.
abbrev pub HavePlaces : List Entry → ℕ → Entry → ℕ → Type 0
HavePlaces book spare first more = needs_room book first more ≡ true → open_count book + 2 * (1 + more) ≤ spare

abbrev pub HasPlace : List Entry → ℕ → Entry → Type 0
HasPlace book spare event = HavePlaces book spare event 0
