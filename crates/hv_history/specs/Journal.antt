-- The journal: gates and records. A gate is a byte; 0 is closed, any other is open. Behind an open gate
-- stands a record, and then the next gate; at the first closed gate the book ends, and what stands behind
-- it doesn't matter. This project's profile.
use Rattle.std.specs.Prelude.{◌≡◌, ◌≢◌, ℕ, suc, zero, ◌+◌, ◌<◌, ◌≤◌, ◌^◌, List, [], ◌∷◌, ◌++◌, length}
use Rattle.std.specs.List.{flat_map}
use Rattle.hv_history.specs.declared.entry.Entry.{Entry}
use Rattle.hv_bytes.specs.Spelling.{four_bytes}
use Rattle.hv_history.specs.Spelling.{entry_spelling, HasSpelling}

-- a record: the length of its body, and the body
unfoldable pub record_of : Entry → List ℕ
record_of e = four_bytes (length (entry_spelling e)) ++ entry_spelling e

-- what a record can keep
pub record HasRecord (e : Entry) : Type 0 where
  pub spelling : HasSpelling e
  pub short : length (entry_spelling e) < 2 ^ 32

-- the bytes begin with the book's records, each behind an open gate, and rest is what comes behind them
abbrev pub Leads : List Entry → List ℕ → List ℕ → Type 0
Leads [] bytes rest = bytes ≡ rest
Leads (e ∷ book) bytes rest =
    (gate : ℕ) × (after : List ℕ) × (gate ≢ 0) × HasRecord e
    × (bytes ≡ gate ∷ (record_of e ++ after)) × Leads book after rest

-- the bytes read to the book: its records behind open gates, a closed gate, and anything
abbrev pub Reads : List Entry → List ℕ → Type 0
Reads book bytes = (after : List ℕ) × Leads book bytes (0 ∷ after)

-- a journal of no byte or of one is the empty book, whatever the byte
abbrev pub IsJournal : List Entry → List ℕ → Type 0
IsJournal book [] = book ≡ []
IsJournal book (gate ∷ []) = book ≡ []
IsJournal book (gate ∷ next ∷ after) = Reads book (gate ∷ next ∷ after)

-- where the closed gate of a book stands
abbrev pub place_of : List Entry → ℕ
place_of [] = 0
place_of (e ∷ book) = 1 + length (record_of e) + place_of book

-- no gate, or an open one behind which no record stands
abbrev pub IsBadGate : List ℕ → Type 0
IsBadGate [] = Unit {0}
IsBadGate (zero ∷ after) = ⊥
IsBadGate (suc gate ∷ after) =
    (e : Entry) (rest : List ℕ) → HasRecord e → after ≡ record_of e ++ rest → ⊥

-- the bytes are more than an empty book's; they begin with records up to this place, and no good gate
-- stands there
abbrev pub IsBadAt : List ℕ → ℕ → Type 0
IsBadAt bytes at =
    (book : List Entry) × (rest : List ℕ) × (2 ≤ length bytes) × Leads book bytes rest
    × (at ≡ place_of book) × IsBadGate rest

-- a journal as it is written: open gates are 1, and nothing stands behind the closed one
unfoldable pub journal_of : List Entry → List ℕ
journal_of book = flat_map (λ e. 1 ∷ record_of e) book ++ 0 ∷ []
