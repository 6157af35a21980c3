-- What a Commit and an abort by a conflict must meet, as tests.
use Rattle.std.specs.Prelude.{ℕ, ◌+◌, ◌==◌, ◌&&◌, Bool, true, false, nat_lt, IsTrue, Option, None, Some, List, [], ◌∷◌}
use Rattle.std.specs.List.{list_any, list_all}
use Rattle.std.specs.Ordering.{is_lt}
use Rattle.hv_base.specs.declared.ids.Touch.{Touch}
use Rattle.hv_book.specs.hv_history.specs.declared.state.Transaction.{Transaction}
use Rattle.hv_book.specs.hv_history.specs.Legal.{IsRunning, touch_cmp, touches_conflict, is_touched, deletes_in}
use Rattle.hv_book.specs.declared.notes.TransactionNote.{TransactionNote}
use Rattle.hv_book.specs.declared.notes.End.{End}
use Rattle.hv_meta.specs.States.{is_held}

-- touches rise by table and partition
abbrev pub are_rising : List Touch → Bool
are_rising [] = true
are_rising (a ∷ []) = true
are_rising (a ∷ b ∷ touches) = is_lt (touch_cmp a b) && are_rising (b ∷ touches)

-- a touch has a row, and a write id in its table is among these
abbrev pub is_own : List (ℕ × ℕ) → Touch → Bool
is_own given touch = nat_lt 0 (touch.inserted + touch.deleted) && is_held touch.table.0 given

abbrev pub are_own : List (ℕ × ℕ) → List Touch → Bool
are_own given wrote = list_all (is_own given) wrote

-- a touch of that table is among these
abbrev pub is_met : List Touch → ℕ → Bool
is_met wrote table = list_any (λ (touch : Touch). touch.table.0 == table) wrote

abbrev pub are_used : List Touch → List (ℕ × ℕ) → Bool
are_used wrote given = list_all (is_touched wrote) given

-- they rise, are the transaction's own, and use each of its write ids
abbrev pub are_whole : List Touch → List (ℕ × ℕ) → Bool
are_whole wrote given = are_rising wrote && (are_own given wrote && are_used wrote given)

-- the transaction runs, and these touches may be what it wrote
abbrev pub MayWrite : List Touch → Transaction → Type 0
MayWrite wrote transaction = IsRunning transaction × IsTrue (are_whole wrote transaction.given)

-- a commit at a place against these touches, behind a place
abbrev pub against : ℕ → List Touch → ℕ → List Touch → Bool
against place wrote at those = nat_lt place at && touches_conflict wrote those

-- the place of a snapshot, or 0
abbrev pub place_or : Option ℕ → ℕ
place_or None = 0
place_or (Some place) = place

abbrev pub started_place : Option TransactionNote → ℕ
started_place None = 0
started_place (Some note) = place_or note.started

-- an end behind that place, of a transaction that wrote deletes of that partition
abbrev pub end_behind : ℕ → Option End → Bool
end_behind place None = false
end_behind place (Some end) = nat_lt place end.at

abbrev pub note_behind : ℕ → Option TransactionNote → Bool
note_behind place None = false
note_behind place (Some note) = end_behind place note.ending

abbrev pub wrote_deletes : ℕ → List ℕ → Option (List Touch) → Bool
wrote_deletes table partition None = false
wrote_deletes table partition (Some wrote) = list_any (deletes_in table partition) wrote
