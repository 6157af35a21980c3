-- What SET says of a threshold, transaction by transaction.
use Rattle.std.specs.Prelude.{if◌then◌else◌, ℕ, ◌*◌, ◌==◌, ◌++◌, Bool, Option, Some, None, List, [], ◌∷◌, take}
use Rattle.hv_history.specs.declared.state.Transaction.{Transaction}
use Rattle.hv_history.specs.Thresholds.{are_digits, number_of, count_in, thousandths_in, set_at, set_in, delta_key, percent_key}
use Rattle.hv_tallies.specs.hv_earlier.specs.hv_meta.specs.hv_book.specs.declared.notes.End.{End}
use Rattle.hv_tallies.specs.hv_earlier.specs.hv_meta.specs.hv_book.specs.declared.notes.TransactionNote.{TransactionNote}

-- by how much the number of so many digits of a fraction counts more, one to three of them, in thousandths
abbrev pub scale : ℕ → ℕ
scale digits = if digits == 1 then 100 else (if digits == 2 then 10 else 1)

abbrev pub whole_thousandths : List ℕ → Option ℕ
whole_thousandths text = if are_digits 3 text then Some (number_of text * 1000) else None

-- the number of a fraction's digits with zeros behind them
abbrev pub padded : List ℕ → ℕ
padded fraction = number_of (take 3 (fraction ++ 48 ∷ 48 ∷ []))

unfoldable pub key_of : Bool → List ℕ
key_of is_percent = if is_percent then percent_key else delta_key

unfoldable pub reads_of : Bool → List ℕ → Option ℕ
reads_of is_percent = if is_percent then thousandths_in else count_in

abbrev pub set_with : Option ℕ → Option ℕ → Option (ℕ × ℕ) → Option ℕ → Option (ℕ × ℕ)
set_with opening value found None = found
set_with opening value found (Some place) = set_at opening place value found

abbrev pub set_next : Option ℕ → List ℕ → (List ℕ → Option ℕ) → Option (ℕ × ℕ) → Option Transaction → Option (ℕ × ℕ)
set_next opening key reads found None = found
set_next opening key reads found (Some transaction) = set_in opening key reads found transaction

abbrev pub place_of_end : Option End → Option ℕ
place_of_end None = None
place_of_end (Some end) = Some end.at

abbrev pub end_place : Option TransactionNote → Option ℕ
end_place None = None
end_place (Some note) = place_of_end note.ending
