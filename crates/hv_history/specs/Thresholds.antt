-- What SET says of the thresholds of compaction: the last one that was committed since the store was opened, by the place of its
-- Commit.
-- Source: Hive's configuration (hive.compactor.delta.num.threshold, hive.compactor.delta.pct.threshold); how their values are written is
-- this project's profile.
use Rattle.std.specs.Prelude.{if◌then◌else◌, ℕ, ◌+◌, ◌-◌, ◌*◌, ◌==◌, ◌&&◌, nat_eq, nat_lt, nat_le, Bool, true, Option, Some, None, List, [], ◌∷◌, ◌++◌, length, take, drop, fold, position, codes}
use Rattle.std.specs.Cmp.Lexicographic.{pointwise}
use Rattle.std.specs.List.{list_all}
use Rattle.hv_meaning.specs.hv_typing.specs.hv_logic.specs.hv_ast.specs.declared.statement.Setting.{Setting}
use Rattle.hv_meaning.specs.hv_typing.specs.hv_logic.specs.hv_ast.specs.declared.statement.Stmt.{Stmt}
use Rattle.hv_meaning.specs.hv_typing.specs.hv_logic.specs.hv_ast.specs.declared.statement.Stmt.TheVariants as stmt
use Rattle.hv_history.specs.declared.state.Ending.{Ending}
use Rattle.hv_history.specs.declared.state.Ending.TheVariants.{Committed}
use Rattle.hv_history.specs.declared.state.Transaction.{Transaction}
use Rattle.hv_history.specs.State.{State, opening_tree}

-- ---- values

abbrev pub is_digit : ℕ → Bool
is_digit b = nat_le 48 b && nat_le b 57

abbrev pub with_digit : ℕ → ℕ → ℕ
with_digit n b = n * 10 + (b - 48)

abbrev pub number_of : List ℕ → ℕ
number_of digits = fold with_digit 0 digits

-- so many digits at most, and one at least
abbrev pub are_digits : ℕ → List ℕ → Bool
are_digits most text = nat_lt 0 (length text) && (nat_le (length text) most && list_all is_digit text)

-- one to six digits
abbrev pub count_in : List ℕ → Option ℕ
count_in text = if are_digits 6 text then Some (number_of text) else None

abbrev pub is_point : ℕ → Bool
is_point b = b == 46

-- three digits behind the point: what isn't written is 0
abbrev pub thousandths_by : List ℕ → List ℕ → Option ℕ
thousandths_by whole fraction =
    if are_digits 3 whole && are_digits 3 fraction
    then Some (number_of whole * 1000 + number_of (take 3 (fraction ++ 48 ∷ 48 ∷ []))) else None

abbrev pub thousandths_at : List ℕ → Option ℕ → Option ℕ
thousandths_at text None = if are_digits 3 text then Some (number_of text * 1000) else None
thousandths_at text (Some n) = thousandths_by (take n text) (drop (n + 1) text)

-- one to three digits, and behind a point one to three more
abbrev pub thousandths_in : List ℕ → Option ℕ
thousandths_in text = thousandths_at text (position is_point text)

-- ---- which SET counts

-- behind that place, if there is one
abbrev pub is_behind_place : Option ℕ → ℕ → Bool
is_behind_place None place = true
is_behind_place (Some before) place = nat_lt before place

abbrev pub if_key : List ℕ → (List ℕ → Option ℕ) → Setting → Option ℕ
if_key key reads setting = if pointwise nat_eq setting.key key then reads setting.value else None

-- what a text sets a key to, where it is a SET of it with such a value
abbrev pub set_by : List ℕ → (List ℕ → Option ℕ) → Option Stmt → Option ℕ
set_by key reads (Some (stmt.Set setting)) = if_key key reads setting
set_by key reads _ = None

-- the last value so far with the place of its commit
abbrev pub later_set : ℕ → ℕ → Option (ℕ × ℕ) → Option (ℕ × ℕ)
later_set place value None = Some (place, value)
later_set place value (Some found) = if nat_lt found.0 place then Some (place, value) else Some found

abbrev pub set_at : Option ℕ → ℕ → Option ℕ → Option (ℕ × ℕ) → Option (ℕ × ℕ)
set_at opening place None found = found
set_at opening place (Some value) found = if is_behind_place opening place then later_set place value found else found

abbrev pub set_ended : Option ℕ → Option ℕ → Option Ending → Option (ℕ × ℕ) → Option (ℕ × ℕ)
set_ended opening value (Some (Committed place wrote)) found = set_at opening place value found
set_ended opening value _ found = found

abbrev pub set_in : Option ℕ → List ℕ → (List ℕ → Option ℕ) → Option (ℕ × ℕ) → Transaction → Option (ℕ × ℕ)
set_in opening key reads found transaction = set_ended opening (set_by key reads (opening_tree transaction)) transaction.ending found

abbrev pub value_or : ℕ → Option (ℕ × ℕ) → ℕ
value_or default None = default
value_or default (Some found) = found.1

abbrev pub threshold : State → List ℕ → (List ℕ → Option ℕ) → ℕ → ℕ
threshold state key reads default = value_or default (fold (set_in state.openings.last key reads) None state.transactions)

abbrev pub delta_key : List ℕ
delta_key = codes "hive.compactor.delta.num.threshold"

abbrev pub percent_key : List ℕ
percent_key = codes "hive.compactor.delta.pct.threshold"

-- more deltas than this many ask for a compaction
unfoldable pub delta_threshold : State → ℕ
delta_threshold state = threshold state delta_key count_in 10

-- so many thousandths of a base's rows, written above it, ask for a major one
unfoldable pub percent_threshold : State → ℕ
percent_threshold state = threshold state percent_key thousandths_in 100
