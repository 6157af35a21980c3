-- SET: a compaction threshold takes a value of its form alone (BadType), and every other key takes any value. Keys are
-- compared byte by byte. Source: Hive Language Manual, Configuration Properties (hive.compactor.delta.num.threshold,
-- hive.compactor.delta.pct.threshold, hive.compactor.abortedtxn.threshold). The forms of their values are this project's
-- profile: 1 to 6 digits for a number, and for `pct` 1 to 3 digits and optionally a point and 1 to 3 digits.
use Rattle.std.specs.Prelude.{ℕ, ◌+◌, ◌==◌, ◌&&◌, ◌||◌, Bool, true, if◌then◌else◌, List, length, take, drop, position, nat_le, Option, None, Some, Result, Ok, Err, codes}
use Rattle.std.specs.Str.{all_ascii_digits}
use Rattle.hv_base.specs.declared.refusal.Refusal.{Refusal}
use Rattle.hv_base.specs.declared.refusal.Refusal.TheVariants as refusal
use Rattle.hv_logic.specs.hv_ast.specs.declared.statement.Setting.{Setting}
use Rattle.hv_typing.specs.Scopes.{same_name}
use Rattle.hv_typing.specs.declared.logic.Logic.{Logic}
use Rattle.hv_typing.specs.declared.logic.Logic.TheVariants as logic

-- one digit at least, and so many at most
abbrev pub is_count : ℕ → List ℕ → Bool
is_count most value = nat_le 1 (length value) && (nat_le (length value) most && all_ascii_digits value)

abbrev pub is_point : ℕ → Bool
is_point b = b == 46

-- n bytes stand before the first point
abbrev pub is_percent_at : List ℕ → Option ℕ → Bool
is_percent_at value None = is_count 3 value
is_percent_at value (Some n) = is_count 3 (take n value) && is_count 3 (drop (n + 1) value)

abbrev pub is_percent : List ℕ → Bool
is_percent value = is_percent_at value (position is_point value)

-- ---- the keys

unfoldable pub is_percent_key : List ℕ → Bool
is_percent_key key = same_name key (codes "hive.compactor.delta.pct.threshold")

unfoldable pub is_count_key : List ℕ → Bool
is_count_key key =
    same_name key (codes "hive.compactor.delta.num.threshold") || same_name key (codes "hive.compactor.abortedtxn.threshold")

unfoldable pub takes_value : Setting → Bool
takes_value setting =
    if is_percent_key setting.key then is_percent setting.value
    else (if is_count_key setting.key then is_count 6 setting.value else true)

unfoldable pub set_analysed : Setting → Result Logic Refusal
set_analysed setting = if takes_value setting then Ok logic.Nothing else Err refusal.BadType
