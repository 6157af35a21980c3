-- SET texts, which are read from their bytes and not from tokens. Source: Hive Language Manual,
-- Commands (`set <key>=<value>`). That quotes and comments mean nothing behind the word SET, and
-- that the key isn't folded, is this project's profile.
use Rattle.std.specs.Prelude.{ℕ, ◌+◌, ◌-◌, ◌==◌, not, nat_eq, Bool, true, false, if◌then◌else◌, [], ◌∷◌, length, take, drop, position, Option, Some, None, codes}
use Rattle.std.specs.List.{take_while, prefix_len, suffix_len, starts_with}
use Rattle.std.specs.Str.{str_eq_ignore_ascii_case}
use Rattle.hv_ast.specs.declared.statement.Setting.{Setting}
use Rattle.hv_ast.specs.Tokens.{Text, is_space, continues_word}

-- The text behind the spaces and comments that it begins with. The truth value says that a comment
-- was begun, which goes to its line's end.
abbrev pub behind_gaps : Bool → Text → Text
behind_gaps comment [] = []
behind_gaps true (b ∷ rest) = behind_gaps (not (b == 10)) rest
behind_gaps false (b ∷ rest) =
    if is_space b then behind_gaps false rest
    else (if starts_with nat_eq (b ∷ rest) (codes "--") then behind_gaps true rest else b ∷ rest)

-- what stands behind the word SET that a text begins with
abbrev pub behind_word : Text → Option Text
behind_word text =
    if str_eq_ignore_ascii_case (take_while continues_word text) (codes "set") then Some (drop 3 text) else None

-- what stands behind SET, where that is a text's first word
unfoldable pub behind_set : Text → Option Text
behind_set text = behind_word (behind_gaps false text)

-- without its outer spaces, tabs, CR and LF
abbrev pub without_end : Text → Text
without_end text = take (length text - suffix_len is_space text) text

abbrev pub trimmed : Text → Text
trimmed text = without_end (drop (prefix_len is_space text) text)

abbrev pub is_equals : ℕ → Bool
is_equals b = b == 61

abbrev pub setting_by : Text → Text → Option Setting
setting_by [] value = None
setting_by (b ∷ key) value = Some (record { key = b ∷ key; value = value })

-- n bytes stand before the first `=`
abbrev pub setting_at : Text → Option ℕ → Option Setting
setting_at text None = None
setting_at text (Some n) = setting_by (trimmed (take n text)) (trimmed (drop (n + 1) text))

-- key = value: the key goes to the first `=`, and isn't empty
unfoldable pub setting_in : Text → Option Setting
setting_in text = setting_at text (position is_equals text)
