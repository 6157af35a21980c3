-- The functions of SQL on texts, over characters (Hive Language Manual, string functions). A text is
-- its bytes; its characters are Unicode code points, and places count characters.
use Rattle.std.specs.Prelude.{ℕ, suc, ◌+◌, ◌-◌, ◌==◌, ◌&&◌, if◌then◌else◌, Bool, true, false, nat_le, List, [], ◌∷◌, map, reverse, length, take, drop, ℤ, pos, negsuc, Option, None, Some}
use Rattle.std.specs.Str.{chars, encode_utf8_all}
use Rattle.std.specs.Char.{to_ascii_lowercase, to_ascii_uppercase}

abbrev pub space : ℕ
space = 32

-- the text whose characters are these of another's
abbrev pub by_characters : (List ℕ → List ℕ) → List ℕ → List ℕ
by_characters change text = encode_utf8_all (change (chars text))

-- ---- length

abbrev pub character_count : List ℕ → ℕ
character_count text = length (chars text)

-- ---- lower, upper: ASCII letters alone (this project's profile)

abbrev pub lowered : List ℕ → List ℕ
lowered text = by_characters (map to_ascii_lowercase) text

abbrev pub raised : List ℕ → List ℕ
raised text = by_characters (map to_ascii_uppercase) text

-- ---- trim: the outer spaces are removed, and no other white space (this project's profile)

abbrev pub without_front_spaces : List ℕ → List ℕ
without_front_spaces [] = []
without_front_spaces (c ∷ cs) = if c == space then without_front_spaces cs else c ∷ cs

abbrev pub without_end_spaces : List ℕ → List ℕ
without_end_spaces cs = reverse (without_front_spaces (reverse cs))

abbrev pub trimmed : List ℕ → List ℕ
trimmed text = by_characters (λ cs. without_end_spaces (without_front_spaces cs)) text

-- ---- substr

-- From a place on: 1 is the first character, and so is 0; a negative place counts from the end. A
-- place outside gives nothing.
abbrev pub from_place : ℤ → List ℕ → List ℕ
from_place (pos place) cs = drop (place - 1) cs
from_place (negsuc before) cs = if nat_le (suc before) (length cs) then drop (length cs - suc before) cs else []

-- so many characters at most; below 1 none
abbrev pub first_of : ℤ → List ℕ → List ℕ
first_of (pos count) cs = take count cs
first_of (negsuc _) cs = []

abbrev pub substring_from : List ℕ → ℤ → List ℕ
substring_from text place = by_characters (from_place place) text

abbrev pub substring : List ℕ → ℤ → ℤ → List ℕ
substring text place count = by_characters (λ cs. first_of count (from_place place cs)) text

-- ---- instr

abbrev pub begins_with : List ℕ → List ℕ → Bool
begins_with [] cs = true
begins_with (p ∷ ps) [] = false
begins_with (p ∷ ps) (c ∷ cs) = (p == c) && begins_with ps cs

-- how many characters stand before the first place where the part begins, behind so many
abbrev pub skipped_before : ℕ → List ℕ → List ℕ → Option ℕ
skipped_before skipped part [] = if begins_with part [] then Some skipped else None
skipped_before skipped part (c ∷ cs) =
    if begins_with part (c ∷ cs) then Some skipped else skipped_before (skipped + 1) part cs

unfoldable pub found_behind : List ℕ → List ℕ → Option ℕ
found_behind text part = skipped_before 0 (chars part) (chars text)
