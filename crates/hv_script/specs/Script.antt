-- Where the bytes of a script are refused: it is UTF-8, and not too long. This project's profile. What its items are, and where these
-- are refused, is another crate's.
use Rattle.std.specs.Prelude.{ℕ, ◌+◌, ◌==◌, Bool, false, if◌then◌else◌, Option, Some, None, List, length, take, min, count_by, nat_lt}
use Rattle.std.specs.List.{AllByRecursion}
use Rattle.std.specs.Str.{IsUtf8, is_utf8}
use Rattle.std.specs.Str.Lossy.{utf8_valid_len}
use Rattle.hv_script.specs.declared.script.TheConstants.{MAX_SCRIPT}
use Rattle.hv_script.specs.declared.items.Item.{Item}
use Rattle.hv_script.specs.Items.{exclamation_mark, line_feed}

-- the line on which the byte at a place stands
abbrev pub line_at : ℕ → List ℕ → ℕ
line_at place script = 1 + count_by (λ b. b == line_feed) (take place script)

-- the line of the first byte that isn't UTF-8: the one behind the longest front that is
abbrev pub broken_line : List ℕ → Option ℕ
broken_line bytes = if is_utf8 bytes then None else Some (line_at (utf8_valid_len bytes) bytes)

-- the line of the first byte that is too much
abbrev pub limit_line : List ℕ → Option ℕ
limit_line script = if nat_lt MAX_SCRIPT (length script) then Some (line_at MAX_SCRIPT script) else None

abbrev pub begins_directive : Option ℕ → Bool
begins_directive None = false
begins_directive (Some b) = b == exclamation_mark

abbrev pub earlier : Option ℕ → Option ℕ → Option ℕ
earlier None other = other
earlier (Some line) None = Some line
earlier (Some line) (Some other) = Some (min line other)

-- what of a script is read
abbrev pub front : List ℕ → List ℕ
front script = take MAX_SCRIPT script

-- the line at which a script's bytes are refused
abbrev pub bytes_line : List ℕ → Option ℕ
bytes_line script = earlier (broken_line (front script)) (limit_line script)

-- each item is UTF-8
abbrev pub HaveUtf8 : List Item → Type 0
HaveUtf8 items = AllByRecursion (λ (item : Item). IsUtf8 item.bytes) items
