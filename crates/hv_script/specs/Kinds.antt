-- What an item of a script is: a statement or a directive. This project's profile, after the scripts that
-- Hive's beeline takes. A directive is `!session NAME`, `!hold STAGE`, `!go NAME`, `!compact`, `!clean` or
-- `!barrier`, with one space between its parts; spaces, tabs and CR at its end don't count. NAME is 1 to 32 ASCII
-- letters, digits and `_`. STAGE is `start`, `read` or `commit`. No other directive is known yet.
use Rattle.std.specs.Prelude.{ℕ, ◌-◌, ◌==◌, ◌&&◌, ◌||◌, Bool, if◌then◌else◌, Option, Some, None, List, length, take, drop, codes, nat_eq, nat_le, nat_lt}
use Rattle.std.specs.Cmp.Lexicographic.{pointwise}
use Rattle.std.specs.List.{list_all, suffix_len}
use Rattle.hv_base.specs.declared.gate.Stage.TheVariants.{Start, Read, Commit}
use Rattle.hv_script.specs.Items.{tab, carriage_return, space, first_of}
use Rattle.hv_script.specs.Script.{begins_directive}
use Rattle.hv_script.specs.declared.kinds.Kind.{Kind}
use Rattle.hv_script.specs.declared.kinds.Kind.TheVariants.{Statement, Session, Hold, Go, Compact, Clean, Barrier, Unknown}
use Rattle.hv_script.specs.declared.kinds.TheConstants.{MAX_NAME}

abbrev pub same_text : List ℕ → List ℕ → Bool
same_text text other = pointwise nat_eq text other

abbrev pub trails : ℕ → Bool
trails b = b == space || b == tab || b == carriage_return

-- a directive without what doesn't count at its end
abbrev pub without_trail : List ℕ → List ℕ
without_trail bytes = take (length bytes - suffix_len trails bytes) bytes

abbrev pub underscore : ℕ
underscore = 95

abbrev pub in_range : ℕ → ℕ → ℕ → Bool
in_range low high b = nat_le low b && nat_le b high

-- an ASCII letter, a digit or `_`
abbrev pub is_name_byte : ℕ → Bool
is_name_byte b = in_range 97 122 b || in_range 65 90 b || in_range 48 57 b || b == underscore

abbrev pub is_name : List ℕ → Bool
is_name name = nat_lt 0 (length name) && nat_le (length name) MAX_NAME && list_all is_name_byte name

-- what stands behind a front of a line
abbrev pub behind : List ℕ → List ℕ → Option (List ℕ)
behind front line = if pointwise nat_eq (take (length front) line) front then Some (drop (length front) line) else None

abbrev pub named : (List ℕ → Kind) → List ℕ → Kind
named make name = if is_name name then make name else Unknown

abbrev pub hold_of : List ℕ → Kind
hold_of stage =
    if same_text stage (codes "start") then Hold Start
    else (if same_text stage (codes "read") then Hold Read
    else (if same_text stage (codes "commit") then Hold Commit else Unknown))

-- by what stands behind a front, or else another way
abbrev pub or_else : (List ℕ → Kind) → Option (List ℕ) → Kind → Kind
or_else make None other = other
or_else make (Some rest) other = make rest

-- a directive of one word
abbrev pub word_kind : List ℕ → Kind
word_kind word =
    if same_text word (codes "!compact") then Compact
    else (if same_text word (codes "!clean") then Clean
    else (if same_text word (codes "!barrier") then Barrier else Unknown))

abbrev pub directive_of : List ℕ → Kind
directive_of line =
    or_else (named Session) (behind (codes "!session ") line)
    (or_else hold_of (behind (codes "!hold ") line)
    (or_else (named Go) (behind (codes "!go ") line) (word_kind line)))

abbrev pub kind_of : List ℕ → Kind
kind_of bytes = if begins_directive (first_of bytes) then directive_of (without_trail bytes) else Statement
