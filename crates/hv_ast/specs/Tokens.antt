-- The tokens of a statement's text, read from the left, and the first thing in it that is none.
-- Words, numbers, strings, quoted identifiers and operators are those of the Hive Language Manual.
-- What it leaves open is this project's profile: the form of a word, the escapes that are refused,
-- and which numbers are BIGINT.
use Rattle.std.specs.Prelude.{ℕ, zero, suc, ◌+◌, ◌-◌, ◌^◌, ◌==◌, nat_le, nat_lt, nat_eq, Bool, true, false, not, ◌&&◌, ◌||◌, if◌then◌else◌, List, [], ◌∷◌, ◌++◌, length, take, drop, map, find, position, slice_index, Option, Some, None, Result, Ok, Err, pos, codes}
use Rattle.std.specs.List.{take_while, prefix_len, starts_with}
use Rattle.std.specs.Option.{option_map}
use Rattle.std.specs.Char.{is_ascii_alphabetic, is_ascii_alphanumeric, is_ascii_digit, to_ascii_lowercase}
use Rattle.std.specs.Str.Parse.{digits_value}
use Rattle.hv_ast.specs.declared.token.Lexeme.{Lexeme}
use Rattle.hv_ast.specs.declared.token.Lexeme.TheVariants as lexeme
use Rattle.hv_ast.specs.declared.token.Lexeme.TheVariants.{Word, Quoted, Int, Big, Str}
use Rattle.hv_ast.specs.declared.token.Symbol.{Symbol}
use Rattle.hv_ast.specs.declared.token.Symbol.TheVariants as s
use Rattle.hv_ast.specs.declared.token.Token.{Token}

-- the bytes of a text
abbrev pub Text : Type 0
Text = List ℕ

-- why a text has no tokens, with the place of a byte, from 0
pub data Fault : Type 0 where
  bad_character : ℕ → Fault
  open_string : ℕ → Fault
  wide_number : ℕ → Fault

-- What a text begins with, and of how many bytes: a space or a comment, a token, or a fault.
pub data Front : Type 0 where
  gap : ℕ → Front
  token : Lexeme → ℕ → Front
  fault : Fault → Front

-- ---- spaces, comments and words

-- a space, a tab, CR or LF
abbrev pub is_space : ℕ → Bool
is_space b = b == 32 || b == 9 || b == 13 || b == 10

-- a comment, from its `--` to the line's end
abbrev pub comment : Text → Front
comment text = gap (prefix_len (λ b. not (b == 10)) text)

-- A word is a letter or `_`, and then letters, digits and `_`. It is read in lower case.
abbrev pub begins_word : ℕ → Bool
begins_word b = is_ascii_alphabetic b || b == 95

abbrev pub continues_word : ℕ → Bool
continues_word b = is_ascii_alphanumeric b || b == 95

abbrev pub word : Text → Front
word text =
    let letters = take_while continues_word text in
    token (Word (map to_ascii_lowercase letters)) (length letters)

-- ---- numbers: digits, and `L` or `l` behind them for a BIGINT

abbrev pub first_is : (ℕ → Bool) → Text → Bool
first_is p [] = false
first_is p (b ∷ rest) = p b

abbrev pub is_big_mark : ℕ → Bool
is_big_mark b = b == 76 || b == 108

-- a number of n bytes, behind which no word character may stand
abbrev pub lone : ℕ → Text → Lexeme → ℕ → Front
lone at text what n =
    if first_is continues_word (drop n text) then fault (bad_character (at + n)) else token what n

-- INT up to 2147483647
abbrev pub number_of : ℕ → Lexeme
number_of value = if nat_lt value (2 ^ 31) then Int (pos value) else Big (pos value)

abbrev pub number : ℕ → Text → Front
number at text =
    let n = prefix_len is_ascii_digit text in
    let value = digits_value 10 (take n text) in
    if nat_le (2 ^ 63) value then fault (wide_number at)
    else (if first_is is_big_mark (drop n text) then lone at text (Big (pos value)) (n + 1)
    else lone at text (number_of value) n)

-- ---- strings, in single or double quotes

-- How many bytes stand before the closing quote. The truth value says that a backslash takes the
-- first of them, which then closes nothing and takes nothing.
abbrev pub closing : ℕ → Bool → Text → Option ℕ
closing quote taken [] = None
closing quote taken (b ∷ rest) =
    if not taken && b == quote then Some 0
    else option_map suc (closing quote (not taken && b == 92) rest)

-- the escapes of Hive that are left out: a digit, `b`, `u` and `Z`
abbrev pub is_refused_escape : ℕ → Bool
is_refused_escape c = is_ascii_digit c || c == 98 || c == 117 || c == 90

-- What a backslash and this character stand for: `\n` for LF, `\t` for a tab, `\r` for CR,
-- `\%` and `\_` for themselves, and any other for the character.
abbrev pub escape : ℕ → Text
escape c =
    if c == 110 then 10 ∷ [] else (if c == 116 then 9 ∷ [] else (if c == 114 then 13 ∷ []
    else (if c == 37 || c == 95 then 92 ∷ c ∷ [] else c ∷ [])))

abbrev pub behind : Text → Result Text Fault → Result Text Fault
behind first (Ok rest) = Ok (first ++ rest)
behind first (Err e) = Err e

-- What the text between two quotes stands for, from the place `at` on. The truth value says that a
-- backslash takes its first character.
abbrev pub unescaped : Bool → ℕ → Text → Result Text Fault
unescaped taken at [] = Ok []
unescaped true at (c ∷ rest) =
    if is_refused_escape c then Err (bad_character (at - 1))
    else behind (escape c) (unescaped false (at + 1) rest)
unescaped false at (c ∷ rest) =
    if c == 92 then unescaped true (at + 1) rest
    else behind (c ∷ []) (unescaped false (at + 1) rest)

abbrev pub quoted_by : ℕ → Result Text Fault → Front
quoted_by n (Ok text) = token (Str text) n
quoted_by n (Err e) = fault e

-- n bytes stand before the closing quote
abbrev pub string_until : ℕ → Text → Option ℕ → Front
string_until at rest None = fault (open_string at)
string_until at rest (Some n) = quoted_by (n + 2) (unescaped false (at + 1) (take n rest))

-- a string whose opening quote is at `at`, with the text behind that quote
abbrev pub string : ℕ → ℕ → Text → Front
string at quote rest = string_until at rest (closing quote false rest)

-- ---- identifiers in backquotes: one printable ASCII character or more, read in lower case

abbrev pub is_printable : ℕ → Bool
is_printable b = nat_le 32 b && nat_lt b 127

abbrev pub is_backquote : ℕ → Bool
is_backquote b = b == 96

abbrev pub name_of : ℕ → Text → Option ℕ → Front
name_of at [] bad = fault (bad_character at)
name_of at name None = token (Quoted (map to_ascii_lowercase name)) (length name + 2)
name_of at name (Some bad) = fault (bad_character (at + 1 + bad))

-- n bytes stand before the closing backquote
abbrev pub quoted_until : ℕ → Text → Option ℕ → Front
quoted_until at rest None = fault (open_string at)
quoted_until at rest (Some n) =
    name_of at (take n rest) (position (λ b. not (is_printable b)) (take n rest))

-- an identifier whose opening backquote is at `at`, with the text behind it
abbrev pub quoted : ℕ → Text → Front
quoted at rest = quoted_until at rest (position is_backquote rest)

-- ---- symbols with their spellings, each before those that it begins with

unfoldable pub symbols : List (Text × Symbol)
symbols =
    (codes "<=>", s.NullSafeEqual)
    ∷ (codes "==", s.EqualTwice)
    ∷ (codes "<>", s.Unequal)
    ∷ (codes "!=", s.BangEqual)
    ∷ (codes "<=", s.AtMost)
    ∷ (codes ">=", s.AtLeast)
    ∷ (codes "=", s.Equal)
    ∷ (codes "<", s.Less)
    ∷ (codes ">", s.Greater)
    ∷ (codes "(", s.Open)
    ∷ (codes ")", s.Close)
    ∷ (codes "[", s.OpenIndex)
    ∷ (codes "]", s.CloseIndex)
    ∷ (codes ",", s.Comma)
    ∷ (codes ".", s.Dot)
    ∷ (codes "*", s.Star)
    ∷ (codes "+", s.Plus)
    ∷ (codes "-", s.Minus)
    ∷ (codes "%", s.Percent) ∷ []

abbrev pub symbol_of : ℕ → Option (Text × Symbol) → Front
symbol_of at None = fault (bad_character at)
symbol_of at (Some row) = token (lexeme.Symbol row.1) (length row.0)

-- the first symbol that the text begins with
abbrev pub symbol : ℕ → Text → Front
symbol at text = symbol_of at (find (λ row. starts_with nat_eq text row.0) symbols)

-- ---- the whole text

abbrev pub is_quote : ℕ → Bool
is_quote b = b == 39 || b == 34

-- what a text begins with, whose first byte is at `at`
abbrev pub front : ℕ → Text → Front
front at text =
    let first = slice_index text 0 in
    if is_space first then gap 1
    else (if starts_with nat_eq text (codes "--") then comment text
    else (if begins_word first then word text
    else (if is_ascii_digit first then number at text
    else (if is_quote first then string at first (drop 1 text)
    else (if is_backquote first then quoted at (drop 1 text)
    else symbol at text)))))

abbrev pub Tokens : Type 0
Tokens = Result (List Token) Fault

abbrev pub after_token : Token → Tokens → Tokens
after_token first (Ok rest) = Ok (first ∷ rest)
after_token first (Err e) = Err e

-- the tokens that begin with this front, where `rest` gives those behind so many bytes
abbrev pub from_front : ℕ → Front → (ℕ → Tokens) → Tokens
from_front at (gap n) rest = rest n
from_front at (token what n) rest = after_token (record { what = what; at = at }) (rest n)
from_front at (fault e) rest = Err e

-- The tokens of a text that stands at `at`, behind the `left` bytes that are left of what began
-- before.
abbrev pub tokens_from : ℕ → ℕ → Text → Tokens
tokens_from left at [] = Ok []
tokens_from (suc left) at (b ∷ rest) = tokens_from left (at + 1) rest
tokens_from zero at (b ∷ rest) =
    from_front at (front at (b ∷ rest)) (λ n. tokens_from (n - 1) (at + 1) rest)

-- the tokens of a text, or its first fault
unfoldable pub tokens_of : Text → Tokens
tokens_of text = tokens_from 0 0 text
