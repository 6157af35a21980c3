-- What stands at the front of a text, as it is taken from its bytes: a mark, a word, a name, a number,
-- a text in quotes. Spaces before it are passed; a comment isn't.
use Rattle.std.specs.Prelude.{◌≡◌, ◌<◌, ◌^◌, ℕ, pos, ◌==◌, Bool, true, false, not, ◌&&◌, if◌then◌else◌, nat_lt, [], ◌∷◌, drop, take, map, slice_index, Some, Ok}
use Rattle.std.specs.List.{take_while, prefix_len}
use Rattle.std.specs.Char.{is_ascii_digit, to_ascii_lowercase}
use Rattle.std.specs.Str.{str_eq_ignore_ascii_case}
use Rattle.std.specs.Str.Parse.{digits_value}
use Rattle.hv_ast.specs.declared.expr.Literal.{Literal}
use Rattle.hv_ast.specs.declared.expr.Literal.TheVariants as l
use Rattle.hv_ast.specs.Tokens.{Text, is_space, is_quote, begins_word, continues_word, closing, unescaped}
use Rattle.hv_grammar.specs.declared.kind.Kind.TheVariants as k
use Rattle.hv_grammar.specs.Kinds.{word_kind}

-- the text after the spaces that it begins with
abbrev pub after_spaces : Text → Text
after_spaces [] = []
after_spaces (b ∷ rest) = if is_space b then after_spaces rest else b ∷ rest

-- ---- marks

-- the first byte after spaces, 0 at the text's end, and what stands after it
abbrev pub next_of : Text → ℕ
next_of text = slice_index (after_spaces text) 0

abbrev pub after_next : Text → Text
after_next text = drop 1 (after_spaces text)

-- after spaces stands this byte, and the rest after it
abbrev pub IsMark : ℕ → Text → Text → Type 0
IsMark byte text rest = ((next_of text == byte) ≡ true) × (rest ≡ after_next text)

-- the same, where the byte doesn't stand there twice
abbrev pub IsSingle : ℕ → Text → Text → Type 0
IsSingle byte text rest = IsMark byte text rest × ((slice_index rest 0 == byte) ≡ false)

-- ---- words

abbrev pub letters_of : Text → Text
letters_of text = take_while continues_word (after_spaces text)

abbrev pub after_letters : Text → Text
after_letters text = drop (prefix_len continues_word (after_spaces text)) (after_spaces text)

-- whether this word stands after spaces, in any case
abbrev pub sees_word : Text → Text → Bool
sees_word word text = begins_word (next_of text) && str_eq_ignore_ascii_case (letters_of text) word

-- after spaces stands this word, in any case, and the rest after it
abbrev pub IsWord : Text → Text → Text → Type 0
IsWord word text rest = (sees_word word text ≡ true) × (rest ≡ after_letters text)

-- after spaces stands a word that is no keyword, which is this in lower case, and the rest after it
abbrev pub IsName : Text → Text → Text → Type 0
IsName name text rest =
    (begins_word (next_of text) ≡ true) × (name ≡ map to_ascii_lowercase (letters_of text))
    × (word_kind name ≡ k.Name) × (rest ≡ after_letters text)

-- ---- numbers

-- INT up to 2147483647
abbrev pub literal_of : ℕ → Literal
literal_of value = if nat_lt value (2 ^ 31) then l.Int (pos value) else l.Big (pos value)

abbrev pub digits_of : Text → Text
digits_of text = take (prefix_len is_ascii_digit (after_spaces text)) (after_spaces text)

abbrev pub after_digits : Text → Text
after_digits text = drop (prefix_len is_ascii_digit (after_spaces text)) (after_spaces text)

-- after spaces stand digits, which write this number, and after them the rest, which begins with no
-- character of a word
abbrev pub IsNumber : Literal → Text → Text → Type 0
IsNumber literal text rest =
    (is_ascii_digit (next_of text) ≡ true) × (digits_value 10 (digits_of text) < 2 ^ 63)
    × (literal ≡ literal_of (digits_value 10 (digits_of text)))
    × (continues_word (slice_index rest 0) ≡ false) × (rest ≡ after_digits text)

-- ---- texts in quotes

-- neither the quote nor a backslash
abbrev pub is_plain : ℕ → ℕ → Bool
is_plain quote b = not (b == quote) && not (b == 92)

-- between a quote and the next stands what stands for this content, and the rest after it
abbrev pub IsQuotedBy : ℕ → Text → Text → Text → Type 0
IsQuotedBy quote inner content rest =
    (is_quote quote ≡ true)
    × ((n : ℕ) × (closing quote false inner ≡ Some n) × (unescaped false 1 (take n inner) ≡ Ok content) × (rest ≡ drop 1 (drop n inner)))

-- after spaces stands a text in quotes, of this content, and the rest after it
abbrev pub IsQuoted : Text → Text → Text → Type 0
IsQuoted content text rest = IsQuotedBy (next_of text) (after_next text) content rest
