-- The texts that are known here: INSERTs of written out values, by their bytes. Of each part stands here what comes after it,
-- None where the text doesn't begin with one. Spaces may stand before each mark, word, number and text in quotes; a comment may not.
use Rattle.std.specs.Prelude.{ℕ, zero, suc, ◌^◌, ◌==◌, Bool, true, false, not, ◌&&◌, ◌||◌, if◌then◌else◌, nat_lt, [], ◌∷◌, drop, take, map, length, slice_index, Option, Some, None, Result, Ok, Err, codes}
use Rattle.std.specs.Char.{is_ascii_digit, to_ascii_lowercase}
use Rattle.std.specs.Str.{is_utf8}
use Rattle.std.specs.Str.Parse.{digits_value}
use Rattle.hv_ast.specs.Tokens.{Text, Fault, is_quote, begins_word, continues_word, closing, unescaped}
use Rattle.hv_grammar.specs.declared.kind.Kind.TheVariants as k
use Rattle.hv_grammar.specs.Kinds.{same_kind, word_kind}
use Rattle.hv_values_text.specs.Fronts.{after_spaces, next_of, after_next, letters_of, after_letters, sees_word, digits_of, after_digits}

abbrev pub Way : Type 0
Way = Text → Option Text

-- after a part that ends here or isn't there, the next
abbrev pub go_on : Option Text → Way → Option Text
go_on None next = None
go_on (Some rest) next = next rest

infixr 10 ◌>>◌
abbrev pub ◌>>◌ : Way → Way → Way
first >> next = λ text. go_on (first text) next

-- ---- marks, words and names

-- this byte
unfoldable pub mark : ℕ → Way
mark byte text = if next_of text == byte then Some (after_next text) else None

-- the same, where it doesn't stand there twice
unfoldable pub single : ℕ → Way
single byte text = go_on (mark byte text) (λ rest. if slice_index rest 0 == byte then None else Some rest)

-- this word, in any case
unfoldable pub word : Text → Way
word spelling text = if sees_word spelling text then Some (after_letters text) else None

-- a word that is no keyword
unfoldable pub name : Way
name text =
    if begins_word (next_of text) && same_kind (word_kind (map to_ascii_lowercase (letters_of text))) k.Name then Some (after_letters text)
    else None

-- ---- literals

-- digits before no letter, of a number below 9223372036854775808
unfoldable pub number : Way
number text =
    if is_ascii_digit (next_of text) && (not (continues_word (slice_index (after_digits text) 0)) && nat_lt (digits_value 10 (digits_of text)) (2 ^ 63))
    then Some (after_digits text) else None

-- what stands between quotes is a text
abbrev pub is_content : Result Text Fault → Bool
is_content (Ok content) = is_utf8 content
is_content (Err e) = false

-- by how many bytes stand before the closing quote
abbrev pub behind_quote : Text → Option ℕ → Option Text
behind_quote inner None = None
behind_quote inner (Some n) = if is_content (unescaped false 1 (take n inner)) then Some (drop 1 (drop n inner)) else None

-- a text in quotes
unfoldable pub quoted : Way
quoted text = if is_quote (next_of text) then behind_quote (after_next text) (closing (next_of text) false (after_next text)) else None

-- `-` and a number
unfoldable pub negative : Way
negative = single 45 >> number

unfoldable pub null : Way
null = word (codes "null")

-- DATE and a text in quotes
unfoldable pub date : Way
date = word (codes "date") >> quoted

-- TRUE or FALSE
unfoldable pub truth : Way
truth text = if sees_word (codes "true") text then Some (after_letters text) else word (codes "false") text

-- a number with `-` or without, a text in quotes, a DATE, TRUE, FALSE or NULL: which one, its first byte says
unfoldable pub literal : Way
literal text =
    let first = next_of text in
    if is_ascii_digit first then number text
    else (if is_quote first then quoted text
    else (if first == 45 then negative text
    else (if first == 110 || first == 78 then null text
    else (if first == 100 || first == 68 then date text
    else truth text))))

-- ---- rows of parts, with commas between them

-- further parts, each after a comma, as many as come, but no more than this
unfoldable pub more : Way → ℕ → Way
more part zero text = Some text
more part (suc turns) text = if next_of text == 44 then go_on (part (after_next text)) (more part turns) else Some text

-- there are never more parts than bytes
unfoldable pub separated : Way → Way
separated part text = go_on (part text) (λ rest. more part (length rest) rest)

unfoldable pub values : Way
values = separated literal

-- ( literal {, literal} )
unfoldable pub row : Way
row = mark 40 >> values >> mark 41

unfoldable pub rows : Way
rows = separated row

unfoldable pub names : Way
names = separated name

-- [( name {, name} )]
unfoldable pub column_names : Way
column_names text = if next_of text == 40 then go_on (names (after_next text)) (mark 41) else Some text

-- [= literal]
unfoldable pub item_value : Way
item_value text = if next_of text == 61 then go_on (single 61 text) literal else Some text

-- name [= literal]
unfoldable pub item : Way
item = name >> item_value

unfoldable pub items : Way
items = separated item

-- [PARTITION ( name [= literal] {, name [= literal]} )]
unfoldable pub partition : Way
partition text = if sees_word (codes "partition") text then (mark 40 >> items >> mark 41) (after_letters text) else Some text

-- ---- the whole

-- INTO [TABLE]
unfoldable pub into : Way
into text = go_on (word (codes "into") text) (λ rest. if sees_word (codes "table") rest then Some (after_letters rest) else Some rest)

-- INSERT INTO [TABLE] name [PARTITION ( .. )] [( name {, name} )] VALUES row {, row}
unfoldable pub insertion : Way
insertion = word (codes "insert") >> into >> name >> partition >> column_names >> word (codes "values") >> rows

abbrev pub is_nothing : Text → Bool
is_nothing [] = true
is_nothing (b ∷ rest) = false

abbrev pub ends : Option Text → Bool
ends None = false
ends (Some rest) = is_nothing (after_spaces rest)

-- an INSERT of written out values, and then nothing but spaces
unfoldable pub is_insert_of_values : Text → Bool
is_insert_of_values text = ends (insertion text)
