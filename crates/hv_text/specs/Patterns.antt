-- LIKE (Hive Language Manual, relational operators): the pattern stands for whole texts.
use Rattle.std.specs.Prelude.{ℕ, ◌==◌, ◌&&◌, ◌||◌, if◌then◌else◌, Bool, true, false, List, [], ◌∷◌}
use Rattle.std.specs.Str.{chars}
use Rattle.hv_text.specs.declared.pattern.Part.{Part}
use Rattle.hv_text.specs.declared.pattern.Part.TheVariants as part

abbrev pub backslash : ℕ
backslash = 92

abbrev pub percent : ℕ
percent = 37

abbrev pub underscore : ℕ
underscore = 95

abbrev pub part_of : ℕ → Part
part_of c = if c == percent then part.Any else if c == underscore then part.One else part.Plain c

-- A backslash makes the next character plain, and a lone last one is plain itself (this project's
-- profile). The flag says whether a backslash has just been read.
abbrev pub parts_of : Bool → List ℕ → List Part
parts_of true [] = part.Plain backslash ∷ []
parts_of false [] = []
parts_of true (c ∷ cs) = part.Plain c ∷ parts_of false cs
parts_of false (c ∷ cs) = if c == backslash then parts_of true cs else part_of c ∷ parts_of false cs

-- some end of the list passes the test
abbrev pub some_end : (List ℕ → Bool) → List ℕ → Bool
some_end test [] = test []
some_end test (c ∷ cs) = test (c ∷ cs) || some_end test cs

abbrev pub is_any : Part → Bool
is_any part.Any = true
is_any part.One = false
is_any (part.Plain p) = false

-- the part stands for this one character
abbrev pub takes : Part → ℕ → Bool
takes part.Any c = true
takes part.One c = true
takes (part.Plain p) c = p == c

-- the parts stand for the characters, from the first to the last
abbrev pub fits : List Part → List ℕ → Bool
fits [] [] = true
fits [] (c ∷ cs) = false
fits (part.Any ∷ parts) cs = some_end (fits parts) cs
fits (part.One ∷ parts) [] = false
fits (part.One ∷ parts) (c ∷ cs) = takes part.One c && fits parts cs
fits (part.Plain p ∷ parts) [] = false
fits (part.Plain p ∷ parts) (c ∷ cs) = takes (part.Plain p) c && fits parts cs

abbrev pub pattern_parts : List ℕ → List Part
pattern_parts pattern = parts_of false (chars pattern)

unfoldable pub is_like : List ℕ → List ℕ → Bool
is_like text pattern = fits (pattern_parts pattern) (chars text)
