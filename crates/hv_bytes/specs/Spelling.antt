-- How the fields that files and journals share are spelled in bytes (this project's profile): numbers are
-- big-endian, and a text is its length in four bytes and its bytes in UTF-8. A list is its length and its
-- items one behind the other, which is `flat_map`.
use Rattle.std.specs.Prelude.{ℕ, ◌<◌, ◌^◌, List, ◌++◌, length}
use Rattle.std.specs.Int.{to_be_bytes, w16, w32, w64}
use Rattle.std.specs.Str.{IsUtf8}

unfoldable pub two_bytes : ℕ → List ℕ
two_bytes n = to_be_bytes w16 n

unfoldable pub four_bytes : ℕ → List ℕ
four_bytes n = to_be_bytes w32 n

unfoldable pub eight_bytes : ℕ → List ℕ
eight_bytes n = to_be_bytes w64 n

unfoldable pub text_spelling : List ℕ → List ℕ
text_spelling text = four_bytes (length text) ++ text

-- what is spelled in four bytes, and in eight
abbrev pub IsU32 : ℕ → Type 0
IsU32 n = n < 2 ^ 32

abbrev pub IsU64 : ℕ → Type 0
IsU64 n = n < 2 ^ 64

-- what is spelled as a text
pub record IsText (text : List ℕ) : Type 0 where
  pub short : length text < 2 ^ 32
  pub utf8 : IsUtf8 text
