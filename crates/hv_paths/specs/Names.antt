-- The names of files and folders. A table's folder holds folders for the pieces of a partition's text
-- and for directories of files, and the names keep the two apart: a piece has a `=`, a directory has
-- none, and what isn't so, or would begin with a dot or a mark, has a mark in front.
-- Source: Hive's layout of partitions; the marks are this project's profile.

use Rattle.std.specs.Prelude.{◌≡◌, ℕ, ◌-◌, List, [], ◌∷◌, ◌++◌, length, replicate, Bool, true, false, not, ◌&&◌, ◌||◌, ◌==◌, if◌then◌else◌, map, codes}
use Rattle.std.specs.Char.{is_ascii_digit}
use Rattle.std.specs.Fmt.{decimal}
use Rattle.std.specs.List.{list_all, list_any, slice_split}
use Rattle.hv_paths.specs.declared.names.Entry.{Entry}
use Rattle.hv_paths.specs.declared.names.Entry.TheVariants.{Piece, Dir, Other}

-- the bytes `/`, `0`, `=`, `.`, `%` and `@`
abbrev pub slash : ℕ
slash = 47

abbrev pub zero_digit : ℕ
zero_digit = 48

abbrev pub equals_sign : ℕ
equals_sign = 61

abbrev pub dot : ℕ
dot = 46

abbrev pub piece_mark : ℕ
piece_mark = 37

abbrev pub dir_mark : ℕ
dir_mark = 64

-- empty, or begun by a dot or a mark
abbrev pub is_marked : List ℕ → Bool
is_marked [] = true
is_marked (byte ∷ bytes) = (byte == dot) || ((byte == piece_mark) || (byte == dir_mark))

abbrev pub has_equals : List ℕ → Bool
has_equals name = list_any (λ byte. byte == equals_sign) name

-- the folder of one piece of a partition's text, as `ds=2024-01-01`
abbrev pub piece_name : List ℕ → List ℕ
piece_name piece =
    if has_equals piece && not (is_marked piece) then piece else piece_mark ∷ piece

-- the folder of a directory of files, as `delta_0000001_0000001_0000`
abbrev pub dir_name : List ℕ → List ℕ
dir_name dir =
    if has_equals dir || is_marked dir then dir_mark ∷ dir else dir

-- what a name of such a folder stands for
abbrev pub Names : Entry → List ℕ → Type 0
Names (Piece piece) name = piece_name piece.now ≡ name
Names (Dir dir) name = dir_name dir.now ≡ name
Names Other name =
    ((piece : List ℕ) → ¬ (piece_name piece ≡ name)) × ((dir : List ℕ) → ¬ (dir_name dir ≡ name))

-- a number in decimal digits, with zeros in front up to a width
abbrev pub padded : ℕ → ℕ → List ℕ
padded width number =
    replicate (width - length (decimal number)) zero_digit ++ decimal number

-- the folder of a table, as `0000001`
abbrev pub table_name : ℕ → List ℕ
table_name table = padded 7 table

-- a name that a table's folder may have: digits alone, and one at least
abbrev pub is_table : List ℕ → Bool
is_table [] = false
is_table (byte ∷ bytes) = is_ascii_digit byte && list_all is_ascii_digit bytes

-- a file, as `bucket_00000`
abbrev pub bucket_name : ℕ → List ℕ
bucket_name bucket = codes "bucket_" ++ padded 5 bucket

-- the pieces of a partition's text; the empty text has none
abbrev pub pieces_of : List ℕ → List (List ℕ)
pieces_of [] = []
pieces_of (byte ∷ bytes) = slice_split (λ b. b == slash) (byte ∷ bytes)

-- the names of the folders from the folder of all tables down to a directory
abbrev pub folders_of : (table : ℕ) (partition dir : List ℕ) → List (List ℕ)
folders_of table partition dir =
    table_name table ∷ (map piece_name (pieces_of partition) ++ dir_name dir ∷ [])

-- the path that leads from a folder through folders of these names
abbrev pub path_below : List ℕ → List (List ℕ) → List ℕ
path_below path [] = path
path_below path (name ∷ names) = path_below (path ++ slash ∷ name) names

-- ## Names that stay in their folder

abbrev pub has_slash : List ℕ → Bool
has_slash name = list_any (λ byte. byte == slash) name

-- empty, or begun by a dot, as the folder's own name and that of the folder above
abbrev pub is_dotted : List ℕ → Bool
is_dotted [] = true
is_dotted (byte ∷ bytes) = byte == dot

-- a name of something in a folder, and no way out of it
abbrev pub is_name : List ℕ → Bool
is_name name = not (has_slash name) && not (is_dotted name)
