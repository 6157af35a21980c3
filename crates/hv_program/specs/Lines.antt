-- The lines of runs that do nothing.
use Rattle.std.specs.Prelude.{ℕ, List, ◌++◌, codes}
use Rattle.std.specs.Fmt.{decimal}

unfoldable pub words_line : List ℕ
words_line = codes "hive: bad words\n"

unfoldable pub script_line : ℕ → List ℕ
script_line line = codes "hive: script refused at line " ++ decimal line ++ codes "\n"

unfoldable pub journal_line : ℕ → List ℕ
journal_line at = codes "hive: bad journal at byte " ++ decimal at ++ codes "\n"

unfoldable pub full_line : List ℕ
full_line = codes "hive: journal full\n"
