-- The live tables that a statement sees, by name.
use Rattle.std.specs.Prelude.{ℕ, nat_eq, if◌then◌else◌, Option, Some, None, List, [], ◌∷◌}
use Rattle.std.specs.Cmp.Lexicographic.{pointwise}
use Rattle.hv_logic.specs.declared.seen.Seen.{Seen}

-- the table of that name
abbrev pub named : List ℕ → List Seen → Option Seen
named name [] = None
named name (seen ∷ tables) = if pointwise nat_eq seen.info.shape.name name then Some seen else named name tables
