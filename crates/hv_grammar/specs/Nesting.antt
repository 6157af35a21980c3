-- How deep a text nests: `(`, `[` and CASE open a level, `)`, `]` and END close one. Hive has no such
-- limit; 64 levels are this project's profile.
use Rattle.std.specs.Prelude.{ℕ, zero, suc, List, [], ◌∷◌, Option, Some, None}
use Rattle.hv_ast.specs.declared.token.Token.{Token}
use Rattle.hv_grammar.specs.declared.kind.Kind.{Kind}
use Rattle.hv_grammar.specs.declared.kind.Kind.TheVariants as k
use Rattle.hv_grammar.specs.Kinds.{kind_of}

pub data Turn : Type 0 where
  opens : Turn
  closes : Turn
  stays : Turn

abbrev pub turn_of : Kind → Turn
turn_of k.Open = opens
turn_of k.OpenIndex = opens
turn_of k.Case = opens
turn_of k.Close = closes
turn_of k.CloseIndex = closes
turn_of k.End = closes
turn_of _ = stays

abbrev pub turned : Turn → ℕ → ℕ → (ℕ → Option ℕ) → Option ℕ
turned opens zero at rest = Some at
turned opens (suc room) at rest = rest room
turned closes room at rest = rest (suc room)
turned stays room at rest = rest room

-- the place of the first token that opens a level where there is room for no more, with this many
-- levels left before the first token
abbrev pub too_deep : ℕ → List Token → Option ℕ
too_deep room [] = None
too_deep room (token ∷ rest) =
    turned (turn_of (kind_of token.what)) room token.at (λ left. too_deep left rest)

-- how many levels a text may nest
abbrev pub most_levels : ℕ
most_levels = 64
