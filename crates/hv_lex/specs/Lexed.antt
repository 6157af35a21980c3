-- What the lexer answers, against the definition of a text's tokens.
use Rattle.std.specs.Prelude.{◌≡◌, ℕ, ◌+◌, Bool, List, [], ◌∷◌, Vec, Option, None, Some, Result, Ok, Err, nat_eq}
use Rattle.std.specs.List.{starts_with}
use Rattle.std.specs.declared.alloc.Global.{Global}
use Rattle.hv_ast.specs.Tokens.{behind, unescaped, Text, Fault, bad_character, open_string, wide_number, Front, gap, token, fault}
use Rattle.hv_ast.specs.declared.token.Lexeme.{Lexeme}
use Rattle.hv_ast.specs.declared.token.Symbol.{Symbol}
use Rattle.hv_ast.specs.declared.token.Token.{Token}
use Rattle.hv_lex.specs.declared.fault.LexFault.{LexFault}
use Rattle.hv_lex.specs.declared.fault.LexFault.TheVariants.{BadCharacter, OpenString, WideNumber, NoMemory}
use Rattle.hv_lex.specs.declared.pieces.Piece.{Piece}
use Rattle.hv_lex.specs.declared.symbols.Row.{Row}

-- the error tells the fault, or that memory ran out
abbrev pub Tells : {T : Type 0} → LexFault → Result T Fault → Type 0
Tells (BadCharacter at) answer = answer ≡ Err (bad_character at)
Tells (OpenString at) answer = answer ≡ Err (open_string at)
Tells (WideNumber at) answer = answer ≡ Err (wide_number at)
Tells NoMemory answer = Unit {0}

-- the front that a piece is
abbrev pub front_of : Option Lexeme → ℕ → Front
front_of None n = gap n
front_of (Some what) n = token what n

-- the answer is this front
abbrev pub IsRead : Front → Result Piece LexFault → Type 0
IsRead front (Ok piece) = front ≡ front_of piece.what piece.length
IsRead front (Err (BadCharacter at)) = front ≡ fault (bad_character at)
IsRead front (Err (OpenString at)) = front ≡ fault (open_string at)
IsRead front (Err (WideNumber at)) = front ≡ fault (wide_number at)
IsRead front (Err NoMemory) = Unit {0}

-- the answer is this text, or its fault
abbrev pub IsUnescaped : Result Text Fault → Result (Vec ℕ Global) LexFault → Type 0
IsUnescaped text (Ok content) = text ≡ Ok content.items
IsUnescaped text (Err e) = Tells e text

-- One character was read behind `old`, whatever follows it: the answer says whether it takes the
-- next.
abbrev pub StepsOver : Text → Text → Bool → ℕ → ℕ → Result Bool LexFault → Type 0
StepsOver old new taken at c (Ok takes) =
    (rest : Text)
    → behind old (unescaped taken at (c ∷ rest)) ≡ behind new (unescaped takes (at + 1) rest)
StepsOver old new taken at c (Err (BadCharacter place)) =
    (rest : Text) → unescaped taken at (c ∷ rest) ≡ Err (bad_character place)
StepsOver old new taken at c (Err NoMemory) = Unit {0}
StepsOver old new taken at c (Err _) = ⊥

-- the token at this place, if it is one
abbrev pub kept : ℕ → Option Lexeme → List Token
kept at None = []
kept at (Some what) = record { what = what; at = at } ∷ []

-- the spelling and the symbol of a row, as the definition's table has them
abbrev pub row_of : Row → Text × Symbol
row_of row = (row.0.now, row.1)

-- the text begins with the row's spelling
abbrev pub begins : Text → Text × Symbol → Bool
begins text row = starts_with nat_eq text row.0
