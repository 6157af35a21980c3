-- How the tokens of a text lie in it: one after the other, with nothing but spaces and comments
-- between them.
use Rattle.std.specs.Prelude.{◌≡◌, ◌≢◌, ◌≤◌, ◌⊎◌, ℕ, ◌+◌, true, List, [], ◌∷◌, ◌++◌, length, take, drop, All, Ok, Err, codes}
use Rattle.hv_ast.specs.declared.token.Lexeme.{Lexeme}
use Rattle.hv_ast.specs.declared.token.Token.{Token}
use Rattle.hv_ast.specs.Tokens.{Text, Fault, Front, token, front, is_space, tokens_of}

-- a space, a tab, CR or LF
abbrev pub IsSpace : Text → Type 0
IsSpace piece = (b : ℕ) × (piece ≡ b ∷ []) × (is_space b ≡ true)

-- `--` and what stands behind it in its line
abbrev pub IsComment : Text → Type 0
IsComment piece = (words : Text) × (piece ≡ codes "--" ++ words) × All (λ b. b ≢ 10) words

-- The tokens of a text that stands at a place: it is a row of pieces, each a space, a comment or
-- the spelling of a token.
pub data Layout : ℕ → Text → List Token → Type 0 where
  finished : (at : ℕ) → Layout at [] []
  passed : (at n : ℕ) (text : Text) (tokens : List Token)
      → IsSpace (take n text) ⊎ IsComment (take n text)
      → Layout (at + n) (drop n text) tokens → Layout at text tokens
  spelled : (at n : ℕ) (what : Lexeme) (text : Text) (tokens : List Token)
      → 1 ≤ n → n ≤ length text → front at text ≡ token what n
      → Layout (at + n) (drop n text) tokens
      → Layout at text (record { what = what; at = at } ∷ tokens)

-- each place is above those before it
abbrev pub RiseFrom : ℕ → List Token → Type 0
RiseFrom least [] = Unit {0}
RiseFrom least (first ∷ rest) = (least ≤ first.at) × RiseFrom (first.at + 1) rest

-- ---- what holds of every text

abbrev pub OneOrTheOther : Type 0
OneOrTheOther = (text : Text) (tokens : List Token) (e : Fault)
    → tokens_of text ≡ Ok tokens → tokens_of text ≡ Err e → ⊥

abbrev pub PlacesRise : Type 0
PlacesRise =
    (text : Text) (tokens : List Token) → tokens_of text ≡ Ok tokens → RiseFrom 0 tokens

abbrev pub NothingBetween : Type 0
NothingBetween =
    (text : Text) (tokens : List Token) → tokens_of text ≡ Ok tokens → Layout 0 text tokens
