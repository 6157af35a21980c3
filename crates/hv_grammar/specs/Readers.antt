-- Readers: functions from tokens to a value and the tokens behind it. They follow the grammar's
-- rules step by step, each choice made by the kind of the next token.
use Rattle.std.specs.Prelude.{ℕ, zero, suc, Bool, true, false, if◌then◌else◌, List, [], ◌∷◌, ◌++◌, length, drop, Option, Some, None}
use Rattle.hv_ast.specs.declared.token.Token.{Token}
use Rattle.hv_ast.specs.declared.expr.Arithmetic.{Arithmetic}
use Rattle.hv_ast.specs.declared.expr.Operation.{Operation}
use Rattle.hv_grammar.specs.declared.kind.Kind.{Kind}
use Rattle.hv_grammar.specs.declared.kind.Kind.TheVariants as k
use Rattle.hv_grammar.specs.Kinds.{kind_of, same_kind}

-- what is read, and the tokens behind it; None where nothing is
abbrev pub Outcome : Type 0 → Type 0
Outcome A = Option (A × List Token)

abbrev pub Reader : Type 0 → Type 0
Reader A = List Token → Outcome A

abbrev pub and_then : {A B : Type 0} → Outcome A → (A → Reader B) → Outcome B
and_then (Some p) f = f p.0 p.1
and_then None f = None

infixl 10 ◌>>=◌
abbrev pub ◌>>=◌ : {A B : Type 0} → Reader A → (A → Reader B) → Reader B
r >>= f = λ tokens. and_then (r tokens) f

infixl 10 ◌>>◌
abbrev pub ◌>>◌ : {A B : Type 0} → Reader A → Reader B → Reader B
r >> s = r >>= (λ _. s)

abbrev pub give : {A : Type 0} → A → Reader A
give a = λ tokens. Some (a, tokens)

abbrev pub refuse : {A : Type 0} → Reader A
refuse = λ tokens. None

infixr 11 ◌<$>◌
abbrev pub ◌<$>◌ : {A B : Type 0} → (A → B) → Reader A → Reader B
f <$> r = r >>= (λ a. give (f a))

-- ---- the next token

unfoldable pub kind_at : List Token → Kind
kind_at [] = k.Nothing
kind_at (token ∷ rest) = kind_of token.what

unfoldable pub next : List Token → List Token
next tokens = drop 1 tokens

abbrev pub peek : Reader Kind
peek = λ tokens. Some (kind_at tokens, tokens)

-- passes the token, whatever it is
abbrev pub pass : Reader (Unit {0})
pass = λ tokens. Some (tt, next tokens)

unfoldable pub sees : Kind → List Token → Bool
sees kind tokens = same_kind (kind_at tokens) kind

-- whether a token of this kind comes next
abbrev pub look : Kind → Reader Bool
look kind = λ tokens. Some (sees kind tokens, tokens)

unfoldable pub after : Kind → List Token → List Token
after kind tokens = if sees kind tokens then next tokens else tokens

-- whether a token of this kind comes next, which is passed then
abbrev pub eat : Kind → Reader Bool
eat kind = λ tokens. Some (sees kind tokens, after kind tokens)

unfoldable pub expect : Kind → Reader (Unit {0})
expect kind = λ tokens. if sees kind tokens then Some (tt, next tokens) else None

-- what the token holds, where it holds such a thing
abbrev pub held_by : {A : Type 0} → Option A → List Token → Outcome A
held_by (Some a) rest = Some (a, rest)
held_by None rest = None

unfoldable pub held : {A : Type 0} → (Token → Option A) → Reader A
held value [] = None
held value (token ∷ rest) = held_by (value token) rest

-- ---- rows of things. The number bounds the turns; each takes a token, so that there are never more
-- turns than tokens.

-- behind some items the further ones, each behind a separator
unfoldable pub more : {A : Type 0} → Kind → Reader A → ℕ → List A → Reader (List A)
more mark item zero items = give items
more mark item (suc turns) items = do
  goes_on ← eat mark
  if goes_on then (do one ← item; more mark item turns (items ++ one ∷ [])) else give items

abbrev pub behind : {A : Type 0} → Kind → Reader A → List A → Reader (List A)
behind mark item items = λ tokens. more mark item (length tokens) items tokens

-- one item or more, with the mark between them
unfoldable pub separated : {A : Type 0} → Kind → Reader A → Reader (List A)
separated mark item = do
  first ← item
  behind mark item (first ∷ [])

-- by whether there is one
abbrev pub by_option : {A B : Type 0} → Option A → B → (A → B) → B
by_option None none some = none
by_option (Some a) none some = some a

-- behind some operations of a level the further ones
unfoldable pub more_operations : {A : Type 0} → (Kind → Option Arithmetic) → Reader A → ℕ → List (Operation A) → Reader (List (Operation A))
more_operations level operand zero found = give found
more_operations level operand (suc turns) found = do
  kind ← peek
  by_option (level kind) (give found) (λ operator. do
    pass
    one ← operand
    more_operations level operand turns (found ++ record { operator = operator; operand = one } ∷ []))

abbrev pub operations : {A : Type 0} → (Kind → Option Arithmetic) → Reader A → Reader (List (Operation A))
operations level operand = λ tokens. more_operations level operand (length tokens) [] tokens

-- behind some items the further ones, as long as the next token begins one
unfoldable pub more_while : {A : Type 0} → (Kind → Bool) → Reader A → ℕ → List A → Reader (List A)
more_while begins item zero found = give found
more_while begins item (suc turns) found = do
  kind ← peek
  if begins kind then (do one ← item; more_while begins item turns (found ++ one ∷ [])) else give found

abbrev pub many : {A : Type 0} → (Kind → Bool) → Reader A → List A → Reader (List A)
many begins item found = λ tokens. more_while begins item (length tokens) found tokens

-- ---- what may stand or not

-- [word r]
abbrev pub perhaps : {A : Type 0} → Kind → Reader A → Reader (Option A)
perhaps kind r = do
  is_there ← eat kind
  if is_there then Some <$> r else give None

-- [mark | other], as whether `mark` stands there
unfoldable pub either : Kind → Kind → Reader Bool
either mark other = do
  is_there ← eat mark
  if is_there then give true else eat other >> give false

-- ( r )
abbrev pub bracketed : {A : Type 0} → Reader A → Reader A
bracketed r = do
  expect k.Open
  a ← r
  expect k.Close
  give a
