-- The grammar's combinators. A rule says which value is written from a place to a place: the tokens
-- from the first on, and those from the second on.
use Rattle.std.specs.Prelude.{◌≡◌, ◌⊎◌, Bool, true, false, List, [], ◌∷◌, Option, Some, None}
use Rattle.hv_ast.specs.declared.token.Token.{Token}
use Rattle.hv_grammar.specs.declared.kind.Kind.{Kind}
use Rattle.hv_grammar.specs.declared.kind.Kind.TheVariants as k
use Rattle.hv_grammar.specs.Kinds.{kind_of}

abbrev pub Rule : Type 0 → Type 1
Rule A = A → List Token → List Token → Type 0

-- one thing, and then another
infixl 10 ◌>>=◌
abbrev pub ◌>>=◌ : {A B : Type 0} → Rule A → (A → Rule B) → Rule B
◌>>=◌ {A = A} r f = λ b from to. (a : A) × (between : List Token) × r a from between × f a b between to

infixl 10 ◌>>◌
abbrev pub ◌>>◌ : {A B : Type 0} → Rule A → Rule B → Rule B
r >> s = r >>= (λ _. s)

-- no token, which is this value
abbrev pub give : {A : Type 0} → A → Rule A
give a = λ b from to. (b ≡ a) × (from ≡ to)

-- one or the other
infixr 9 ◌<|>◌
abbrev pub ◌<|>◌ : {A : Type 0} → Rule A → Rule A → Rule A
r <|> s = λ a from to. r a from to ⊎ s a from to

-- a token that holds such a value
abbrev pub held : {A : Type 0} → (Token → Option A) → Rule A
held value = λ a from to. (token : Token) × (value token ≡ Some a) × (from ≡ token ∷ to)

-- a token of this kind
abbrev pub word : Kind → Rule (Unit {0})
word kind = λ _ from to. (token : Token) × (kind_of token.what ≡ kind) × (from ≡ token ∷ to)

-- a token of a kind that stands for such a value
abbrev pub one_of : {A : Type 0} → (Kind → Option A) → Rule A
one_of value = held (λ token. value (kind_of token.what))

-- [word], as whether it stands there
abbrev pub flag : Kind → Rule Bool
flag kind = (word kind >> give true) <|> give false

-- {r}
abbrev pub many : {A : Type 0} → Rule A → Rule (List A)
many r [] from to = from ≡ to
many r (first ∷ rest) from to = (between : List Token) × r first from between × many r rest between to

-- r {mark r}
abbrev pub separated : {A : Type 0} → Kind → Rule A → Rule (List A)
separated mark r = do
  first ← r
  rest ← many (word mark >> r)
  give (first ∷ rest)

-- {word r}
abbrev pub rows : {A : Type 0} → Kind → Rule A → Rule (List A)
rows mark r = many (word mark >> r)

-- [word r]
abbrev pub perhaps : {A : Type 0} → Kind → Rule A → Rule (Option A)
perhaps kind r = (do word kind; a ← r; give (Some a)) <|> give None

-- [mark | other], as whether `mark` stands there
abbrev pub either : Kind → Kind → Rule Bool
either mark other = (word mark >> give true) <|> (flag other >> give false)

-- ( r )
abbrev pub bracketed : {A : Type 0} → Rule A → Rule A
bracketed r = do
  word k.Open
  a ← r
  word k.Close
  give a
