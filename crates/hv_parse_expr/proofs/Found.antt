-- What is spelled is read, production by production, where what stands behind can't continue it.
use Rattle.std.proofs.Common.{◌≡◌, ◌⊎◌, inl, inr, ℕ, zero, suc, Bool, true, false, ◌&&◌, cond, Option, Some, None, List, [], ◌∷◌, nat_lt, nat_le, refl, sym, ap, arith, ◌∙◌}
use denote.Enum.Bare.{true_same}
use Rattle.std.specs.List.{list_all}
use Rattle.std.specs.Str.{bytes_eq}
use Rattle.hv_ast.specs.declared.token.Token.{Token}
use Rattle.hv_ast.specs.declared.token.Lexeme.{Lexeme}
use Rattle.hv_ast.specs.declared.token.Lexeme.TheVariants as lexeme
use Rattle.hv_ast.specs.declared.token.Symbol.{Symbol}
use Rattle.hv_ast.specs.declared.token.Symbol.TheVariants as symbol
use Rattle.hv_ast.specs.declared.types.TypeName.TheVariants as type
use Rattle.hv_ast.specs.declared.expr.Expr.{Expr}
use Rattle.hv_ast.specs.declared.expr.Expr.TheVariants as e
use Rattle.hv_ast.specs.declared.expr.Literal.{Literal}
use Rattle.hv_ast.specs.declared.expr.Literal.TheVariants as l
use Rattle.hv_ast.specs.declared.expr.Unary.{Unary}
use Rattle.hv_ast.specs.declared.expr.Unary.TheVariants as unary
use Rattle.hv_ast.specs.declared.expr.Binary.{Binary}
use Rattle.hv_ast.specs.declared.expr.Binary.TheVariants as binary
use Rattle.hv_ast.specs.declared.expr.Arithmetic.{Arithmetic}
use Rattle.hv_ast.specs.Tokens.{Text}
use Rattle.hv_grammar.specs.contracts.kind.Kind.{the_type}
use Rattle.hv_grammar.specs.declared.kind.Kind.{Kind}
use Rattle.hv_grammar.specs.declared.kind.Kind.TheVariants as k
use Rattle.hv_grammar.specs.Kinds.{kind_of, same_kind, look_up, symbol_kind}
use Rattle.hv_grammar.specs.Rules.{Rule}
use Rattle.hv_grammar.specs.Rules as rule
use Rattle.hv_grammar.specs.Readers.{Outcome, Reader, and_then, kind_at, next, sees, after, expect, by_option}
use Rattle.hv_grammar.specs.Readers as reader
use Rattle.hv_grammar.specs.Grammar as g
use Rattle.hv_grammar.specs.Reading as r
use Rattle.hv_grammar.specs.Choices as c
use Rattle.hv_grammar.specs.Choices.{binds}
use Rattle.hv_parse_expr.proofs.Joins.{Sound}
use Rattle.hv_parse_expr.proofs.Below.{Any, lower, below_at, below_without}
use Rattle.hv_parse_expr.proofs.Begins.{Stop, End, Begins, Avoids, starts, begins_bind, begins_or, begins_word, avoids_begins, avoids_give, avoids_word, avoids_bind, avoids_or, avoids_one_of, avoids_flag, follows_word, follows_give, follows_or, follows_end, end_at, word_kind, word_next, is_seen, is_not_seen}
use Rattle.hv_parse_expr.proofs.Wholes.{Whole, chosen_kind, chosen_next, whole_give, whole_bind, whole_then, whole_word, whole_pass, whole_eat, whole_flag, whole_held, whole_choice, whole_one_of}
use Rattle.hv_parse_expr.proofs.Rows.{whole_separated, whole_joined, whole_chain}
use Rattle.hv_parse_expr.proofs.Spelled as sound

-- ---- names and types

pub scalar_whole : Whole Any g.scalar r.scalar
unfolding r.scalar
scalar_whole = whole_one_of c.scalar_at

array_whole : Whole Any g.array r.array
unfolding g.array r.array
array_whole = whole_then (whole_word k.Less) (λ _. whole_then scalar_whole (λ of. whole_then (whole_word k.Greater) (λ _. whole_give (type.Array of))))

pub type_whole : Whole Any g.type_name r.type_name
unfolding g.type_name r.type_name
type_whole = whole_eat k.Array array_whole (whole_then scalar_whole (λ of. whole_give (type.Scalar of))) (avoids_bind (avoids_one_of c.scalar_at k.Array refl))

-- a word of some kind
word_is : (p : Kind → Bool) (token : Token) (text : Text) → g.word_by p token ≡ Some text → (p (kind_of token.what) ≡ true) × (c.word_in token.what ≡ Some text)
word_is p token text h = by_bool (p (kind_of token.what)) h
  where
    by_bool : (b : Bool) → cond b (c.word_in token.what) None ≡ Some text → (b ≡ true) × (c.word_in token.what ≡ Some text)
    by_bool true h = (refl, h)
    by_bool false h = absurd (cc)

pub word_kind_is : (p : Kind → Bool) (text : Text) (from to : List Token) → rule.held (g.word_by p) text from to → p (kind_at from) ≡ true
unfolding kind_at
word_kind_is p text from to s = ap (λ t. p (kind_at t)) s.2 ∙ (word_is p s.0 text s.1).0

word_read : (p : Kind → Bool) (text : Text) (from to : List Token) → rule.held (g.word_by p) text from to → r.word from ≡ Some (text, to)
unfolding r.word
word_read p text from to s = (whole_held (λ token. c.word_in token.what)).read text from to (s.0, (word_is p s.0 text s.1).1, s.2) tt

pub name_whole : Whole Any g.name r.name
unfolding r.name
name_whole = record {
  read = λ text from to s stop.
      ap (λ b. cond {A = Reader Text} b r.word (λ _. None) from) (word_kind_is c.is_name text from to s) ∙ word_read c.is_name text from to s;
}

pub qualified_whole : (first : Text) → Whole (Stop 8) (g.qualified first) (r.column first)
unfolding g.qualified r.column
qualified_whole first = whole_eat k.Dot (whole_then name_whole (λ second. whole_give (e.Column (Some first) second))) (whole_give (e.Column None first)) (avoids_give 8 k.Dot refl)

qualified_avoids : (first : Text) → Avoids (Stop 8) k.Open (g.qualified first)
unfolding g.qualified
qualified_avoids first = avoids_or (avoids_bind (avoids_word k.Dot k.Open (λ e. cc))) (avoids_give 8 k.Open refl)

literal_whole : Whole Any g.literal r.literal
unfolding r.literal
literal_whole = whole_then (whole_held (λ token. c.literal_in token.what)) (λ value. whole_give (e.Literal value))

date_whole : Whole Any g.date r.date
unfolding r.date r.string
date_whole = whole_then (whole_held (λ token. c.string_in token.what)) (λ text. whole_give (e.Literal (l.Date text)))

-- a literal is a number or a string
literal_lexeme : (what : Lexeme) (value : Literal) → c.literal_in what ≡ Some value → (kind_of what ≡ k.Number) ⊎ (kind_of what ≡ k.Text)
unfolding kind_of
literal_lexeme (lexeme.Int number) value h = inl refl
literal_lexeme (lexeme.Big number) value h = inl refl
literal_lexeme (lexeme.Str text) value h = inr refl
literal_lexeme what value h = absurd (cc)

literal_kind : (value : Literal) (from to : List Token) → rule.held (λ token. c.literal_in token.what) value from to → (kind_at from ≡ k.Number) ⊎ (kind_at from ≡ k.Text)
unfolding kind_at
literal_kind value from to s = elim (literal_lexeme s.0.what value s.1) as (λ _. (kind_at from ≡ k.Number) ⊎ (kind_at from ≡ k.Text)) [
  | inl e ↦ inl (ap kind_at s.2 ∙ e)
  | inr e ↦ inr (ap kind_at s.2 ∙ e)
]

pub both : (x y : Bool) → x && y ≡ true → (x ≡ true) × (y ≡ true)
both true y h = (refl, h)
both false y h = absurd (cc)

pub true_false : true ≡ false → ⊥
true_false e = absurd (cc)

pub look_up_kind : (test : Kind → Bool) (rows : List (Text × Kind)) (other : Kind) (spelling : Text)
    → list_all (λ row. test row.1) rows ≡ true → test other ≡ true → test (look_up rows other spelling) ≡ true
look_up_kind test [] other spelling all last = last
look_up_kind test (row ∷ rows) other spelling all last =
    by_found (look_up_kind test rows other spelling (both (test row.1) (list_all (λ row. test row.1) rows) all).1 last) (bytes_eq row.0 spelling)
  where
    by_found : test (look_up rows other spelling) ≡ true → (found : Bool) → test (cond found row.1 (look_up rows other spelling)) ≡ true
    by_found others true = (both (test row.1) (list_all (λ row. test row.1) rows) all).0
    by_found others false = others

-- the kinds of symbols
pub is_symbol : Kind → Bool
is_symbol k.NullSafeEqual = true
is_symbol k.EqualTwice = true
is_symbol k.Unequal = true
is_symbol k.AtMost = true
is_symbol k.AtLeast = true
is_symbol k.Equal = true
is_symbol k.Less = true
is_symbol k.Greater = true
is_symbol k.Open = true
is_symbol k.Close = true
is_symbol k.OpenIndex = true
is_symbol k.CloseIndex = true
is_symbol k.Comma = true
is_symbol k.Dot = true
is_symbol k.Star = true
is_symbol k.Plus = true
is_symbol k.Minus = true
is_symbol k.Percent = true
is_symbol _ = false

pub symbol_is : (s : Symbol) → is_symbol (symbol_kind s) ≡ true
unfolding symbol_kind is_symbol
symbol_is symbol.NullSafeEqual = refl
symbol_is symbol.EqualTwice = refl
symbol_is symbol.Unequal = refl
symbol_is symbol.BangEqual = refl
symbol_is symbol.AtMost = refl
symbol_is symbol.AtLeast = refl
symbol_is symbol.Equal = refl
symbol_is symbol.Less = refl
symbol_is symbol.Greater = refl
symbol_is symbol.Open = refl
symbol_is symbol.Close = refl
symbol_is symbol.OpenIndex = refl
symbol_is symbol.CloseIndex = refl
symbol_is symbol.Comma = refl
symbol_is symbol.Dot = refl
symbol_is symbol.Star = refl
symbol_is symbol.Plus = refl
symbol_is symbol.Minus = refl
symbol_is symbol.Percent = refl

-- COUNT is a word, and no symbol
count_lexeme : (what : Lexeme) → kind_of what ≡ k.Count → (text : Text) × (c.word_in what ≡ Some text)
unfolding kind_of is_symbol
count_lexeme (lexeme.Word text) h = (text, refl)
count_lexeme (lexeme.Quoted text) h = (text, refl)
count_lexeme (lexeme.Symbol s) h = absurd (true_false (sym (symbol_is s) ∙ ap is_symbol h))
count_lexeme (lexeme.Int number) h = absurd (cc)
count_lexeme (lexeme.Big number) h = absurd (cc)
count_lexeme (lexeme.Str text) h = absurd (cc)

counted : (u : Unit {0}) (from to : List Token) → rule.word k.Count u from to → (text : Text) × (r.word from ≡ Some (text, to))
unfolding r.word
counted u from to s =
    let t = count_lexeme s.0.what s.1 in
    (t.0, (whole_held (λ token. c.word_in token.what)).read t.0 from to (s.0, t.1, s.2) tt)

literal_starts : (kind : Kind) → (kind ≡ k.Number) ⊎ (kind ≡ k.Text) → nat_le 3 (starts kind) ≡ true
literal_starts kind is = elim is as (λ _. nat_le 3 (starts kind) ≡ true) [
  | inl e ↦ ap (λ z. nat_le 3 (starts z)) e
  | inr e ↦ ap (λ z. nat_le 3 (starts z)) e
]

name_starts : (kind : Kind) → c.is_name kind ≡ true → nat_le 3 (starts kind) ≡ true
name_starts k.Number is = absurd (cc)
name_starts k.Text is = absurd (cc)
name_starts k.Date is = absurd (cc)
name_starts k.True is = absurd (cc)
name_starts k.False is = absurd (cc)
name_starts k.Null is = absurd (cc)
name_starts k.Open is = absurd (cc)
name_starts k.Case is = absurd (cc)
name_starts k.Cast is = absurd (cc)
name_starts k.If is = absurd (cc)
name_starts k.Array is = absurd (cc)
name_starts k.Plus is = absurd (cc)
name_starts k.Minus is = absurd (cc)
name_starts k.Not is = absurd (cc)
name_starts kind is = ap (λ b. nat_le 3 (cond b 3 0)) is

function_starts : (kind : Kind) → c.is_function_word kind ≡ true → nat_le 3 (starts kind) ≡ true
function_starts k.If is = refl
function_starts k.Array is = refl
function_starts kind is = absurd (cc)

name_begins : Begins 3 g.name
name_begins = record { begins = λ text from to s. name_starts (kind_at from) (word_kind_is c.is_name text from to s) }

sign_starts : (kind : Kind) (x : Unary) → c.sign kind ≡ Some x → nat_le 2 (starts kind) ≡ true
sign_starts k.Plus x e = refl
sign_starts k.Minus x e = refl
sign_starts kind x e = absurd (cc)

still_starts : (kind : Kind) → nat_le 3 (starts kind) ≡ true → nat_le 2 (starts kind) ≡ true
still_starts kind e = grind arith

even_starts : (kind : Kind) → nat_le 2 (starts kind) ≡ true → nat_le 1 (starts kind) ≡ true
even_starts kind e = grind arith

-- which operators may stand behind an operand of their level
no_sign : (kind : Kind) → nat_le 3 (starts kind) ≡ true → c.sign kind ≡ None
no_sign k.Plus e = absurd (cc)
no_sign k.Minus e = absurd (cc)
no_sign kind e = refl

factor_stops : (kind : Kind) (x : Arithmetic) → c.multiplicative kind ≡ Some x → nat_lt (binds kind) 6 ≡ true
factor_stops k.Star x e = refl
factor_stops k.Div x e = refl
factor_stops k.Percent x e = refl
factor_stops kind x e = absurd (cc)

no_factor : (kind : Kind) → nat_lt (binds kind) 5 ≡ true → c.multiplicative kind ≡ None
no_factor k.Star e = absurd (cc)
no_factor k.Div e = absurd (cc)
no_factor k.Percent e = absurd (cc)
no_factor kind e = refl

summand_stops : (kind : Kind) (x : Arithmetic) → c.additive kind ≡ Some x → nat_lt (binds kind) 5 ≡ true
summand_stops k.Plus x e = refl
summand_stops k.Minus x e = refl
summand_stops kind x e = absurd (cc)

no_summand : (kind : Kind) → nat_lt (binds kind) 4 ≡ true → c.additive kind ≡ None
no_summand k.Plus e = absurd (cc)
no_summand k.Minus e = absurd (cc)
no_summand kind e = refl

comparison_stops : (kind : Kind) (x : Binary) → c.comparison kind ≡ Some x → nat_lt (binds kind) 4 ≡ true
comparison_stops k.Equal x e = refl
comparison_stops k.EqualTwice x e = refl
comparison_stops k.Unequal x e = refl
comparison_stops k.Less x e = refl
comparison_stops k.AtMost x e = refl
comparison_stops k.Greater x e = refl
comparison_stops k.AtLeast x e = refl
comparison_stops k.NullSafeEqual x e = refl
comparison_stops kind x e = absurd (cc)

module _ (p : Rule Expr) (q : Reader Expr) (E : Whole (Stop 1) p q) (B : Begins 1 p) (K : Sound p q) where
  list_begins : Begins 1 (g.list p)
  unfolding g.list
  list_begins = begins_bind B

  pub list_whole : Whole (End 1 k.Comma) (g.list p) (r.list q)
  unfolding g.list r.list
  list_whole = whole_separated k.Comma E K (below_at binds 1 k.Comma refl) (λ t s. s.0) (λ t s. s.1)

  arguments_avoids : {S : List Token → Type 0} (kind : Kind) → nat_lt (starts kind) 1 ≡ true → (k.Close ≡ kind → ⊥) → Avoids S kind (g.arguments p)
  unfolding g.arguments
  arguments_avoids kind low apart = avoids_or (avoids_bind (avoids_word k.Close kind apart)) (avoids_begins kind (begins_bind list_begins) low)

  pub arguments_whole : Whole Any (g.arguments p) (r.arguments q)
  unfolding g.arguments r.arguments
  arguments_whole = whole_eat k.Close (whole_give []) (whole_bind list_whole (λ found. whole_then (whole_word k.Close) (λ _. whole_give found)) (follows_end 1 k.Comma k.Close refl (λ e. cc)))
      (avoids_begins k.Close (begins_bind list_begins) refl)

  passed_avoids : {S : List Token → Type 0} (function : Text) → Avoids S k.Star (g.passed_to p function)
  unfolding g.passed_to
  passed_avoids function = avoids_flag k.Distinct k.Star (λ e. cc) (λ b. avoids_bind (arguments_avoids k.Star refl (λ e. cc)))

  pub passed_whole : (function : Text) → Whole Any (g.passed_to p function) (r.call q function)
  unfolding g.passed_to r.call
  passed_whole function = whole_flag k.Distinct (λ distinct. whole_then arguments_whole (λ found. whole_give (e.Call function distinct found)))
      (avoids_bind (arguments_avoids k.Distinct refl (λ e. cc)))

  pub when_whole : Whole (Stop 1) (g.when p) (r.when q)
  unfolding g.when r.when
  when_whole = whole_bind E (λ condition. whole_then (whole_word k.Then) (λ _. whole_bind E (λ value. whole_give (record { condition = condition; value = value }))
      (follows_give 1 1 refl))) (follows_word 1 k.Then refl)

  pub operand_whole : Whole Any (g.operand p) (r.operand q)
  unfolding g.operand r.operand
  operand_whole = whole_eat k.When (whole_give None) (whole_bind E (λ value. whole_then (whole_word k.When) (λ _. whole_give (Some value))) (follows_word 1 k.When refl))
      (avoids_begins k.When (begins_bind B) refl)

  pub otherwise_whole : Whole Any (g.otherwise p) (r.otherwise q)
  unfolding g.otherwise r.otherwise
  otherwise_whole = whole_eat k.Else (whole_bind E (λ value. whole_then (whole_word k.End) (λ _. whole_give (Some value))) (follows_word 1 k.End refl))
      (whole_then (whole_word k.End) (λ _. whole_give None)) (avoids_bind (avoids_word k.End k.Else (λ e. cc)))

  otherwise_ends : (o : Option Expr) (from to : List Token) → g.otherwise p o from to → End 1 k.When from
  unfolding g.otherwise
  otherwise_ends o from to s = elim s as (λ _. End 1 k.When from) [
    | inl w ↦ end_at 1 k.When k.Else refl (λ e. cc) from (word_kind w.2)
    | inr w ↦ end_at 1 k.When k.End refl (λ e. cc) from (word_kind w.2)
  ]

  pub case_whole : Whole Any (g.case p) (r.case q)
  unfolding g.case r.case r.whens
  case_whole = whole_then operand_whole (λ value. whole_bind
      (whole_separated {S = End 1 k.When} k.When when_whole (sound.when_sound p q K) (below_at binds 1 k.When refl) (λ t s. s.0) (λ t s. s.1))
      (λ chosen. whole_then otherwise_whole (λ other. whole_give (e.Case value chosen other)))
      (record { follows = λ a b from to s stop. otherwise_ends s.0 from s.1 s.2 }))

  pub cast_whole : Whole Any (g.cast p) (r.cast q)
  unfolding g.cast r.cast
  cast_whole = whole_then (whole_word k.Open) (λ _. whole_bind E (λ value. whole_then (whole_word k.As) (λ _. whole_then type_whole (λ to.
      whole_then (whole_word k.Close) (λ _. whole_give (e.Cast value to))))) (follows_word 1 k.As refl))

  bracketed_whole : Whole Any (λ b from to. (inner : Expr) × (between : List Token) × p inner from between × ((u : Unit {0}) × (behind : List Token) × rule.word k.Close u between behind × rule.give inner b behind to)) (r.bracketed q)
  unfolding r.bracketed
  bracketed_whole = whole_bind E (λ inner. whole_then (whole_word k.Close) (λ _. whole_give inner)) (follows_word 1 k.Close refl)

  -- ---- a primary, by the kind of its first token

  primary_is : (kind : Kind) (from : List Token) (o : Outcome Expr) → kind_at from ≡ kind → r.primary_by q kind from ≡ o → r.primary q from ≡ o
  unfolding r.primary
  primary_is kind from o at h = ap (λ z. r.primary_by q z from) at ∙ h

  by_name : (kind : Kind) (from : List Token) (o : Outcome Expr) → c.is_name kind ≡ true → r.named q from ≡ o → r.primary_by q kind from ≡ o
  by_name k.Number from o is h = absurd (cc)
  by_name k.Text from o is h = absurd (cc)
  by_name k.Date from o is h = absurd (cc)
  by_name k.True from o is h = absurd (cc)
  by_name k.False from o is h = absurd (cc)
  by_name k.Null from o is h = absurd (cc)
  by_name k.Open from o is h = absurd (cc)
  by_name k.Case from o is h = absurd (cc)
  by_name k.Cast from o is h = absurd (cc)
  by_name k.If from o is h = absurd (cc)
  by_name k.Array from o is h = absurd (cc)
  by_name kind from o is h = ap (λ b. cond {A = Reader Expr} b (r.named q) reader.refuse from) is ∙ h

  by_function : (kind : Kind) (from : List Token) (o : Outcome Expr) → c.is_function_word kind ≡ true → r.keyword_call q from ≡ o → r.primary_by q kind from ≡ o
  by_function k.If from o is h = h
  by_function k.Array from o is h = h
  by_function kind from o is h = absurd (cc)

  by_literal : (kind : Kind) (from : List Token) (o : Outcome Expr) → (kind ≡ k.Number) ⊎ (kind ≡ k.Text) → r.literal from ≡ o → r.primary_by q kind from ≡ o
  by_literal kind from o is h = elim is as (λ _. r.primary_by q kind from ≡ o) [
    | inl e ↦ ap (λ z. r.primary_by q z from) e ∙ h
    | inr e ↦ ap (λ z. r.primary_by q z from) e ∙ h
  ]

  -- behind a name
  abbrev After : List Token → Text → Reader Expr
  After from first = λ mid. cond (sees k.Open mid) (cond (same_kind (kind_at from) k.Count) (r.count q first) (r.call q first)) (r.column first) (after k.Open mid)

  named_is : (from : List Token) (first : Text) (mid : List Token) (o : Outcome Expr) → r.word from ≡ Some (first, mid) → After from first mid ≡ o → r.named q from ≡ o
  unfolding r.named
  named_is from first mid o e h = ap (λ w. and_then w (After from)) e ∙ h

  column_after : (from mid to : List Token) (first : Text) (b : Expr) → g.qualified first b mid to → Stop 8 to → After from first mid ≡ Some (b, to)
  unfolding after
  column_after from mid to first b s stop =
      ap (λ z. cond z (cond (same_kind (kind_at from) k.Count) (r.count q first) (r.call q first)) (r.column first) (cond z (next mid) mid))
      (is_not_seen k.Open mid ((qualified_avoids first).avoids b mid to s stop))
      ∙ (qualified_whole first).read b mid to s stop

  opened_after : (from mid inside : List Token) (first : Text) (u : Unit {0}) (o : Outcome Expr) → rule.word k.Open u mid inside
      → cond (same_kind (kind_at from) k.Count) (r.count q first) (r.call q first) inside ≡ o → After from first mid ≡ o
  unfolding after
  opened_after from mid inside first u o w h =
      ap (λ z. cond z (cond (same_kind (kind_at from) k.Count) (r.count q first) (r.call q first)) (r.column first) (cond z (next mid) mid)) (is_seen k.Open mid (word_kind w))
      ∙ ap (cond (same_kind (kind_at from) k.Count) (r.count q first) (r.call q first)) (word_next w) ∙ h

  count_whole : (function : Text) → Whole Any (λ b from to.
      ((u : Unit {0}) × (between : List Token) × rule.word k.Star u from between × ((v : Unit {0}) × (last : List Token) × rule.word k.Close v between last × rule.give e.CountRows b last to))
      ⊎ g.passed_to p function b from to) (r.count q function)
  unfolding r.count
  count_whole function = whole_eat k.Star (whole_then (whole_word k.Close) (λ _. whole_give e.CountRows)) (passed_whole function) (passed_avoids function)

  passed_after : (function : Text) (counted : Bool) (b : Expr) (from to : List Token) → g.passed_to p function b from to
      → cond counted (r.count q function) (r.call q function) from ≡ Some (b, to)
  passed_after function true b from to s = (count_whole function).read b from to (inr s) tt
  passed_after function false b from to s = (passed_whole function).read b from to s tt

  column_read : (b : Expr) (from to : List Token) → g.column b from to → Stop 8 to → r.primary q from ≡ Some (b, to)
  unfolding g.column
  column_read b from to s stop = primary_is (kind_at from) from (Some (b, to)) refl
      (by_name (kind_at from) from (Some (b, to)) (word_kind_is c.is_name s.0 from s.1 s.2)
      (named_is from s.0 s.1 (Some (b, to)) (word_read c.is_name s.0 from s.1 s.2) (column_after from s.1 to s.0 b s.3 stop)))

  count_read : (b : Expr) (from to : List Token) → g.count_rows b from to → r.primary q from ≡ Some (b, to)
  unfolding g.count_rows same_kind
  count_read b from to s =
      let at = word_kind s.2 in
      let open_it = s.3 in
      let t = counted s.0 from s.1 s.2 in
      primary_is k.Count from (Some (b, to)) at
      (named_is from t.0 s.1 (Some (b, to)) t.1
      (opened_after from s.1 open_it.1 t.0 open_it.0 (Some (b, to)) open_it.2
      (ap (λ z. cond z (r.count q t.0) (r.call q t.0) open_it.1) (true_same the_type (kind_at from) k.Count at)
      ∙ (count_whole t.0).read b open_it.1 to (inl open_it.3) tt)))

  call_read : (b : Expr) (from to : List Token) → g.call p b from to → r.primary q from ≡ Some (b, to)
  unfolding g.call r.keyword_call
  call_read b from to s =
      let rest = s.3 in
      elim s.2 as (λ _. r.primary q from ≡ Some (b, to)) [
        | inl name ↦ primary_is (kind_at from) from (Some (b, to)) refl
            (by_name (kind_at from) from (Some (b, to)) (word_kind_is c.is_name s.0 from s.1 name)
            (named_is from s.0 s.1 (Some (b, to)) (word_read c.is_name s.0 from s.1 name)
            (opened_after from s.1 rest.1 s.0 rest.0 (Some (b, to)) rest.2 (passed_after s.0 (same_kind (kind_at from) k.Count) b rest.1 to rest.3))))
        | inr name ↦ primary_is (kind_at from) from (Some (b, to)) refl
            (by_function (kind_at from) from (Some (b, to)) (word_kind_is c.is_function_word s.0 from s.1 name)
            (ap (λ w. and_then w (λ function. λ mid. and_then (expect k.Open mid) (λ _. r.call q function))) (word_read c.is_function_word s.0 from s.1 name)
            ∙ (whole_then (whole_word k.Open) (λ _. passed_whole s.0)).read b s.1 to rest tt))
      ]

  pub primary_whole : Whole (Stop 8) (g.primary p) (r.primary q)
  unfolding g.primary
  primary_whole = record {
    read = λ b from to s stop.
        let goal : Type 0 = r.primary q from ≡ Some (b, to) in
        elim s as (λ _. r.primary q from ≡ Some (b, to)) [
          | inl it ↦ primary_is (kind_at from) from (Some (b, to)) refl (by_literal (kind_at from) from (Some (b, to)) (literal_kind it.0 from it.1 it.2) (literal_whole.read b from to it tt))
          | inr s ↦ elim s as (λ _. r.primary q from ≡ Some (b, to)) [
            | inl it ↦ primary_is k.Date from (Some (b, to)) (word_kind it.2) ((whole_pass k.Date date_whole).read b from to it tt)
            | inr s ↦ elim s as (λ _. r.primary q from ≡ Some (b, to)) [
              | inl it ↦ primary_is k.True from (Some (b, to)) (word_kind it.2) ((whole_pass {S = Any} k.True (whole_give (e.Literal (l.Bool true)))).read b from to it tt)
              | inr s ↦ elim s as (λ _. r.primary q from ≡ Some (b, to)) [
                | inl it ↦ primary_is k.False from (Some (b, to)) (word_kind it.2) ((whole_pass {S = Any} k.False (whole_give (e.Literal (l.Bool false)))).read b from to it tt)
                | inr s ↦ elim s as (λ _. r.primary q from ≡ Some (b, to)) [
                  | inl it ↦ primary_is k.Null from (Some (b, to)) (word_kind it.2) ((whole_pass {S = Any} k.Null (whole_give (e.Literal l.Null))).read b from to it tt)
                  | inr s ↦ elim s as (λ _. r.primary q from ≡ Some (b, to)) [
                    | inl it ↦ column_read b from to it stop
                    | inr s ↦ elim s as (λ _. r.primary q from ≡ Some (b, to)) [
                      | inl it ↦ primary_is k.Open from (Some (b, to)) (word_kind it.2) ((whole_pass k.Open bracketed_whole).read b from to it tt)
                      | inr s ↦ elim s as (λ _. r.primary q from ≡ Some (b, to)) [
                        | inl it ↦ primary_is k.Case from (Some (b, to)) (word_kind it.2) ((whole_pass k.Case case_whole).read b from to it tt)
                        | inr s ↦ elim s as (λ _. r.primary q from ≡ Some (b, to)) [
                          | inl it ↦ primary_is k.Cast from (Some (b, to)) (word_kind it.2) ((whole_pass k.Cast cast_whole).read b from to it tt)
                          | inr s ↦ elim s as (λ _. r.primary q from ≡ Some (b, to)) [
                            | inl it ↦ count_read b from to it
                            | inr it ↦ call_read b from to it
                          ]
                        ]
                      ]
                    ]
                  ]
                ]
              ]
            ]
          ]
        ];
  }

  -- ---- what rules begin with

  primary_begins : Begins 3 (g.primary p)
  unfolding g.primary g.column g.count_rows g.call
  primary_begins =
      begins_or (record { begins = λ b from to s. literal_starts (kind_at from) (literal_kind s.0 from s.1 s.2) })
      (begins_or (begins_bind (begins_word k.Date refl))
      (begins_or (begins_bind (begins_word k.True refl))
      (begins_or (begins_bind (begins_word k.False refl))
      (begins_or (begins_bind (begins_word k.Null refl))
      (begins_or (begins_bind name_begins)
      (begins_or (begins_bind (begins_word k.Open refl))
      (begins_or (begins_bind (begins_word k.Case refl))
      (begins_or (begins_bind (begins_word k.Cast refl))
      (begins_or (begins_bind (begins_word k.Count refl))
      (begins_bind (begins_or name_begins (record { begins = λ b from to s. function_starts (kind_at from) (word_kind_is c.is_function_word b from to s) }))))))))))))

  indexed_begins : Begins 3 (g.indexed p)
  unfolding g.indexed
  indexed_begins = begins_bind primary_begins

  signed_begins : Begins 2 (g.signed p)
  unfolding g.signed
  signed_begins = begins_or (begins_bind (record { begins = λ x from to s. sign_starts (kind_at from) x (chosen_kind c.sign x from to s) }))
      (record { begins = λ b from to s. still_starts (kind_at from) (indexed_begins.begins b from to s) })

  sum_begins : Begins 2 (g.sum p)
  unfolding g.sum g.term g.suffixed
  sum_begins = begins_bind (begins_bind (begins_bind signed_begins))

  predicate_begins : Begins 2 (g.predicate p)
  unfolding g.predicate
  predicate_begins = begins_bind sum_begins

  negation_begins : Begins 1 (g.negation p)
  unfolding g.negation
  negation_begins = begins_or (begins_bind (begins_word k.Not refl)) (record { begins = λ b from to s. even_starts (kind_at from) (predicate_begins.begins b from to s) })

  pub disjunction_begins : Begins 1 (g.disjunction p)
  unfolding g.disjunction g.conjunction
  disjunction_begins = begins_bind (begins_bind (begins_bind (begins_bind negation_begins)))

  -- ---- operators, from the tightest to the loosest

  pub indexed_whole : Whole (Stop 7) (g.indexed p) (r.indexed q)
  unfolding g.indexed r.indexed r.element
  indexed_whole = whole_bind primary_whole (λ first. whole_eat k.OpenIndex
      (whole_bind E (λ index. whole_then (whole_word k.CloseIndex) (λ _. whole_give (e.Binary binary.Element first index))) (follows_word 1 k.CloseIndex refl))
      (whole_give first) (avoids_give 7 k.OpenIndex refl))
      (follows_or (follows_word 8 k.OpenIndex refl) (follows_give 7 8 refl))

  pub signed_whole : Whole (Stop 7) (g.signed p) (r.signed q)
  unfolding g.signed r.signed
  signed_whole = whole_choice c.sign (λ operator. whole_bind indexed_whole (λ operand. whole_give (e.Unary operator operand)) (follows_give 7 7 refl)) indexed_whole
      (record { lacks = λ b from to s stop. no_sign (kind_at from) (indexed_begins.begins b from to s) })

  pub suffixed_whole : Whole (Stop 6) (g.suffixed p) (r.suffixed q)
  unfolding g.suffixed r.suffixed r.null_test
  suffixed_whole = whole_bind signed_whole (λ value. whole_eat k.Is
      (whole_flag k.Not (λ negated. whole_then (whole_word k.Null) (λ _. whole_give (e.Unary (cond negated unary.IsNotNull unary.IsNull) value))) (avoids_bind (avoids_word k.Null k.Not (λ e. cc))))
      (whole_give value) (avoids_give 6 k.Is refl))
      (follows_or (follows_word 7 k.Is refl) (follows_give 6 7 refl))

  pub term_whole : Whole (Stop 5) (g.term p) (r.term q)
  unfolding g.term r.term r.factors
  term_whole = whole_chain c.multiplicative suffixed_whole (sound.suffixed_sound p q K)
      (λ t x e. factor_stops (kind_at t) x e) (λ t stop. lower binds 5 6 refl t stop) (λ t stop. no_factor (kind_at t) stop)

  pub sum_whole : Whole (Stop 4) (g.sum p) (r.sum q)
  unfolding g.sum r.sum r.summands
  sum_whole = whole_chain c.additive term_whole (sound.term_sound p q K)
      (λ t x e. summand_stops (kind_at t) x e) (λ t stop. lower binds 4 5 refl t stop) (λ t stop. no_summand (kind_at t) stop)

  matched_is : (value : Expr) (negated : Bool) (kind : Kind) (from : List Token) (o : Outcome Expr) → kind_at from ≡ kind → r.match_by q value negated kind from ≡ o → r.matched q value negated from ≡ o
  unfolding r.matched
  matched_is value negated kind from o at h = ap (λ z. r.match_by q value negated z from) at ∙ h

  pub matched_whole : (value : Expr) (negated : Bool) → Whole (Stop 4) (g.matched p value negated) (r.matched q value negated)
  unfolding g.matched r.like r.between r.among
  matched_whole value negated = record {
    read = λ b from to s stop.
        elim s as (λ _. r.matched q value negated from ≡ Some (b, to)) [
          | inl it ↦ matched_is value negated k.Like from (Some (b, to)) (word_kind it.2)
              ((whole_pass {S = Stop 4} k.Like (whole_bind sum_whole (λ pattern. whole_give (e.Binary (cond negated binary.NotLike binary.Like) value pattern)) (follows_give 4 4 refl))).read b from to it stop)
          | inr s ↦ elim s as (λ _. r.matched q value negated from ≡ Some (b, to)) [
            | inl it ↦ matched_is value negated k.Between from (Some (b, to)) (word_kind it.2)
                ((whole_pass {S = Stop 4} k.Between (whole_bind sum_whole (λ low. whole_then (whole_word k.And) (λ _. whole_bind sum_whole (λ high. whole_give (e.Between value negated low high)) (follows_give 4 4 refl))) (follows_word 4 k.And refl))).read b from to it stop)
            | inr it ↦ matched_is value negated k.In from (Some (b, to)) (word_kind it.2)
                ((whole_pass {S = Stop 4} k.In (whole_then (whole_word k.Open) (λ _. whole_bind list_whole (λ among. whole_then (whole_word k.Close) (λ _. whole_give (e.In value negated among))) (follows_end 1 k.Comma k.Close refl (λ e. cc))))).read b from to it stop)
          ]
        ];
  }

  matched_kind : (value : Expr) (negated : Bool) (b : Expr) (from to : List Token) → g.matched p value negated b from to
      → (kind_at from ≡ k.Like) ⊎ ((kind_at from ≡ k.Between) ⊎ (kind_at from ≡ k.In))
  unfolding g.matched
  matched_kind value negated b from to s = elim s as (λ _. (kind_at from ≡ k.Like) ⊎ ((kind_at from ≡ k.Between) ⊎ (kind_at from ≡ k.In))) [
    | inl it ↦ inl (word_kind it.2)
    | inr s ↦ elim s as (λ _. (kind_at from ≡ k.Like) ⊎ ((kind_at from ≡ k.Between) ⊎ (kind_at from ≡ k.In))) [
      | inl it ↦ inr (inl (word_kind it.2))
      | inr it ↦ inr (inr (word_kind it.2))
    ]
  ]

  -- ---- what stands behind a sum

  tested_is : (value : Expr) (kind : Kind) (from : List Token) (o : Outcome Expr) → kind_at from ≡ kind → r.tested_by q value kind from ≡ o → r.tested q value from ≡ o
  unfolding r.tested
  tested_is value kind from o at h = ap (λ z. r.tested_by q value z from) at ∙ h

  Compared : Expr → Kind → Reader Expr
  Compared value kind = by_option (c.comparison kind) (reader.give value) (λ operator. λ tokens. r.compared q value operator (next tokens))

  by_comparison : (value : Expr) (kind : Kind) (x : Binary) → c.comparison kind ≡ Some x → (from : List Token) (o : Outcome Expr) → Compared value kind from ≡ o → r.tested_by q value kind from ≡ o
  unfolding Compared
  by_comparison value k.Not x e from o h = absurd (cc)
  by_comparison value k.Like x e from o h = absurd (cc)
  by_comparison value k.Between x e from o h = absurd (cc)
  by_comparison value k.In x e from o h = absurd (cc)
  by_comparison value kind x e from o h = h

  by_nothing : (value : Expr) (kind : Kind) → nat_lt (binds kind) 3 ≡ true → (from : List Token) → r.tested_by q value kind from ≡ Some (value, from)
  by_nothing value k.Not e from = absurd (cc)
  by_nothing value k.Like e from = absurd (cc)
  by_nothing value k.Between e from = absurd (cc)
  by_nothing value k.In e from = absurd (cc)
  by_nothing value k.Equal e from = absurd (cc)
  by_nothing value k.EqualTwice e from = absurd (cc)
  by_nothing value k.Unequal e from = absurd (cc)
  by_nothing value k.Less e from = absurd (cc)
  by_nothing value k.AtMost e from = absurd (cc)
  by_nothing value k.Greater e from = absurd (cc)
  by_nothing value k.AtLeast e from = absurd (cc)
  by_nothing value k.NullSafeEqual e from = absurd (cc)
  by_nothing value kind e from = refl

  compared_whole : (value : Expr) (operator : Binary) → Whole (Stop 3) (λ b from to. (other : Expr) × (behind : List Token) × g.sum p other from behind × rule.give (e.Binary operator value other) b behind to) (r.compared q value operator)
  unfolding r.compared
  compared_whole value operator = whole_bind sum_whole (λ other. whole_give (e.Binary operator value other)) (follows_give 3 4 refl)

  compared_read : (value : Expr) (x : Binary) (b : Expr) (from mid to : List Token) → rule.one_of c.comparison x from mid
      → ((other : Expr) × (behind : List Token) × g.sum p other mid behind × rule.give (e.Binary x value other) b behind to) → Stop 3 to → r.tested q value from ≡ Some (b, to)
  unfolding Compared
  compared_read value x b from mid to w s stop =
      let at = chosen_kind c.comparison x from mid w in
      tested_is value (kind_at from) from (Some (b, to)) refl (by_comparison value (kind_at from) x at from (Some (b, to))
      (ap (λ o. by_option o (reader.give value) (λ operator. λ tokens. r.compared q value operator (next tokens)) from) at
      ∙ ap (r.compared q value x) (chosen_next c.comparison x from mid w) ∙ (compared_whole value x).read b mid to s stop))

  matched_read : (value b : Expr) (from to : List Token) → g.matched p value false b from to → Stop 3 to → r.tested q value from ≡ Some (b, to)
  matched_read value b from to s stop =
      let whole = (matched_whole value false).read b from to s (lower binds 3 4 refl to stop) in
      elim (matched_kind value false b from to s) as (λ _. r.tested q value from ≡ Some (b, to)) [
        | inl at ↦ tested_is value k.Like from (Some (b, to)) at whole
        | inr at ↦ elim at as (λ _. r.tested q value from ≡ Some (b, to)) [
          | inl at ↦ tested_is value k.Between from (Some (b, to)) at whole
          | inr at ↦ tested_is value k.In from (Some (b, to)) at whole
        ]
      ]

  -- what may stand behind a sum
  abbrev Behind : Expr → Rule Expr
  Behind value b from to =
      ((operator : Binary) × (between : List Token) × rule.one_of c.comparison operator from between × ((other : Expr) × (behind : List Token) × g.sum p other between behind × rule.give (e.Binary operator value other) b behind to))
      ⊎ (((u : Unit {0}) × (between : List Token) × rule.word k.Not u from between × g.matched p value true b between to)
      ⊎ (g.matched p value false b from to ⊎ rule.give value b from to))

  tested_whole : (value : Expr) → Whole (Stop 3) (Behind value) (r.tested q value)
  tested_whole value = record {
    read = λ b from to s stop. elim s as (λ _. r.tested q value from ≡ Some (b, to)) [
      | inl it ↦ compared_read value it.0 b from it.1 to it.2 it.3 stop
      | inr s ↦ elim s as (λ _. r.tested q value from ≡ Some (b, to)) [
        | inl it ↦ tested_is value k.Not from (Some (b, to)) (word_kind it.2) ((whole_pass k.Not (matched_whole value true)).read b from to it (lower binds 3 4 refl to stop))
        | inr s ↦ elim s as (λ _. r.tested q value from ≡ Some (b, to)) [
          | inl it ↦ matched_read value b from to it stop
          | inr it ↦ tested_is value (kind_at from) from (Some (b, to)) refl
              (by_nothing value (kind_at from) (ap (λ t. nat_lt (binds (kind_at t)) 3) it.1 ∙ stop) from ∙ (whole_give {S = Any} value).read b from to it tt)
        ]
      ]
    ];
  }

  behind_stops : (value b : Expr) (from to : List Token) → Behind value b from to → Stop 3 to → Stop 4 from
  behind_stops value b from to s stop = elim s as (λ _. Stop 4 from) [
    | inl it ↦ comparison_stops (kind_at from) it.0 (chosen_kind c.comparison it.0 from it.1 it.2)
    | inr s ↦ elim s as (λ _. Stop 4 from) [
      | inl it ↦ below_at binds 4 k.Not refl from (word_kind it.2)
      | inr s ↦ elim s as (λ _. Stop 4 from) [
        | inl it ↦ elim (matched_kind value false b from to it) as (λ _. Stop 4 from) [
          | inl at ↦ below_at binds 4 k.Like refl from at
          | inr at ↦ elim at as (λ _. Stop 4 from) [
            | inl at ↦ below_at binds 4 k.Between refl from at
            | inr at ↦ below_at binds 4 k.In refl from at
          ]
        ]
        | inr it ↦ lower binds 3 4 refl from (ap (λ t. nat_lt (binds (kind_at t)) 3) it.1 ∙ stop)
      ]
    ]
  ]

  pub predicate_whole : Whole (Stop 3) (g.predicate p) (r.predicate q)
  unfolding g.predicate r.predicate
  predicate_whole = whole_bind sum_whole (λ value. tested_whole value) (record { follows = λ value b from to s stop. behind_stops value b from to s stop })

  pub negation_whole : Whole (Stop 3) (g.negation p) (r.negation q)
  unfolding g.negation r.negation
  negation_whole = whole_eat k.Not (whole_bind predicate_whole (λ value. whole_give (e.Unary unary.Not value)) (follows_give 3 3 refl)) predicate_whole
      (avoids_begins k.Not predicate_begins refl)

  pub conjunction_whole : Whole (Stop 2) (g.conjunction p) (r.conjunction q)
  unfolding g.conjunction r.conjunction r.conjuncts
  conjunction_whole = whole_joined e.And k.And negation_whole (sound.negation_sound p q K)
      (below_at binds 3 k.And refl) (λ t stop. lower binds 2 3 refl t stop) (below_without binds 2 k.And refl)

  pub disjunction_whole : Whole (Stop 1) (g.disjunction p) (r.disjunction q)
  unfolding g.disjunction r.disjunction r.disjuncts
  disjunction_whole = whole_joined e.Or k.Or conjunction_whole (sound.conjunction_sound p q K)
      (below_at binds 2 k.Or refl) (λ t stop. lower binds 1 2 refl t stop) (below_without binds 1 k.Or refl)

-- whatever an expression nests
pub expr_whole : (depth : ℕ) → Whole (Stop 1) (g.expr depth) (r.expr depth) × Begins 1 (g.expr depth)
unfolding g.expr r.expr
expr_whole zero = (record { read = λ b from to s stop. absurd s }, record { begins = λ b from to s. absurd s })
expr_whole (suc depth) =
    let inner = expr_whole depth in
    let spelled = sound.expr_sound depth in
    (disjunction_whole (g.expr depth) (r.expr depth) inner.0 inner.1 spelled, disjunction_begins (g.expr depth) (r.expr depth) inner.0 inner.1 spelled)
