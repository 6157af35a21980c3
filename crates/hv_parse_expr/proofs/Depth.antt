-- How deep each production nests.
use Rattle.std.proofs.Common.{◌≡◌, ℕ, zero, suc, Bool, true, false, cond, Option, Some, None, List, [], refl, sym, subst}
use Rattle.hv_ast.specs.declared.token.Token.{Token}
use Rattle.hv_ast.specs.declared.token.Lexeme.{Lexeme}
use Rattle.hv_ast.specs.declared.token.Lexeme.TheVariants as lexeme
use Rattle.hv_ast.specs.declared.types.TypeName.TheVariants as type
use Rattle.hv_ast.specs.declared.types.ScalarName.{ScalarName}
use Rattle.hv_ast.specs.declared.expr.Expr.{Expr}
use Rattle.hv_ast.specs.declared.expr.Expr.TheVariants as expr
use Rattle.hv_ast.specs.declared.expr.Literal.{Literal}
use Rattle.hv_ast.specs.declared.expr.Literal.TheVariants as l
use Rattle.hv_ast.specs.declared.expr.Unary.{Unary}
use Rattle.hv_ast.specs.declared.expr.Unary.TheVariants as unary
use Rattle.hv_ast.specs.declared.expr.Binary.{Binary}
use Rattle.hv_ast.specs.declared.expr.Binary.TheVariants as binary
use Rattle.hv_ast.specs.declared.expr.Arithmetic.{Arithmetic}
use Rattle.hv_ast.specs.declared.expr.Operation.{Operation}
use Rattle.hv_ast.specs.Tokens.{Text}
use Rattle.hv_grammar.specs.declared.kind.Kind.{Kind}
use Rattle.hv_grammar.specs.declared.kind.Kind.TheVariants as k
use Rattle.hv_grammar.specs.Kinds.{kind_of}
use Rattle.hv_grammar.specs.Nesting.{stays, closes, turn_of}
use Rattle.hv_grammar.specs.Rules.{Rule}
use Rattle.hv_grammar.specs.Rules as rule
use Rattle.hv_grammar.specs.Grammar as g
use Rattle.hv_grammar.specs.Choices as c
use Rattle.hv_parse_expr.proofs.Room.{Goes, goes_give, goes_bind, goes_or, goes_token, goes_one_of, goes_word, goes_close, goes_open, goes_many, goes_separated, goes_flag}

-- ---- tokens that hold something open and close nothing

name_stays : (kind : Kind) → c.is_name kind ≡ true → turn_of kind ≡ stays
name_stays k.Open is = absurd (cc)
name_stays k.OpenIndex is = absurd (cc)
name_stays k.Case is = absurd (cc)
name_stays k.Close is = absurd (cc)
name_stays k.CloseIndex is = absurd (cc)
name_stays k.End is = absurd (cc)
name_stays kind is = refl

function_stays : (kind : Kind) → c.is_function_word kind ≡ true → turn_of kind ≡ stays
function_stays k.If is = refl
function_stays k.Array is = refl
function_stays kind is = absurd (cc)

by_word : (test : Kind → Bool) → ((kind : Kind) → test kind ≡ true → turn_of kind ≡ stays) → (token : Token) (text : Text) → g.word_by test token ≡ Some text → turn_of (kind_of token.what) ≡ stays
by_word test F token text h = by_bool (test (kind_of token.what)) refl h
  where
    by_bool : (b : Bool) → test (kind_of token.what) ≡ b → cond b (c.word_in token.what) None ≡ Some text → turn_of (kind_of token.what) ≡ stays
    by_bool true e h = F (kind_of token.what) e
    by_bool false e h = absurd (cc)

literal_stays : (what : Lexeme) (value : Literal) → c.literal_in what ≡ Some value → turn_of (kind_of what) ≡ stays
unfolding kind_of
literal_stays (lexeme.Int number) value h = refl
literal_stays (lexeme.Big number) value h = refl
literal_stays (lexeme.Str text) value h = refl
literal_stays what value h = absurd (cc)

pub string_stays : (what : Lexeme) (value : Text) → c.string_in what ≡ Some value → turn_of (kind_of what) ≡ stays
unfolding kind_of
string_stays (lexeme.Str text) value h = refl
string_stays what value h = absurd (cc)

scalar_stays : (kind : Kind) (x : ScalarName) → c.scalar_at kind ≡ Some x → turn_of kind ≡ stays
scalar_stays k.Open x h = absurd (cc)
scalar_stays k.OpenIndex x h = absurd (cc)
scalar_stays k.Case x h = absurd (cc)
scalar_stays k.Close x h = absurd (cc)
scalar_stays k.CloseIndex x h = absurd (cc)
scalar_stays k.End x h = absurd (cc)
scalar_stays kind x h = refl

comparison_stays : (kind : Kind) (x : Binary) → c.comparison kind ≡ Some x → turn_of kind ≡ stays
comparison_stays k.Open x h = absurd (cc)
comparison_stays k.OpenIndex x h = absurd (cc)
comparison_stays k.Case x h = absurd (cc)
comparison_stays k.Close x h = absurd (cc)
comparison_stays k.CloseIndex x h = absurd (cc)
comparison_stays k.End x h = absurd (cc)
comparison_stays kind x h = refl

additive_stays : (kind : Kind) (x : Arithmetic) → c.additive kind ≡ Some x → turn_of kind ≡ stays
additive_stays k.Plus x h = refl
additive_stays k.Minus x h = refl
additive_stays kind x h = absurd (cc)

multiplicative_stays : (kind : Kind) (x : Arithmetic) → c.multiplicative kind ≡ Some x → turn_of kind ≡ stays
multiplicative_stays k.Star x h = refl
multiplicative_stays k.Div x h = refl
multiplicative_stays k.Percent x h = refl
multiplicative_stays kind x h = absurd (cc)

sign_stays : (kind : Kind) (x : Unary) → c.sign kind ≡ Some x → turn_of kind ≡ stays
sign_stays k.Plus x h = refl
sign_stays k.Minus x h = refl
sign_stays kind x h = absurd (cc)

-- ---- names and types

pub name_goes : (n : ℕ) → Goes n n g.name g.name
name_goes n = goes_token n (g.word_by c.is_name) (by_word c.is_name name_stays)

scalar_goes : (n : ℕ) → Goes n n g.scalar g.scalar
scalar_goes n = goes_one_of n c.scalar_at scalar_stays

pub type_goes : (n : ℕ) → Goes n n g.type_name g.type_name
unfolding g.type_name g.array
type_goes n = goes_or
    (goes_bind (goes_word n k.Array refl) (λ _. goes_bind (goes_word n k.Less refl) (λ _. goes_bind (scalar_goes n) (λ of. goes_bind (goes_word n k.Greater refl) (λ _. goes_give n (type.Array of))))))
    (goes_bind (scalar_goes n) (λ of. goes_give n (type.Scalar of)))

qualified_goes : (n : ℕ) (first : Text) → Goes n n (g.qualified first) (g.qualified first)
unfolding g.qualified
qualified_goes n first = goes_or (goes_bind (goes_word n k.Dot refl) (λ _. goes_bind (name_goes n) (λ second. goes_give n (expr.Column (Some first) second)))) (goes_give n (expr.Column None first))

-- ---- expressions: where there is no room, no bracket opens, and elsewhere what stands in it has one level less

module _ (n : ℕ) (p q : Rule Expr) (I : (m : ℕ) → n ≡ suc m → Goes m m p q) where
  close : (m : ℕ) → n ≡ suc m → (kind : Kind) → turn_of kind ≡ closes → Goes m n (rule.word kind) (rule.word kind)
  close m e kind c = subst (λ z. Goes m z (rule.word kind) (rule.word kind)) (sym e) (goes_close m kind c)

  list_goes : (m : ℕ) → n ≡ suc m → Goes m m (g.list p) (g.list q)
  unfolding g.list
  list_goes m e = goes_separated m k.Comma refl (I m e)

  arguments_goes : (m : ℕ) → n ≡ suc m → Goes m n (g.arguments p) (g.arguments q)
  unfolding g.arguments
  arguments_goes m e = goes_or (goes_bind (close m e k.Close refl) (λ _. goes_give n [])) (goes_bind (list_goes m e) (λ found. goes_bind (close m e k.Close refl) (λ _. goes_give n found)))

  passed_goes : (function : Text) (m : ℕ) → n ≡ suc m → Goes m n (g.passed_to p function) (g.passed_to q function)
  unfolding g.passed_to
  passed_goes function m e = goes_bind (goes_flag m k.Distinct refl) (λ distinct. goes_bind (arguments_goes m e) (λ found. goes_give n (expr.Call function distinct found)))

  call_goes : Goes n n (g.call p) (g.call q)
  unfolding g.call
  call_goes = goes_bind (goes_or (name_goes n) (goes_token n (g.word_by c.is_function_word) (by_word c.is_function_word function_stays)))
      (λ function. goes_open n k.Open refl (passed_goes function))

  count_goes : Goes n n g.count_rows g.count_rows
  unfolding g.count_rows
  count_goes = goes_bind (goes_word n k.Count refl) (λ _. goes_open n k.Open refl (λ m e. goes_bind (goes_word m k.Star refl) (λ _. goes_bind (close m e k.Close refl) (λ _. goes_give n expr.CountRows))))

  column_goes : Goes n n g.column g.column
  unfolding g.column
  column_goes = goes_bind (name_goes n) (λ first. qualified_goes n first)

  when_goes : (m : ℕ) → n ≡ suc m → Goes m m (g.when p) (g.when q)
  unfolding g.when
  when_goes m e = goes_bind (I m e) (λ condition. goes_bind (goes_word m k.Then refl) (λ _. goes_bind (I m e) (λ value. goes_give m (record { condition = condition; value = value }))))

  operand_goes : (m : ℕ) → n ≡ suc m → Goes m m (g.operand p) (g.operand q)
  unfolding g.operand
  operand_goes m e = goes_or (goes_bind (goes_word m k.When refl) (λ _. goes_give m None)) (goes_bind (I m e) (λ value. goes_bind (goes_word m k.When refl) (λ _. goes_give m (Some value))))

  otherwise_goes : (m : ℕ) → n ≡ suc m → Goes m n (g.otherwise p) (g.otherwise q)
  unfolding g.otherwise
  otherwise_goes m e = goes_or (goes_bind (goes_word m k.Else refl) (λ _. goes_bind (I m e) (λ value. goes_bind (close m e k.End refl) (λ _. goes_give n (Some value)))))
      (goes_bind (close m e k.End refl) (λ _. goes_give n None))

  case_goes : (m : ℕ) → n ≡ suc m → Goes m n (g.case p) (g.case q)
  unfolding g.case
  case_goes m e = goes_bind (operand_goes m e) (λ value. goes_bind (goes_separated m k.When refl (when_goes m e)) (λ chosen. goes_bind (otherwise_goes m e) (λ other. goes_give n (expr.Case value chosen other))))

  cast_goes : Goes n n (g.cast p) (g.cast q)
  unfolding g.cast
  cast_goes = goes_open n k.Open refl (λ m e. goes_bind (I m e) (λ value. goes_bind (goes_word m k.As refl) (λ _. goes_bind (type_goes m) (λ to. goes_bind (close m e k.Close refl) (λ _. goes_give n (expr.Cast value to))))))

  primary_goes : Goes n n (g.primary p) (g.primary q)
  unfolding g.primary
  primary_goes =
      goes_or (goes_bind (goes_token n (λ token. c.literal_in token.what) (λ token value h. literal_stays token.what value h)) (λ value. goes_give n (expr.Literal value)))
      (goes_or (goes_bind (goes_word n k.Date refl) (λ _. goes_bind (goes_token n (λ token. c.string_in token.what) (λ token value h. string_stays token.what value h)) (λ text. goes_give n (expr.Literal (l.Date text)))))
      (goes_or (goes_bind (goes_word n k.True refl) (λ _. goes_give n (expr.Literal (l.Bool true))))
      (goes_or (goes_bind (goes_word n k.False refl) (λ _. goes_give n (expr.Literal (l.Bool false))))
      (goes_or (goes_bind (goes_word n k.Null refl) (λ _. goes_give n (expr.Literal l.Null)))
      (goes_or column_goes
      (goes_or (goes_open n k.Open refl (λ m e. goes_bind (I m e) (λ inner. goes_bind (close m e k.Close refl) (λ _. goes_give n inner))))
      (goes_or (goes_open n k.Case refl case_goes)
      (goes_or (goes_bind (goes_word n k.Cast refl) (λ _. cast_goes))
      (goes_or count_goes call_goes)))))))))

  indexed_goes : Goes n n (g.indexed p) (g.indexed q)
  unfolding g.indexed
  indexed_goes = goes_bind primary_goes (λ first. goes_or
      (goes_open n k.OpenIndex refl (λ m e. goes_bind (I m e) (λ index. goes_bind (close m e k.CloseIndex refl) (λ _. goes_give n (expr.Binary binary.Element first index)))))
      (goes_give n first))

  signed_goes : Goes n n (g.signed p) (g.signed q)
  unfolding g.signed
  signed_goes = goes_or (goes_bind (goes_one_of n c.sign sign_stays) (λ operator. goes_bind indexed_goes (λ operand. goes_give n (expr.Unary operator operand)))) indexed_goes

  suffixed_goes : Goes n n (g.suffixed p) (g.suffixed q)
  unfolding g.suffixed
  suffixed_goes = goes_bind signed_goes (λ value. goes_or
      (goes_bind (goes_word n k.Is refl) (λ _. goes_bind (goes_flag n k.Not refl) (λ negated. goes_bind (goes_word n k.Null refl) (λ _. goes_give n (expr.Unary (cond negated unary.IsNotNull unary.IsNull) value)))))
      (goes_give n value))

  chain_goes : (level : Kind → Option Arithmetic) → ((kind : Kind) (x : Arithmetic) → level kind ≡ Some x → turn_of kind ≡ stays) → {f h : Rule Expr} → Goes n n f h
      → Goes n n (λ tree from to. (first : Expr) × (between : List Token) × f first from between × ((all : List (Operation Expr)) × (behind : List Token) × rule.many (g.operation level f) all between behind × rule.give (g.chain first all) tree behind to))
      (λ tree from to. (first : Expr) × (between : List Token) × h first from between × ((all : List (Operation Expr)) × (behind : List Token) × rule.many (g.operation level h) all between behind × rule.give (g.chain first all) tree behind to))
  chain_goes level F P = goes_bind P (λ first. goes_bind
      (goes_many n (goes_bind (goes_one_of n level F) (λ operator. goes_bind P (λ operand. goes_give n (record { operator = operator; operand = operand })))))
      (λ all. goes_give n (g.chain first all)))

  term_goes : Goes n n (g.term p) (g.term q)
  unfolding g.term
  term_goes = chain_goes c.multiplicative multiplicative_stays suffixed_goes

  sum_goes : Goes n n (g.sum p) (g.sum q)
  unfolding g.sum
  sum_goes = chain_goes c.additive additive_stays term_goes

  matched_goes : (value : Expr) (negated : Bool) → Goes n n (g.matched p value negated) (g.matched q value negated)
  unfolding g.matched
  matched_goes value negated = goes_or
      (goes_bind (goes_word n k.Like refl) (λ _. goes_bind sum_goes (λ pattern. goes_give n (expr.Binary (cond negated binary.NotLike binary.Like) value pattern))))
      (goes_or (goes_bind (goes_word n k.Between refl) (λ _. goes_bind sum_goes (λ low. goes_bind (goes_word n k.And refl) (λ _. goes_bind sum_goes (λ high. goes_give n (expr.Between value negated low high))))))
      (goes_bind (goes_word n k.In refl) (λ _. goes_open n k.Open refl (λ m e. goes_bind (list_goes m e) (λ found. goes_bind (close m e k.Close refl) (λ _. goes_give n (expr.In value negated found)))))))

  predicate_goes : Goes n n (g.predicate p) (g.predicate q)
  unfolding g.predicate
  predicate_goes = goes_bind sum_goes (λ value. goes_or
      (goes_bind (goes_one_of n c.comparison comparison_stays) (λ operator. goes_bind sum_goes (λ other. goes_give n (expr.Binary operator value other))))
      (goes_or (goes_bind (goes_word n k.Not refl) (λ _. matched_goes value true))
      (goes_or (matched_goes value false) (goes_give n value))))

  negation_goes : Goes n n (g.negation p) (g.negation q)
  unfolding g.negation
  negation_goes = goes_or (goes_bind (goes_word n k.Not refl) (λ _. goes_bind predicate_goes (λ value. goes_give n (expr.Unary unary.Not value)))) predicate_goes

  conjunction_goes : Goes n n (g.conjunction p) (g.conjunction q)
  unfolding g.conjunction
  conjunction_goes = goes_bind (goes_separated n k.And refl negation_goes) (λ operands. goes_give n (g.joined expr.And operands))

  pub disjunction_goes : Goes n n (g.disjunction p) (g.disjunction q)
  unfolding g.disjunction
  disjunction_goes = goes_bind (goes_separated n k.Or refl conjunction_goes) (λ operands. goes_give n (g.joined expr.Or operands))

-- the expressions between brackets nest one level less than there was room for
pub expr_goes : (depth n : ℕ) → Goes n n (g.expr depth) (g.expr (suc n))
unfolding g.expr
expr_goes zero n = record { goes = λ b from to s room. absurd s }
expr_goes (suc depth) n = disjunction_goes n (g.expr depth) (g.expr n)
    (λ m e. subst (λ z. Goes m m (g.expr depth) (g.expr z)) (sym e) (expr_goes depth m))
