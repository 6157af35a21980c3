-- Where `ident . *` stands no expression is read.
use Rattle.std.proofs.Common.{◌≡◌, ℕ, zero, suc, true, false, ◌&&◌, cond, Option, Some, None, List, [], ◌∷◌, refl, sym, ap, ◌∙◌}
use Rattle.hv_ast.specs.declared.token.Token.{Token}
use Rattle.hv_ast.specs.declared.expr.Expr.{Expr}
use Rattle.hv_ast.specs.declared.expr.Expr.TheVariants as e
use Rattle.hv_ast.specs.declared.expr.Unary.TheVariants as unary
use Rattle.hv_ast.specs.Tokens.{Text}
use Rattle.hv_grammar.specs.declared.kind.Kind.{Kind}
use Rattle.hv_grammar.specs.declared.kind.Kind.TheVariants as k
use Rattle.hv_grammar.specs.Kinds.{same_kind}
use Rattle.hv_grammar.specs.Readers.{Outcome, Reader, and_then, kind_at, next, sees, after, by_option, give, refuse, held_by}
use Rattle.hv_grammar.specs.Readers as reader
use Rattle.hv_grammar.specs.Choices as c
use Rattle.hv_grammar.specs.Reading as r
use Rattle.hv_grammar.specs.QueryReading.{sees_all_of}
use Rattle.hv_parse_expr.proofs.Begins.{is_seen, is_not_seen}
use Rattle.hv_parse_expr.proofs.Joins.{seen}
use Rattle.hv_parse_expr.proofs.Found.{both, true_false}

none_then : {A B : Type 0} {o : Outcome A} (f : A → Reader B) → o ≡ None → and_then o f ≡ None
none_then f e = ap (λ o. and_then o f) e

-- ident, and then `.`, and then `*`
abbrev Parts : List Token → Type 0
Parts tokens = (c.is_name (kind_at tokens) ≡ true) × (kind_at (next tokens) ≡ k.Dot) × (kind_at (next (next tokens)) ≡ k.Star)

parts : (tokens : List Token) → sees_all_of tokens ≡ true → Parts tokens
unfolding sees_all_of
parts tokens e =
    let two = both (c.is_name (kind_at tokens) && sees k.Dot (next tokens)) (sees k.Star (next (next tokens))) e in
    let one = both (c.is_name (kind_at tokens)) (sees k.Dot (next tokens)) two.0 in
    (one.0, seen (next tokens) k.Dot one.1, seen (next (next tokens)) k.Star two.1)

-- ---- the name and its dot

no_name : (tokens : List Token) → kind_at tokens ≡ k.Star → r.name tokens ≡ None
unfolding r.name
no_name tokens at = ap (λ z. cond {A = Reader Text} (c.is_name z) r.word refuse tokens) at

no_column : (first : Text) (tokens : List Token) → kind_at tokens ≡ k.Dot → kind_at (next tokens) ≡ k.Star → r.column first tokens ≡ None
unfolding r.column after
no_column first tokens dot star =
    ap (λ b. cond {A = Reader Expr} b (λ t. and_then (r.name t) (λ second. give (e.Column (Some first) second))) (give (e.Column None first)) (cond b (next tokens) tokens)) (is_seen k.Dot tokens dot)
    ∙ ap (λ o. and_then o (λ second. give (e.Column (Some first) second))) (no_name (next tokens) star)

-- where another word is seen, these aren't
other_kind : (kind other : Kind) (tokens : List Token) → (kind ≡ other → ⊥) → kind_at tokens ≡ kind → sees other tokens ≡ false
other_kind kind other tokens apart at = is_not_seen other tokens (λ is. apart (sym at ∙ is))

module _ (q : Reader Expr) where
  -- behind a name
  abbrev After : Kind → Text → Reader Expr
  After kind first = λ mid. cond (sees k.Open mid) (cond (same_kind kind k.Count) (r.count q first) (r.call q first)) (r.column first) (after k.Open mid)

  none_after : (kind : Kind) (first : Text) (tokens : List Token) → kind_at tokens ≡ k.Dot → kind_at (next tokens) ≡ k.Star → After kind first tokens ≡ None
  unfolding after
  none_after kind first tokens dot star =
      ap (λ b. cond {A = Reader Expr} b (cond (same_kind kind k.Count) (r.count q first) (r.call q first)) (r.column first) (cond b (next tokens) tokens)) (other_kind k.Dot k.Open tokens (λ e. cc) dot)
      ∙ no_column first tokens dot star

  by_word : (kind : Kind) (o : Option Text) (rest : List Token) → kind_at rest ≡ k.Dot → kind_at (next rest) ≡ k.Star → and_then (held_by o rest) (After kind) ≡ None
  by_word kind (Some first) rest dot star = none_after kind first rest dot star
  by_word kind None rest dot star = refl

  no_named : (tokens : List Token) → Parts tokens → r.named q tokens ≡ None
  unfolding r.named r.word reader.held next
  no_named [] parts = refl
  no_named (token ∷ rest) parts = by_word (kind_at (token ∷ rest)) (c.word_in token.what) rest parts.1 parts.2

  by_name : (kind : Kind) (tokens : List Token) (o : Outcome Expr) → c.is_name kind ≡ true → r.named q tokens ≡ o → r.primary_by q kind tokens ≡ o
  by_name k.Number tokens o is h = absurd (cc)
  by_name k.Text tokens o is h = absurd (cc)
  by_name k.Date tokens o is h = absurd (cc)
  by_name k.True tokens o is h = absurd (cc)
  by_name k.False tokens o is h = absurd (cc)
  by_name k.Null tokens o is h = absurd (cc)
  by_name k.Open tokens o is h = absurd (cc)
  by_name k.Case tokens o is h = absurd (cc)
  by_name k.Cast tokens o is h = absurd (cc)
  by_name k.If tokens o is h = absurd (cc)
  by_name k.Array tokens o is h = absurd (cc)
  by_name kind tokens o is h = ap (λ b. cond {A = Reader Expr} b (r.named q) refuse tokens) is ∙ h

  -- ---- and so each level that begins with it

  no_primary : (tokens : List Token) → Parts tokens → r.primary q tokens ≡ None
  unfolding r.primary
  no_primary tokens parts = by_name (kind_at tokens) tokens None parts.0 (no_named tokens parts)

  no_indexed : (tokens : List Token) → Parts tokens → r.indexed q tokens ≡ None
  unfolding r.indexed
  no_indexed tokens parts = none_then _ (no_primary tokens parts)

  no_sign : (kind : Kind) → c.is_name kind ≡ true → c.sign kind ≡ None
  no_sign k.Plus is = absurd (cc)
  no_sign k.Minus is = absurd (cc)
  no_sign kind is = refl

  no_signed : (tokens : List Token) → Parts tokens → r.signed q tokens ≡ None
  unfolding r.signed
  no_signed tokens parts =
      ap (λ o. by_option o (r.indexed q) (λ operator. λ t. and_then (r.indexed q (next t)) (λ a. give (e.Unary operator a))) tokens) (no_sign (kind_at tokens) parts.0)
      ∙ no_indexed tokens parts

  no_sum : (tokens : List Token) → Parts tokens → r.sum q tokens ≡ None
  unfolding r.sum r.term r.suffixed
  no_sum tokens parts = none_then _ (none_then _ (none_then _ (no_signed tokens parts)))

  no_predicate : (tokens : List Token) → Parts tokens → r.predicate q tokens ≡ None
  unfolding r.predicate
  no_predicate tokens parts = none_then _ (no_sum tokens parts)

  no_negation : (tokens : List Token) → Parts tokens → r.negation q tokens ≡ None
  unfolding r.negation after
  no_negation tokens parts =
      ap (λ b. cond {A = Reader Expr} b (λ t. and_then (r.predicate q t) (λ a. give (e.Unary unary.Not a))) (r.predicate q) (cond b (next tokens) tokens))
      (is_not_seen k.Not tokens (λ at. true_false (sym parts.0 ∙ ap c.is_name at)))
      ∙ no_predicate tokens parts

  no_disjunction : (tokens : List Token) → Parts tokens → r.disjunction q tokens ≡ None
  unfolding r.disjunction r.conjunction
  no_disjunction tokens parts = none_then _ (none_then _ (no_negation tokens parts))

pub no_expr : (depth : ℕ) (tokens : List Token) → sees_all_of tokens ≡ true → r.expr depth tokens ≡ None
unfolding r.expr
no_expr zero tokens e = refl
no_expr (suc depth) tokens e = no_disjunction (r.expr depth) tokens (parts tokens e)
