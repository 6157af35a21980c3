-- A literal alone, with a sign or without, is an expression: it goes through all levels of operators.
use Rattle.std.proofs.Common.{inl, inr, List, [], ◌∷◌, refl}
use Rattle.hv_ast.specs.declared.token.Token.{Token}
use Rattle.hv_ast.specs.declared.expr.Expr.{Expr}
use Rattle.hv_ast.specs.declared.expr.Expr.TheVariants as e
use Rattle.hv_ast.specs.declared.expr.Unary.TheVariants as unary
use Rattle.hv_grammar.specs.Rules.{Rule, one_of}
use Rattle.hv_grammar.specs.Choices.{sign}
use Rattle.hv_grammar.specs.Grammar as g

module _ (p : Rule Expr) (tree : Expr) where
  indexed_lone : (from to : List Token) → g.primary p tree from to → g.indexed p tree from to
  unfolding g.indexed
  indexed_lone from to s = (tree, to, s, inr (refl, refl))

  suffixed_lone : (from to : List Token) → g.signed p tree from to → g.suffixed p tree from to
  unfolding g.suffixed
  suffixed_lone from to s = (tree, to, s, inr (refl, refl))

  term_lone : (from to : List Token) → g.suffixed p tree from to → g.term p tree from to
  unfolding g.term
  term_lone from to s = (tree, to, s, ([], to, refl, (refl, refl)))

  sum_lone : (from to : List Token) → g.term p tree from to → g.sum p tree from to
  unfolding g.sum
  sum_lone from to s = (tree, to, s, ([], to, refl, (refl, refl)))

  predicate_lone : (from to : List Token) → g.sum p tree from to → g.predicate p tree from to
  unfolding g.predicate
  predicate_lone from to s = (tree, to, s, inr (inr (inr (refl, refl))))

  negation_lone : (from to : List Token) → g.predicate p tree from to → g.negation p tree from to
  unfolding g.negation
  negation_lone from to s = inr s

  conjunction_lone : (from to : List Token) → g.negation p tree from to → g.conjunction p tree from to
  unfolding g.conjunction
  conjunction_lone from to s = (tree ∷ [], to, (tree, to, s, ([], to, refl, (refl, refl))), (refl, refl))

  disjunction_lone : (from to : List Token) → g.conjunction p tree from to → g.disjunction p tree from to
  unfolding g.disjunction
  disjunction_lone from to s = (tree ∷ [], to, (tree, to, s, ([], to, refl, (refl, refl))), (refl, refl))

  -- from a signed primary up
  pub signed_lone : (from to : List Token) → g.signed p tree from to → g.disjunction p tree from to
  signed_lone from to s =
      disjunction_lone from to (conjunction_lone from to (negation_lone from to (predicate_lone from to
      (sum_lone from to (term_lone from to (suffixed_lone from to s))))))

  pub primary_lone : (from to : List Token) → g.primary p tree from to → g.disjunction p tree from to
  unfolding g.signed
  primary_lone from to s = signed_lone from to (inr (indexed_lone from to s))

-- the same behind a minus
pub negative_lone : (p : Rule Expr) (tree : Expr) (from mid to : List Token) → one_of sign unary.Minus from mid → g.primary p tree mid to
    → g.disjunction p (e.Unary unary.Minus tree) from to
unfolding g.signed
negative_lone p tree from mid to minus s =
    signed_lone p (e.Unary unary.Minus tree) from to (inl (unary.Minus, mid, minus, (tree, to, indexed_lone p tree mid to s, (refl, refl))))
