-- Room for productions whose words and brackets open levels of their own, and at the fixed depth of
-- the readers.
use Rattle.std.proofs.Common.{◌≡◌, ℕ, zero, suc, ◌≤◌, true, false, Option, Some, None, List, [], ◌∷◌, refl, sym, subst, arith}
use Rattle.hv_ast.specs.declared.token.Token.{Token}
use Rattle.hv_grammar.specs.declared.kind.Kind.{Kind}
use Rattle.hv_grammar.specs.declared.kind.Kind.TheVariants as k
use Rattle.hv_grammar.specs.Kinds.{kind_of}
use Rattle.hv_grammar.specs.Nesting.{Turn, opens, closes, stays, turn_of, turned, too_deep, most_levels}
use Rattle.hv_grammar.specs.Rules as rule
use Rattle.hv_grammar.specs.Rules.{Rule}
use Rattle.hv_grammar.specs.Grammar as g
use Rattle.hv_parse_expr.proofs.Room.{Goes, goes_give, goes_bind, goes_or, goes_word, goes_close, goes_open, goes_many, goes_flag}
use Rattle.hv_parse_expr.proofs.Depth.{expr_goes}

-- ---- what has room has it where there is more

turned_more : (turn : Turn) (n m at : ℕ) (rest : ℕ → Option ℕ) → ((a b : ℕ) → a ≤ b → rest a ≡ None → rest b ≡ None) → n ≤ m → turned turn n at rest ≡ None → turned turn m at rest ≡ None
turned_more opens zero m at rest F le room = absurd (cc)
turned_more opens (suc n) zero at rest F le room = absurd (omega (arith, le))
turned_more opens (suc n) (suc m) at rest F le room = F n m (omega (arith, le)) room
turned_more closes n m at rest F le room = F (suc n) (suc m) (omega (arith, le)) room
turned_more stays n m at rest F le room = F n m le room

pub more_room : (n m : ℕ) (from : List Token) → n ≤ m → too_deep n from ≡ None → too_deep m from ≡ None
more_room n m [] le room = refl
more_room n m (token ∷ rest) le room =
    turned_more (turn_of (kind_of token.what)) n m token.at (λ left. too_deep left rest) (λ a b below h. more_room a b rest below h) le room

-- the tree at one depth, and the room behind it
pub goes_deeper : {A : Type 0} {p q r : Rule A} (n m : ℕ) → n ≤ m → Goes n n p q → Goes m m p r → Goes n n p r
goes_deeper n m le P R = record {
  goes = λ a from to s room. ((R.goes a from to s (more_room n m from le room)).0, (P.goes a from to s room).1);
}

-- an expression of any depth, where no more levels are left than there are at all
pub any_goes : (depth n : ℕ) → n ≤ most_levels → Goes n n (g.expr depth) (g.expr (suc most_levels))
any_goes depth n le = goes_deeper n most_levels le (expr_goes depth n) (expr_goes depth most_levels)

-- ---- words and brackets

pub goes_perhaps : {A : Type 0} (n : ℕ) {p q : Rule A} (kind : Kind) → turn_of kind ≡ stays → Goes n n p q → Goes n n (rule.perhaps kind p) (rule.perhaps kind q)
goes_perhaps n kind e P = goes_or (goes_bind (goes_word n kind e) (λ _. goes_bind P (λ a. goes_give n (Some a)))) (goes_give n None)

pub goes_either : (n : ℕ) (mark other : Kind) → turn_of mark ≡ stays → turn_of other ≡ stays → Goes n n (rule.either mark other) (rule.either mark other)
goes_either n mark other e h = goes_or (goes_bind (goes_word n mark e) (λ _. goes_give n true)) (goes_bind (goes_flag n other h) (λ _. goes_give n false))

pub goes_rows : {A : Type 0} (n : ℕ) {p q : Rule A} (mark : Kind) → turn_of mark ≡ stays → Goes n n p q → Goes n n (rule.rows mark p) (rule.rows mark q)
goes_rows n mark e P = goes_many n (goes_bind (goes_word n mark e) (λ _. P))

-- what stands between brackets has one level less
pub goes_bracketed : {A : Type 0} (n : ℕ) {p q : Rule A} → ((m : ℕ) → n ≡ suc m → Goes m m p q) → Goes n n (rule.bracketed p) (rule.bracketed q)
goes_bracketed n P = goes_open n k.Open refl (λ m e. goes_bind (P m e) (λ a. goes_bind
    (subst (λ z. Goes m z (rule.word k.Close) (rule.word k.Close)) (sym e) (goes_close m k.Close refl))
    (λ _. goes_give n a)))

-- one level less is still no more than there are
pub level_below : (n m : ℕ) → n ≡ suc m → n ≤ most_levels → m ≤ most_levels
level_below n m e le = omega (arith, e, le)
