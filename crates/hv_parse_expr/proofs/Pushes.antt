-- Rows of things, each pushed as it was read.
use Rattle.std.proofs.Common.{◌≡◌, ℕ, ◌-◌, Some, Result, Ok, Err, IfErr, IsErrAnd, List, [], ◌∷◌, ◌++◌, length, arith, sym, ap, subst, ◌∙◌}
use Rattle.hv_ast.specs.declared.token.Token.{Token}
use Rattle.hv_grammar.specs.declared.kind.Kind.{Kind}
use Rattle.hv_grammar.specs.Readers.{Outcome, Reader, and_then, behind, more, separated}

pub passed_up : {T E : Type 0} (r : Result T E) (e : E) (P : E → Type 0) → IsErrAnd r (λ y. y ≡ e) → P e → IfErr r P
passed_up (Ok x) e P is p = tt
passed_up (Err d) e P is p = subst P (sym is) p

-- what was read is behind the items
pub put_behind : {A : Type 0} (outcome : Outcome A) (rest : List Token) (items all : List A) (item : A) (go_on : List A → Reader (List A))
    → outcome ≡ Some (item, rest) → all ≡ items ++ item ∷ [] → and_then outcome (λ one. go_on (items ++ one ∷ [])) ≡ go_on all rest
put_behind {A = A} outcome rest items all item go_on read is =
    ap (λ (o : Outcome A). and_then o (λ one. go_on (items ++ one ∷ []))) read ∙ ap (λ (xs : List A). go_on xs rest) (sym is)

-- the first item was read, and as many turns may come as tokens are left
pub begun : {A : Type 0} (mark : Kind) (item : Reader A) (tokens rest : List Token) (start items : List A) (turns : ℕ)
    → start ≡ [] → and_then (item tokens) (λ one. behind mark item (start ++ one ∷ [])) ≡ behind mark item items rest → turns ≡ length rest
    → separated mark item tokens ≡ more mark item (turns - 0) items rest
unfolding separated
begun {A = A} mark item tokens rest start items turns begins goes is =
    let left : length rest ≡ turns - 0 = omega arith in
    subst (λ (first : List A). and_then (item tokens) (λ one. behind mark item (first ++ one ∷ [])) ≡ behind mark item items rest) begins goes
    ∙ ap (λ (n : ℕ). more mark item n items rest) left
