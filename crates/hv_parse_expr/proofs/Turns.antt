-- Loops that read rows of things, beside the readers of those rows.
use Rattle.std.proofs.Common.{◌≡◌, ℕ, suc, ◌+◌, ◌-◌, ◌<◌, ◌≤◌, Bool, true, false, Option, Some, None, List, [], ◌∷◌, ◌++◌, cond, refl, sym, ap, ◌∙◌, arith}
use Rattle.hv_ast.specs.declared.token.Token.{Token}
use Rattle.hv_ast.specs.declared.expr.Arithmetic.{Arithmetic}
use Rattle.hv_ast.specs.declared.expr.Operation.{Operation}
use Rattle.hv_grammar.specs.declared.kind.Kind.{Kind}
use Rattle.hv_grammar.specs.Readers.{Outcome, Reader, and_then, ◌>>=◌, give, by_option, kind_at, pass, next, sees, after, more, more_operations}

pub deeper : {X : Type 0} (f : ℕ → X) (n : ℕ) → 0 < n → f n ≡ f (suc (n - 1))
deeper f n some = let e : n ≡ suc (n - 1) = omega arith in ap f e

-- whether there is a separator, and what comes behind it
abbrev pub turn : {A : Type 0} → Kind → Reader A → ℕ → List A → Bool → List Token → Outcome (List A)
turn mark item turns items true tokens = and_then (item tokens) (λ one. more mark item turns (items ++ one ∷ []))
turn mark item turns items false tokens = Some (items, tokens)

pub more_suc : {A : Type 0} (mark : Kind) (item : Reader A) (turns : ℕ) (items : List A) (tokens : List Token)
    → more mark item (suc turns) items tokens ≡ turn mark item turns items (sees mark tokens) (after mark tokens)
unfolding more
more_suc mark item turns items tokens = by_sees (sees mark tokens)
  where
    by_sees : (seen : Bool) → (cond seen (item >>= (λ one. more mark item turns (items ++ one ∷ []))) (give items)) (after mark tokens) ≡ turn mark item turns items seen (after mark tokens)
    by_sees true = refl
    by_sees false = refl

-- a separator was taken: the whole is what the next item gives, and what comes behind it
pub goes_on : {A : Type 0} (mark : Kind) (item : Reader A) (whole : Outcome (List A)) (last at : ℕ) (items : List A) (tokens eaten : List Token) (seen : Bool)
    → at < last → whole ≡ more mark item (last - at) items tokens
    → seen ≡ sees mark tokens → seen ≡ true → eaten ≡ after mark tokens
    → whole ≡ and_then (item eaten) (λ one. more mark item (last - (at + 1)) (items ++ one ∷ []))
goes_on mark item whole last at items tokens eaten seen below so_far found is same =
    let left : last - at ≡ suc (last - (at + 1)) = omega arith in
    so_far ∙ ap (λ (n : ℕ). more mark item n items tokens) left
    ∙ more_suc mark item (last - (at + 1)) items tokens
    ∙ ap (λ (b : Bool). turn mark item (last - (at + 1)) items b (after mark tokens)) (sym found ∙ is)
    ∙ ap (λ (rest : List Token). and_then (item rest) (λ one. more mark item (last - (at + 1)) (items ++ one ∷ []))) (sym same)

-- no separator came: the items are all
pub stops : {A : Type 0} (mark : Kind) (item : Reader A) (whole : Outcome (List A)) (last at : ℕ) (items : List A) (tokens eaten : List Token) (seen : Bool)
    → at < last → whole ≡ more mark item (last - at) items tokens
    → seen ≡ sees mark tokens → seen ≡ false → eaten ≡ after mark tokens
    → whole ≡ Some (items, eaten)
stops mark item whole last at items tokens eaten seen below so_far found is same =
    let left : last - at ≡ suc (last - (at + 1)) = omega arith in
    so_far ∙ ap (λ (n : ℕ). more mark item n items tokens) left
    ∙ more_suc mark item (last - (at + 1)) items tokens
    ∙ ap (λ (b : Bool). turn mark item (last - (at + 1)) items b (after mark tokens)) (sym found ∙ is)
    ∙ ap (λ (rest : List Token). Some (items, rest)) (sym same)

-- each token had its turn
pub runs_out : {A : Type 0} (mark : Kind) (item : Reader A) (whole : Outcome (List A)) (last at : ℕ) (items : List A) (tokens : List Token)
    → last ≤ at → whole ≡ more mark item (last - at) items tokens → whole ≡ Some (items, tokens)
unfolding more
runs_out mark item whole last at items tokens done so_far =
    let left : last - at ≡ 0 = omega arith in
    so_far ∙ ap (λ (n : ℕ). more mark item n items tokens) left

-- what comes behind an operand, by the operator that was seen
abbrev pub operation : {A : Type 0} → (Kind → Option Arithmetic) → Reader A → ℕ → List (Operation A) → Option Arithmetic → Reader (List (Operation A))
operation level operand turns found None tokens = Some (found, tokens)
operation level operand turns found (Some operator) tokens =
    and_then (operand (next tokens)) (λ one. more_operations level operand turns (found ++ record { operator = operator; operand = one } ∷ []))

pub operations_suc : {A : Type 0} (level : Kind → Option Arithmetic) (operand : Reader A) (turns : ℕ) (found : List (Operation A)) (tokens : List Token) (seen : Option Arithmetic)
    → level (kind_at tokens) ≡ seen
    → more_operations level operand (suc turns) found tokens ≡ operation level operand turns found seen tokens
unfolding more_operations
operations_suc level operand turns found tokens None is =
    ap (λ (o : Option Arithmetic). by_option o (give found) (λ operator. pass >>= (λ _. operand >>= (λ one. more_operations level operand turns (found ++ record { operator = operator; operand = one } ∷ [])))) tokens) is
operations_suc level operand turns found tokens (Some operator) is =
    ap (λ (o : Option Arithmetic). by_option o (give found) (λ operator. pass >>= (λ _. operand >>= (λ one. more_operations level operand turns (found ++ record { operator = operator; operand = one } ∷ [])))) tokens) is

pub operated : {A : Type 0} (level : Kind → Option Arithmetic) (operand : Reader A) (whole : Outcome (List (Operation A))) (last at : ℕ) (found : List (Operation A)) (tokens : List Token) (kind : Kind) (seen : Option Arithmetic) (operator : Arithmetic)
    → at < last → whole ≡ more_operations level operand (last - at) found tokens
    → kind ≡ kind_at tokens → seen ≡ level kind → seen ≡ Some operator
    → whole ≡ and_then (operand (next tokens)) (λ one. more_operations level operand (last - (at + 1)) (found ++ record { operator = operator; operand = one } ∷ []))
operated level operand whole last at found tokens kind seen operator below so_far next_is level_is is =
    let left : last - at ≡ suc (last - (at + 1)) = omega arith in
    so_far ∙ ap (λ (n : ℕ). more_operations level operand n found tokens) left
    ∙ operations_suc level operand (last - (at + 1)) found tokens (Some operator) (ap level (sym next_is) ∙ sym level_is ∙ is)

pub no_operator : {A : Type 0} (level : Kind → Option Arithmetic) (operand : Reader A) (whole : Outcome (List (Operation A))) (last at : ℕ) (found : List (Operation A)) (tokens : List Token) (kind : Kind) (seen : Option Arithmetic)
    → at < last → whole ≡ more_operations level operand (last - at) found tokens
    → kind ≡ kind_at tokens → seen ≡ level kind → seen ≡ None → whole ≡ Some (found, tokens)
no_operator level operand whole last at found tokens kind seen below so_far next_is level_is is =
    let left : last - at ≡ suc (last - (at + 1)) = omega arith in
    so_far ∙ ap (λ (n : ℕ). more_operations level operand n found tokens) left
    ∙ operations_suc level operand (last - (at + 1)) found tokens None (ap level (sym next_is) ∙ sym level_is ∙ is)

pub operations_run_out : {A : Type 0} (level : Kind → Option Arithmetic) (operand : Reader A) (whole : Outcome (List (Operation A))) (last at : ℕ) (found : List (Operation A)) (tokens : List Token)
    → last ≤ at → whole ≡ more_operations level operand (last - at) found tokens → whole ≡ Some (found, tokens)
unfolding more_operations
operations_run_out level operand whole last at found tokens done so_far =
    let left : last - at ≡ 0 = omega arith in
    so_far ∙ ap (λ (n : ℕ). more_operations level operand n found tokens) left
