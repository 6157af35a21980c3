-- The loop that reads things as long as the next token begins one, beside the reader of such a row.
use Rattle.std.proofs.Common.{◌≡◌, ℕ, suc, ◌+◌, ◌-◌, ◌<◌, ◌≤◌, Bool, true, false, Some, List, [], ◌∷◌, ◌++◌, cond, refl, sym, ap, ◌∙◌, arith}
use Rattle.hv_ast.specs.declared.token.Token.{Token}
use Rattle.hv_grammar.specs.declared.kind.Kind.{Kind}
use Rattle.hv_grammar.specs.Readers.{Outcome, Reader, and_then, ◌>>=◌, give, kind_at, more_while}

-- whether the next token begins one, and what comes then
abbrev pub turn_while : {A : Type 0} → (Kind → Bool) → Reader A → ℕ → List A → Bool → Reader (List A)
turn_while begins item turns found true tokens = and_then (item tokens) (λ one. more_while begins item turns (found ++ one ∷ []))
turn_while begins item turns found false tokens = Some (found, tokens)

pub more_while_suc : {A : Type 0} (begins : Kind → Bool) (item : Reader A) (turns : ℕ) (found : List A) (tokens : List Token)
    → more_while begins item (suc turns) found tokens ≡ turn_while begins item turns found (begins (kind_at tokens)) tokens
unfolding more_while
more_while_suc begins item turns found tokens = by_begun (begins (kind_at tokens))
  where
    by_begun : (begun : Bool) → (cond begun (item >>= (λ one. more_while begins item turns (found ++ one ∷ []))) (give found)) tokens ≡ turn_while begins item turns found begun tokens
    by_begun true = refl
    by_begun false = refl

-- one begins: the whole is what it gives, and what comes behind it
pub goes_on_while : {A : Type 0} (begins : Kind → Bool) (item : Reader A) (whole : Outcome (List A)) (last at : ℕ) (found : List A) (tokens : List Token) (kind : Kind) (begun : Bool)
    → at < last → whole ≡ more_while begins item (last - at) found tokens
    → kind ≡ kind_at tokens → begun ≡ begins kind → begun ≡ true
    → whole ≡ and_then (item tokens) (λ one. more_while begins item (last - (at + 1)) (found ++ one ∷ []))
goes_on_while begins item whole last at found tokens kind begun below so_far next_is begun_is is =
    let left : last - at ≡ suc (last - (at + 1)) = omega arith in
    so_far ∙ ap (λ (n : ℕ). more_while begins item n found tokens) left
    ∙ more_while_suc begins item (last - (at + 1)) found tokens
    ∙ ap (λ (b : Bool). turn_while begins item (last - (at + 1)) found b tokens) (ap begins (sym next_is) ∙ sym begun_is ∙ is)

-- none begins: those that were found are all
pub stops_while : {A : Type 0} (begins : Kind → Bool) (item : Reader A) (whole : Outcome (List A)) (last at : ℕ) (found : List A) (tokens : List Token) (kind : Kind) (begun : Bool)
    → at < last → whole ≡ more_while begins item (last - at) found tokens
    → kind ≡ kind_at tokens → begun ≡ begins kind → begun ≡ false
    → whole ≡ Some (found, tokens)
stops_while begins item whole last at found tokens kind begun below so_far next_is begun_is is =
    let left : last - at ≡ suc (last - (at + 1)) = omega arith in
    so_far ∙ ap (λ (n : ℕ). more_while begins item n found tokens) left
    ∙ more_while_suc begins item (last - (at + 1)) found tokens
    ∙ ap (λ (b : Bool). turn_while begins item (last - (at + 1)) found b tokens) (ap begins (sym next_is) ∙ sym begun_is ∙ is)

-- each token had its turn
pub runs_out_while : {A : Type 0} (begins : Kind → Bool) (item : Reader A) (whole : Outcome (List A)) (last at : ℕ) (found : List A) (tokens : List Token)
    → last ≤ at → whole ≡ more_while begins item (last - at) found tokens → whole ≡ Some (found, tokens)
unfolding more_while
runs_out_while begins item whole last at found tokens done so_far =
    let left : last - at ≡ 0 = omega arith in
    so_far ∙ ap (λ (n : ℕ). more_while begins item n found tokens) left
