-- What becomes of a reading that may have failed, whichever reader's outcome it is.
use Rattle.std.specs.Prelude.{◌≡◌, ◌≢◌, List, [], ◌∷◌, ◌++◌, None, Result}
use Rattle.hv_ast.specs.declared.token.Token.{Token}
use Rattle.hv_grammar.specs.Readers.{Outcome, Reader, and_then}
use Rattle.hv_parse_expr.specs.Reads.{Reads}
use Rattle.hv_parse_expr.specs.declared.fault.ReadFault.{ReadFault}
use Rattle.hv_parse_expr.specs.declared.fault.ReadFault.TheVariants as refusal

-- what goes on with the items and the one that was read goes on with all of these
abbrev pub GoesOn : {A : Type 0} → Result A ReadFault → List A → List A → Type 0
GoesOn {A = A} read items all = (outcome : Outcome A) (rest : List Token) (go_on : List A → Reader (List A)) → Reads outcome read rest
    → and_then outcome (λ one. go_on (items ++ one ∷ [])) ≡ go_on all rest

-- nothing was read, unless memory ran out
abbrev pub IsRefused : {A : Type 0} → Result A ReadFault → ReadFault → Type 0
IsRefused {A = A} read fault = (outcome : Outcome A) (rest : List Token) → Reads outcome read rest → fault ≢ refusal.NoMemory → outcome ≡ None
