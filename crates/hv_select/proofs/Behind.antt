-- What comes behind what is done.
use Rattle.std.proofs.Common.{◌≡◌, List, [], ◌∷◌, ◌++◌, Result, Ok, Err, refl, sym, ap, ◌∙◌, append_assoc}
use Rattle.std.proofs.lemmas.List.{append-nil}
use Rattle.hv_base.specs.declared.refusal.Refusal.{Refusal}
use Rattle.hv_expr.specs.declared.tree.TypedExpr.{TypedExpr}
use Rattle.hv_typing.specs.declared.tree.OutputColumn.{OutputColumn}
use Rattle.hv_typing.specs.Nodes.{as_kind}
use Rattle.hv_typing.specs.Queries.{items_as, first_kind, behind_first}
use Rattle.hv_typing.specs.Selects.{behind}
use Rattle.hv_typing.proofs.Equations.{behind-in_front, behind-nothing}

pub behind-behind : {A : Type 0} (done more : List A) (rest : Result (List A) Refusal) → behind done (behind more rest) ≡ behind (done ++ more) rest
behind-behind done more (Ok rest) = ap Ok (sym (append_assoc done more rest))
behind-behind done more (Err refusal) = refl

-- ---- items that are converted one by one

abbrev IsMade : List OutputColumn → List OutputColumn → List TypedExpr → List TypedExpr → Type 0
IsMade columns rest made yielded = (more : List TypedExpr) → made ++ items_as rest more ≡ items_as columns (yielded ++ more)

pub items-step : (columns rest : List OutputColumn) (made yielded : List TypedExpr) (x : TypedExpr) → IsMade columns rest made yielded
    → IsMade columns (behind_first rest) (made ++ as_kind (first_kind rest) x ∷ []) (yielded ++ x ∷ [])
items-step columns rest made yielded x is more =
    append_assoc made (as_kind (first_kind rest) x ∷ []) (items_as (behind_first rest) more)
    ∙ is (x ∷ more)
    ∙ ap (items_as columns) (sym (append_assoc yielded (x ∷ []) more))

pub items-end : (columns rest : List OutputColumn) (made row : List TypedExpr) → IsMade columns rest made row → made ≡ items_as columns row
items-end columns rest made row is = sym (append-nil made) ∙ is [] ∙ ap (items_as columns) (append-nil row)

pub ruleset steps = (behind-in_front, behind-behind, behind-nothing)
