-- What comes behind what is done.
use Rattle.std.proofs.Common.{◌≡◌, List, [], ◌∷◌, ◌++◌, Result, Ok, Err, refl, sym, ap, ◌∙◌, drop, append_assoc}
use Rattle.std.proofs.lemmas.List.{append-nil}
use Rattle.hv_base.specs.declared.refusal.Refusal.{Refusal}
use Rattle.hv_expr.specs.declared.tree.TypedExpr.{TypedExpr}
use Rattle.hv_logic.specs.declared.catalog.Column.{Column}
use Rattle.hv_typing.specs.Nodes.{as_kind}
use Rattle.hv_typing.specs.Inserts.{converted_row, first_type}
use Rattle.hv_typing.specs.Selects.{behind}
use Rattle.hv_typing.proofs.Equations.{behind-in_front, behind-nothing}

pub behind-behind : {A : Type 0} (done more : List A) (rest : Result (List A) Refusal) → behind done (behind more rest) ≡ behind (done ++ more) rest
behind-behind done more (Ok rest) = ap Ok (sym (append_assoc done more rest))
behind-behind done more (Err refusal) = refl

-- ---- a row that is converted value by value

abbrev IsMade : List Column → List Column → List TypedExpr → List TypedExpr → Type 0
IsMade columns rest made yielded = (more : List TypedExpr) → made ++ converted_row rest more ≡ converted_row columns (yielded ++ more)

pub row-step : (columns rest : List Column) (made yielded : List TypedExpr) (x : TypedExpr) → IsMade columns rest made yielded
    → IsMade columns (drop 1 rest) (made ++ as_kind (first_type rest) x ∷ []) (yielded ++ x ∷ [])
row-step columns rest made yielded x is more =
    append_assoc made (as_kind (first_type rest) x ∷ []) (converted_row (drop 1 rest) more)
    ∙ is (x ∷ more)
    ∙ ap (converted_row columns) (sym (append_assoc yielded (x ∷ []) more))

pub row-end : (columns rest : List Column) (made row : List TypedExpr) → IsMade columns rest made row → made ≡ converted_row columns row
row-end columns rest made row is = sym (append-nil made) ∙ is [] ∙ ap (converted_row columns) (append-nil row)

pub ruleset orders = (behind-in_front, behind-behind, behind-nothing)
