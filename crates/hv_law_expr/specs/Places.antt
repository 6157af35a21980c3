-- The places of its row that an expression looks at. An aggregate looks at the rows of its group
-- instead.
use Rattle.std.specs.Prelude.{◌≡◌, ℕ, Bool, true, false, ◌&&◌, ◌||◌, ◌==◌, List, [], ◌∷◌, Option, None, Some, slice_get}
use Rattle.std.specs.List.{list_all}
use Rattle.hv_value.specs.declared.value.Value.{Value}
use Rattle.hv_expr.specs.declared.tree.Link.{Link}
use Rattle.hv_expr.specs.declared.tree.TypedExpr.{TypedExpr}
use Rattle.hv_expr.specs.declared.tree.TypedExpr.TheOpen.{TypedExpr-F}
use Rattle.hv_expr.specs.declared.tree.TypedExpr.TheFolds.{fold-TypedExpr}

abbrev pub some_of : {A : Type 0} → (A → Bool) → List A → Bool
some_of test [] = false
some_of test (x ∷ xs) = test x || some_of test xs

abbrev pub if_there : {A : Type 0} → (A → Bool) → Option A → Bool
if_there test None = false
if_there test (Some x) = test x

-- an expression looks at the place, where its parts do or don't
abbrev pub layer_looks : {A : Type 0} → ℕ → (A → Bool) → TypedExpr-F A → Bool
layer_looks k part (TypedExpr-F.Column place kind) = place == k
layer_looks k part (TypedExpr-F.Literal literal kind) = false
layer_looks k part (TypedExpr-F.One function kind x) = part x
layer_looks k part (TypedExpr-F.Two function kind x y) = part x || part y
layer_looks k part (TypedExpr-F.Three function kind x y z) = part x || (part y || part z)
layer_looks k part (TypedExpr-F.Many function kind arguments) = some_of part arguments
layer_looks k part (TypedExpr-F.In x negated among) = part x || some_of part among
layer_looks k part (TypedExpr-F.Chain kind first links) = part first || some_of (λ link. part link.operand) links
layer_looks k part (TypedExpr-F.Case kind operand branches otherwise) =
    if_there part operand
    || (some_of (λ branch. part branch.condition || part branch.value) branches || if_there part otherwise)
layer_looks k part TypedExpr-F.CountRows = false
layer_looks k part (TypedExpr-F.Aggregate function distinct kind argument) = false

unfoldable pub looks_at : ℕ → TypedExpr → Bool
looks_at k expr = fold-TypedExpr Bool (layer_looks k (λ part. part)) expr

-- ---- expressions of columns, literals and functions that look at such places alone; of others that isn't said

module _ {A : Type 0} (part : A → Bool) where
  unfoldable pub only_all : List A → Bool
  only_all xs = list_all part xs

  abbrev pub only_link : Link A → Bool
  only_link link = part link.operand

  unfoldable pub only_links : List (Link A) → Bool
  only_links links = list_all only_link links

  abbrev pub layer_only : (ℕ → Bool) → TypedExpr-F A → Bool
  layer_only such (TypedExpr-F.Column place kind) = such place
  layer_only such (TypedExpr-F.Literal literal kind) = true
  layer_only such (TypedExpr-F.One function kind x) = part x
  layer_only such (TypedExpr-F.Two function kind x y) = part x && part y
  layer_only such (TypedExpr-F.Three function kind x y z) = part x && (part y && part z)
  layer_only such (TypedExpr-F.Many function kind arguments) = only_all arguments
  layer_only such (TypedExpr-F.In x negated among) = part x && only_all among
  layer_only such (TypedExpr-F.Chain kind first links) = part first && only_links links
  layer_only such (TypedExpr-F.Case kind operand branches otherwise) = false
  layer_only such TypedExpr-F.CountRows = false
  layer_only such (TypedExpr-F.Aggregate function distinct kind argument) = false

unfoldable pub looks_only : (ℕ → Bool) → TypedExpr → Bool
looks_only such = fold-TypedExpr Bool (layer_only (λ part. part) such)

-- two rows are the same at such places
abbrev pub AgreeAt : (ℕ → Bool) → List Value → List Value → Type 0
AgreeAt such one other = (k : ℕ) → such k ≡ true → slice_get one k ≡ slice_get other k
