-- Which typed expressions may stand in a select with groups: those whose columns all stand in an aggregate, or in a part
-- that is equal to a GROUP BY expression. Source: Hive Language Manual, GROUP BY.
use Rattle.std.specs.Prelude.{Bool, true, false, ◌||◌, ◌&&◌, List, Option, None, Some}
use Rattle.std.specs.List.{list_all, list_any}
use Rattle.hv_expr.specs.declared.tree.Branch.{Branch}
use Rattle.hv_expr.specs.declared.tree.Link.{Link}
use Rattle.hv_expr.specs.declared.tree.TypedExpr.{TypedExpr}
use Rattle.hv_expr.specs.declared.tree.TypedExpr.TheOpen.{TypedExpr-F}
use Rattle.hv_expr.specs.declared.tree.TypedExpr.TheFolds.{fold-TypedExpr}
use Rattle.hv_expr.specs.declared.tree.TypedExpr.TheViews.{out-TypedExpr}
use Rattle.hv_typing.specs.Same.{same_tree, all_same, some_same}

-- ---- of operands, where one stands by `part`; an aggregate's argument is free

module _ {A B : Type 0} (part : A → B → Bool) where
  abbrev pub link_stands : Link A → Link B → Bool
  link_stands link whole = part link.operand whole.operand

  abbrev pub branch_stands : Branch A → Branch B → Bool
  branch_stands branch whole = part branch.condition whole.condition && part branch.value whole.value

  -- each operand is given what stands at its place in the node itself
  abbrev pub operands_stand : TypedExpr-F A → TypedExpr-F B → Bool
  operands_stand (TypedExpr-F.Literal _ _) (TypedExpr-F.Literal _ _) = true
  operands_stand (TypedExpr-F.One _ _ x) (TypedExpr-F.One _ _ u) = part x u
  operands_stand (TypedExpr-F.Two _ _ x y) (TypedExpr-F.Two _ _ u v) = part x u && part y v
  operands_stand (TypedExpr-F.Three _ _ x y z) (TypedExpr-F.Three _ _ u v w) = part x u && (part y v && part z w)
  operands_stand (TypedExpr-F.Many _ _ xs) (TypedExpr-F.Many _ _ us) = all_same part xs us
  operands_stand (TypedExpr-F.In x _ among) (TypedExpr-F.In u _ us) = part x u && all_same part among us
  operands_stand (TypedExpr-F.Chain _ first links) (TypedExpr-F.Chain _ u others) = part first u && all_same link_stands links others
  operands_stand (TypedExpr-F.Case _ operand branches otherwise) (TypedExpr-F.Case _ u others v) =
      some_same part operand u && (all_same branch_stands branches others && some_same part otherwise v)
  operands_stand TypedExpr-F.CountRows TypedExpr-F.CountRows = true
  operands_stand (TypedExpr-F.Aggregate _ _ _ _) (TypedExpr-F.Aggregate _ _ _ _) = true
  operands_stand _ _ = false

-- ----

abbrev pub is_key : List TypedExpr → TypedExpr → Bool
is_key keys x = list_any (same_tree x) keys

-- a column by itself doesn't stand
abbrev pub layer_stands : List TypedExpr → TypedExpr-F (TypedExpr → Bool) → TypedExpr → Bool
layer_stands keys layer whole = is_key keys whole || operands_stand (λ part. part) layer (out-TypedExpr whole)

abbrev pub stands_as : List TypedExpr → TypedExpr → TypedExpr → Bool
stands_as keys = fold-TypedExpr (TypedExpr → Bool) (layer_stands keys)

unfoldable pub stands_grouped : List TypedExpr → TypedExpr → Bool
stands_grouped keys x = stands_as keys x x

-- ---- all of a list

module _ (stands : TypedExpr → Bool) where
  unfoldable pub some_stands : Option TypedExpr → Bool
  some_stands None = true
  some_stands (Some x) = stands x

  unfoldable pub all_stand : List TypedExpr → Bool
  all_stand xs = list_all stands xs

  unfoldable pub links_stand : List (Link TypedExpr) → Bool
  links_stand links = list_all (λ link. stands link.operand) links

  unfoldable pub branches_stand : List (Branch TypedExpr) → Bool
  branches_stand branches = list_all (λ branch. stands branch.condition && stands branch.value) branches

  abbrev pub parts_stand : TypedExpr-F TypedExpr → Bool
  parts_stand (TypedExpr-F.Column place kind) = false
  parts_stand (TypedExpr-F.Literal literal kind) = true
  parts_stand (TypedExpr-F.One function kind x) = stands x
  parts_stand (TypedExpr-F.Two function kind x y) = stands x && stands y
  parts_stand (TypedExpr-F.Three function kind x y z) = stands x && (stands y && stands z)
  parts_stand (TypedExpr-F.Many function kind xs) = all_stand xs
  parts_stand (TypedExpr-F.In x negated among) = stands x && all_stand among
  parts_stand (TypedExpr-F.Chain kind first links) = stands first && links_stand links
  parts_stand (TypedExpr-F.Case kind operand branches otherwise) =
      some_stands operand && (branches_stand branches && some_stands otherwise)
  parts_stand TypedExpr-F.CountRows = true
  parts_stand (TypedExpr-F.Aggregate function distinct kind x) = true
