-- Whether two typed expressions are one and the same: name for name resolved, operator for operator, conversion for
-- conversion. So GROUP BY and ORDER BY find an expression again, however it is written.
-- Source: Hive Language Manual, GROUP BY and Sort By; that typed trees are compared is this project's profile.
use Rattle.std.specs.Prelude.{ℕ, Bool, true, false, not, ◌&&◌, List, [], ◌∷◌, Option, None, Some, nat_eq}
use Rattle.std.specs.Ordering.{eq_by_cmp}
use Rattle.hv_logic.specs.hv_value.specs.declared.sql_type.SqlType.{SqlType}
use Rattle.hv_logic.specs.hv_value.specs.declared.value.Value.{Value}
use Rattle.hv_logic.specs.hv_value.specs.Order.{value_cmp}
use Rattle.hv_expr.specs.declared.function.Aggregate.{Aggregate}
use Rattle.hv_expr.specs.declared.function.Many.{Many}
use Rattle.hv_expr.specs.declared.function.One.{One}
use Rattle.hv_expr.specs.declared.function.Three.{Three}
use Rattle.hv_expr.specs.declared.function.Two.{Two}
use Rattle.hv_expr.specs.declared.tree.Branch.{Branch}
use Rattle.hv_expr.specs.declared.tree.Link.{Link}
use Rattle.hv_expr.specs.declared.tree.TypedExpr.{TypedExpr}
use Rattle.hv_expr.specs.declared.tree.TypedExpr.TheOpen.{TypedExpr-F}
use Rattle.hv_expr.specs.declared.tree.TypedExpr.TheFolds.{fold-TypedExpr}
use Rattle.hv_expr.specs.declared.tree.TypedExpr.TheViews.{out-TypedExpr}
use Rattle.hv_typing.specs.Kinds.{same_type}
use Rattle.hv_typing.specs.Numbers.{same_one, same_two, same_three, same_many, same_arithmetic, same_aggregate}

abbrev pub same_bool : Bool → Bool → Bool
same_bool true b = b
same_bool false b = not b

abbrev pub same_value : Value → Value → Bool
same_value = eq_by_cmp value_cmp

-- two lists of one length, item by item
unfoldable pub all_same : {A B : Type 0} → (A → B → Bool) → List A → List B → Bool
all_same part [] [] = true
all_same part (x ∷ xs) (y ∷ ys) = part x y && all_same part xs ys
all_same part _ _ = false

unfoldable pub some_same : {A B : Type 0} → (A → B → Bool) → Option A → Option B → Bool
some_same part None None = true
some_same part (Some x) (Some y) = part x y
some_same part _ _ = false

-- ---- such a node, with operands that meet these tests

abbrev pub Test : Type 0 → Type 0
Test A = A → Bool

abbrev pub is_column : ℕ → SqlType → TypedExpr-F TypedExpr → Bool
is_column place kind (TypedExpr-F.Column other type) = nat_eq place other && same_type kind type
is_column place kind _ = false

abbrev pub is_literal : Value → SqlType → TypedExpr-F TypedExpr → Bool
is_literal literal kind (TypedExpr-F.Literal other type) = same_value literal other && same_type kind type
is_literal literal kind _ = false

abbrev pub is_one : One → SqlType → Test TypedExpr → TypedExpr-F TypedExpr → Bool
is_one function kind x (TypedExpr-F.One other type u) = same_one function other && (same_type kind type && x u)
is_one function kind x _ = false

abbrev pub is_two : Two → SqlType → Test TypedExpr → Test TypedExpr → TypedExpr-F TypedExpr → Bool
is_two function kind x y (TypedExpr-F.Two other type u v) = same_two function other && (same_type kind type && (x u && y v))
is_two function kind x y _ = false

abbrev pub is_three : Three → SqlType → Test TypedExpr → Test TypedExpr → Test TypedExpr → TypedExpr-F TypedExpr → Bool
is_three function kind x y z (TypedExpr-F.Three other type u v w) =
    same_three function other && (same_type kind type && (x u && (y v && z w)))
is_three function kind x y z _ = false

abbrev pub is_many : Many → SqlType → Test (List TypedExpr) → TypedExpr-F TypedExpr → Bool
is_many function kind xs (TypedExpr-F.Many other type us) = same_many function other && (same_type kind type && xs us)
is_many function kind xs _ = false

abbrev pub is_in : Test TypedExpr → Bool → Test (List TypedExpr) → TypedExpr-F TypedExpr → Bool
is_in x negated among (TypedExpr-F.In u other us) = same_bool negated other && (x u && among us)
is_in x negated among _ = false

abbrev pub is_chain : SqlType → Test TypedExpr → Test (List (Link TypedExpr)) → TypedExpr-F TypedExpr → Bool
is_chain kind first links (TypedExpr-F.Chain type u others) = same_type kind type && (first u && links others)
is_chain kind first links _ = false

abbrev pub is_case
    : SqlType → Test (Option TypedExpr) → Test (List (Branch TypedExpr)) → Test (Option TypedExpr) → TypedExpr-F TypedExpr → Bool
is_case kind operand branches otherwise (TypedExpr-F.Case type u others v) =
    same_type kind type && (operand u && (branches others && otherwise v))
is_case kind operand branches otherwise _ = false

abbrev pub is_count : TypedExpr-F TypedExpr → Bool
is_count TypedExpr-F.CountRows = true
is_count _ = false

abbrev pub is_aggregate : Aggregate → Bool → SqlType → Test TypedExpr → TypedExpr-F TypedExpr → Bool
is_aggregate function distinct kind x (TypedExpr-F.Aggregate other once type u) =
    same_aggregate function other && (same_bool distinct once && (same_type kind type && x u))
is_aggregate function distinct kind x _ = false

-- ---- the same node, where operands are the same by `part`

module _ {A : Type 0} (part : A → Test TypedExpr) where
  abbrev pub link_same : Link A → Test (Link TypedExpr)
  link_same left right = same_arithmetic left.operator right.operator && part left.operand right.operand

  abbrev pub branch_same : Branch A → Test (Branch TypedExpr)
  branch_same left right = part left.condition right.condition && part left.value right.value

  abbrev pub links_same : List (Link A) → Test (List (Link TypedExpr))
  links_same = all_same link_same

  abbrev pub branches_same : List (Branch A) → Test (List (Branch TypedExpr))
  branches_same = all_same branch_same

  abbrev pub layer_same : TypedExpr-F A → TypedExpr-F TypedExpr → Bool
  layer_same (TypedExpr-F.Column place kind) = is_column place kind
  layer_same (TypedExpr-F.Literal literal kind) = is_literal literal kind
  layer_same (TypedExpr-F.One function kind x) = is_one function kind (part x)
  layer_same (TypedExpr-F.Two function kind x y) = is_two function kind (part x) (part y)
  layer_same (TypedExpr-F.Three function kind x y z) = is_three function kind (part x) (part y) (part z)
  layer_same (TypedExpr-F.Many function kind xs) = is_many function kind (all_same part xs)
  layer_same (TypedExpr-F.In x negated among) = is_in (part x) negated (all_same part among)
  layer_same (TypedExpr-F.Chain kind first links) = is_chain kind (part first) (links_same links)
  layer_same (TypedExpr-F.Case kind operand branches otherwise) =
      is_case kind (some_same part operand) (branches_same branches) (some_same part otherwise)
  layer_same TypedExpr-F.CountRows = is_count
  layer_same (TypedExpr-F.Aggregate function distinct kind x) = is_aggregate function distinct kind (part x)

unfoldable pub same_tree : TypedExpr → TypedExpr → Bool
same_tree = fold-TypedExpr (Test TypedExpr) (λ layer other. layer_same (λ part. part) layer (out-TypedExpr other))
