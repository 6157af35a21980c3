-- An expression over a group, lifted: it is then one on a row that has the sums of the group in front.
use Rattle.std.specs.Prelude.{◌≡◌, ℕ, List, ◌++◌, length, map, Option, option_map}
use Rattle.hv_value.specs.declared.value.Value.{Value}
use Rattle.hv_expr.specs.declared.function.Arithmetic.{Arithmetic}
use Rattle.hv_expr.specs.declared.tree.Branch.{Branch}
use Rattle.hv_expr.specs.declared.tree.Link.{Link}
use Rattle.hv_expr.specs.declared.tree.TypedExpr.{TypedExpr}
use Rattle.hv_expr.specs.Evaluation.{value_in, value_of, values_of}
use Rattle.hv_typing.specs.Rows.{Frame}
use Rattle.hv_partial.specs.declared.sum.Sum.{Sum}
use Rattle.hv_partial.specs.declared.select.Lifted.{Lifted}
use Rattle.hv_partial.specs.Sums.{sums_over}

-- what is lifted says behind the sums what the whole says over the group; there will be so many sums in all, and these are the first
abbrev pub Agree : {X : Type 0} → List Sum → ℕ → (Frame → X) → (List Frame → Frame → X) → Type 0
Agree sums count lifted whole =
    (more : List Sum) (group : List Frame) (row : Frame) → length (sums ++ more) ≡ count → lifted (sums_over (sums ++ more) group ++ row) ≡ whole group row

pub record Lifts {X : Type 0} (before after : List Sum) (count : ℕ) (lifted : Frame → X) (whole : List Frame → Frame → X) : Type 0 where
  pub more : List Sum
  pub grows : after ≡ before ++ more
  pub agrees : Agree after count lifted whole

abbrev pub LiftsTo : List Sum → List Sum → ℕ → TypedExpr → TypedExpr → Type 0
LiftsTo before after count expr made = Lifts before after count (value_of made) (value_in expr)

-- what expressions come to over a group, on a row
abbrev pub values_in : List TypedExpr → List Frame → Frame → List Value
values_in exprs group row = map (λ expr. value_in expr group row) exprs

abbrev pub AllLift : List Sum → List Sum → ℕ → List TypedExpr → List TypedExpr → Type 0
AllLift before after count exprs made = Lifts before after count (values_of made) (values_in exprs)

-- an expression that may be left out
abbrev pub maybe_of : Option TypedExpr → Frame → Option Value
maybe_of expr row = option_map (λ expr. value_of expr row) expr

abbrev pub maybe_in : Option TypedExpr → List Frame → Frame → Option Value
maybe_in expr group row = option_map (λ expr. value_in expr group row) expr

abbrev pub MaybeLifts : List Sum → List Sum → ℕ → Option TypedExpr → Option TypedExpr → Type 0
MaybeLifts before after count expr made = Lifts before after count (maybe_of made) (maybe_in expr)

-- the links of a chain
abbrev pub link_values : (TypedExpr → Value) → List (Link TypedExpr) → List (Arithmetic × Value)
link_values value links = map (λ (link : Link TypedExpr). (link.operator, value link.operand)) links

abbrev pub links_of : List (Link TypedExpr) → Frame → List (Arithmetic × Value)
links_of links row = link_values (λ expr. value_of expr row) links

abbrev pub links_in : List (Link TypedExpr) → List Frame → Frame → List (Arithmetic × Value)
links_in links group row = link_values (λ expr. value_in expr group row) links

abbrev pub LinksLift : List Sum → List Sum → ℕ → List (Link TypedExpr) → List (Link TypedExpr) → Type 0
LinksLift before after count links made = Lifts before after count (links_of made) (links_in links)

-- the branches of a CASE
abbrev pub branch_values : (TypedExpr → Value) → List (Branch TypedExpr) → List (Value × Value)
branch_values value branches = map (λ (branch : Branch TypedExpr). (value branch.condition, value branch.value)) branches

abbrev pub branches_of : List (Branch TypedExpr) → Frame → List (Value × Value)
branches_of branches row = branch_values (λ expr. value_of expr row) branches

abbrev pub branches_in : List (Branch TypedExpr) → List Frame → Frame → List (Value × Value)
branches_in branches group row = branch_values (λ expr. value_in expr group row) branches

abbrev pub BranchesLift : List Sum → List Sum → ℕ → List (Branch TypedExpr) → List (Branch TypedExpr) → Type 0
BranchesLift before after count branches made = Lifts before after count (branches_of made) (branches_in branches)

-- items and HAVING behind the sums of a group are items and HAVING over the group
pub record IsLifted (items : List TypedExpr) (having : Option TypedExpr) (lifted : Lifted) : Type 0 where
  pub values : (group : List Frame) (row : Frame) → values_of lifted.items (sums_over lifted.sums group ++ row) ≡ values_in items group row
  pub condition : (group : List Frame) (row : Frame) → maybe_of lifted.having (sums_over lifted.sums group ++ row) ≡ maybe_in having group row
