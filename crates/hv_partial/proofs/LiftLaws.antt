-- Each node of an expression, lifted: behind the sums it comes to what the node comes to over the group.
use Rattle.std.proofs.Common.{if◌then◌else◌, ◌≡◌, ℕ, suc, ◌+◌, ◌<◌, Bool, false, List, [], ◌∷◌, ◌++◌, length, map, take, get_or, slice_get, Option, None, Some, pos, refl, sym, ap, subst, ◌∙◌, arith, append_assoc}
use Rattle.std.proofs.lemmas.List.{append-nil, map-append, length-map, take_more}
use Rattle.std.specs.Int.{int_wrap, w64}
use Rattle.hv_value.specs.declared.sql_type.SqlType.{SqlType}
use Rattle.hv_value.specs.declared.sql_type.SqlType.TheVariants as type
use Rattle.hv_value.specs.declared.value.Value.{Value}
use Rattle.hv_value.specs.declared.value.Value.TheVariants as value
use Rattle.hv_expr.specs.declared.function.Aggregate.{Aggregate}
use Rattle.hv_expr.specs.declared.function.Aggregate.TheVariants as aggregate
use Rattle.hv_expr.specs.declared.function.Arithmetic.{Arithmetic}
use Rattle.hv_expr.specs.declared.function.Many.{Many}
use Rattle.hv_expr.specs.declared.function.One.{One}
use Rattle.hv_expr.specs.declared.function.Three.{Three}
use Rattle.hv_expr.specs.declared.function.Two.{Two}
use Rattle.hv_expr.specs.declared.tree.Branch.{Branch}
use Rattle.hv_expr.specs.declared.tree.Link.{Link}
use Rattle.hv_expr.specs.declared.tree.TypedExpr.{TypedExpr}
use Rattle.hv_expr.specs.declared.tree.TypedExpr.TheVariants as tree
use Rattle.hv_expr.specs.Values.{taken_or_null, or_null}
use Rattle.hv_expr.specs.Functions.{arithmetic_value, one_value, two_value, three_value, many_value, in_value}
use Rattle.hv_expr.specs.Evaluation.{value_in, value_of, values_of, chained, chosen, is_met, or_else}
use Rattle.hv_expr.specs.Groups.{over_values, aggregate_value, those, known, sum_of as total_of}
use Rattle.hv_expr.proofs.Equations.{value_of-Column, value_of-Literal, value_of-One, value_of-Two, value_of-Three, value_of-Many, value_of-In, value_of-Chain, value_of-Case, value_in-Column, value_in-Literal, value_in-One, value_in-Two, value_in-Three, value_in-Many, value_in-In, value_in-Chain, value_in-Case, value_in-CountRows, value_in-Aggregate}
use Rattle.hv_typing.specs.Rows.{Frame}
use Rattle.hv_partial.specs.declared.sum.Numeric.{Numeric}
use Rattle.hv_partial.specs.declared.sum.Numeric.TheVariants as numeric
use Rattle.hv_partial.specs.declared.sum.Sum.{Sum}
use Rattle.hv_partial.specs.declared.sum.Sum.TheVariants as sum_of
use Rattle.hv_partial.specs.declared.select.Lifted.{Lifted}
use Rattle.hv_partial.specs.Sums.{aggregate_of, taken_of, sum_over, sums_over, kind_over}
use Rattle.hv_partial.specs.Lifts.{Agree, Lifts, IsLifted, LiftsTo, AllLift, values_in, maybe_of, maybe_in, MaybeLifts, link_values, links_of, links_in, LinksLift, branch_values, branches_of, branches_in, BranchesLift}
use Rattle.hv_partial.proofs.Fitting.{Fits, all_known, big_fits, columns_fit, max_fits, min_fits, sum_fits}

abbrev Whole : Type 0 → Type 0
Whole X = List Frame → Frame → X

-- ---- how lifted parts are put together

agree_more : {X : Type 0} (sums more : List Sum) (count : ℕ) (lifted : Frame → X) (whole : Whole X) → Agree sums count lifted whole → Agree (sums ++ more) count lifted whole
agree_more sums more count lifted whole agrees = λ others group row long.
    let e : (sums ++ more) ++ others ≡ sums ++ (more ++ others) = append_assoc sums more others in
    ap (λ l. lifted (sums_over l group ++ row)) e ∙ agrees (more ++ others) group row (sym (ap length e) ∙ long)

abbrev pub beside : {X Y : Type 0} → (Frame → X) → (Frame → Y) → Frame → X × Y
beside f g row = (f row, g row)

abbrev pub beside_in : {X Y : Type 0} → Whole X → Whole Y → Whole (X × Y)
beside_in f g group row = (f group row, g group row)

-- nothing was lifted
pub none_lift : {X : Type 0} (sums : List Sum) (count : ℕ) (x : X) → Lifts sums sums count (λ row. x) (λ group row. x)
none_lift sums count x = record {
  more = [];
  grows = sym (append-nil sums);
  agrees = λ others group row long. refl;
}

-- one behind the other
pub both_lift : {X Y : Type 0} (before between after : List Sum) (count : ℕ) (f : Frame → X) (whole_f : Whole X) (g : Frame → Y) (whole_g : Whole Y)
    → Lifts before between count f whole_f → Lifts between after count g whole_g → Lifts before after count (beside f g) (beside_in whole_f whole_g)
both_lift before between after count f whole_f g whole_g one two =
    let first : Agree after count f whole_f = subst (λ sums. Agree sums count f whole_f) (sym two.grows) (agree_more between two.more count f whole_f one.agrees) in
    record {
      more = one.more ++ two.more;
      grows = two.grows ∙ ap (λ l. l ++ two.more) one.grows ∙ append_assoc before one.more two.more;
      agrees = λ others group row long i. (first others group row long i, two.agrees others group row long i);
    }

-- what is made of lifted parts
pub lifted_by : {X Y : Type 0} (before after : List Sum) (count : ℕ) (f : Frame → X) (whole_f : Whole X) (g : Frame → Y) (whole_g : Whole Y) (make : X → Y)
    → ((row : Frame) → g row ≡ make (f row)) → ((group : List Frame) (row : Frame) → whole_g group row ≡ make (whole_f group row))
    → Lifts before after count f whole_f → Lifts before after count g whole_g
lifted_by before after count f whole_f g whole_g make is whole_is one = record {
  more = one.more;
  grows = one.grows;
  agrees = λ others group row long.
      is (sums_over (after ++ others) group ++ row) ∙ ap make (one.agrees others group row long) ∙ sym (whole_is group row);
}

-- a chain, and a CASE, by the values of their parts
abbrev taken_from : Value → List (Arithmetic × Value) → Value
taken_from v [] = v
taken_from v (link ∷ links) = taken_from (arithmetic_value link.0 v link.1) links

chained_by : (val : TypedExpr → Value) (v : Value) (links : List (Link TypedExpr)) → chained val v links ≡ taken_from v (link_values val links)
chained_by val v [] = refl
chained_by val v (link ∷ links) = chained_by val (arithmetic_value link.operator v (val link.operand)) links

abbrev chosen_from : Option Value → List (Value × Value) → Option Value
chosen_from operand [] = None
chosen_from operand (branch ∷ branches) = if is_met operand branch.0 then Some branch.1 else chosen_from operand branches

chosen_by : (val : TypedExpr → Value) (operand : Option Value) (branches : List (Branch TypedExpr)) → chosen val operand branches ≡ chosen_from operand (branch_values val branches)
chosen_by val operand [] = refl
chosen_by val operand (branch ∷ branches) =
    ap (λ rest. if is_met operand (val branch.condition) then Some (val branch.value) else rest) (chosen_by val operand branches)

-- ---- nodes of parts

module _ (before after : List Sum) (count : ℕ) (expr made : TypedExpr) where
  on : {node : TypedExpr} → made ≡ node → (row : Frame) → value_of made row ≡ value_of node row
  on is row = ap (λ e. value_of e row) is

  over : {node : TypedExpr} → expr ≡ node → (group : List Frame) (row : Frame) → value_in expr group row ≡ value_in node group row
  over is group row = ap (λ e. value_in e group row) is

  pub lifts-One : (function : One) (kind : SqlType) (x new_x : TypedExpr) → expr ≡ tree.One function kind x → made ≡ tree.One function kind new_x
      → LiftsTo before after count x new_x → LiftsTo before after count expr made
  lifts-One function kind x new_x was is one =
      lifted_by before after count (value_of new_x) (value_in x) (value_of made) (value_in expr) (one_value function kind)
      (λ row. on is row ∙ value_of-One function kind new_x row) (λ group row. over was group row ∙ value_in-One function kind x group row) one

  pub lifts-Two : (between : List Sum) (function : Two) (kind : SqlType) (x y new_x new_y : TypedExpr) → expr ≡ tree.Two function kind x y → made ≡ tree.Two function kind new_x new_y
      → LiftsTo before between count x new_x → LiftsTo between after count y new_y → LiftsTo before after count expr made
  lifts-Two between function kind x y new_x new_y was is one two =
      lifted_by before after count (beside (value_of new_x) (value_of new_y)) (beside_in (value_in x) (value_in y)) (value_of made) (value_in expr)
      (λ p. two_value function kind p.0 p.1)
      (λ row. on is row ∙ value_of-Two function kind new_x new_y row) (λ group row. over was group row ∙ value_in-Two function kind x y group row)
      (both_lift before between after count (value_of new_x) (value_in x) (value_of new_y) (value_in y) one two)

  pub lifts-Three : (first second : List Sum) (function : Three) (kind : SqlType) (x y z new_x new_y new_z : TypedExpr)
      → expr ≡ tree.Three function kind x y z → made ≡ tree.Three function kind new_x new_y new_z
      → LiftsTo before first count x new_x → LiftsTo first second count y new_y → LiftsTo second after count z new_z
      → LiftsTo before after count expr made
  lifts-Three first second function kind x y z new_x new_y new_z was is one two three =
      lifted_by before after count (beside (value_of new_x) (beside (value_of new_y) (value_of new_z))) (beside_in (value_in x) (beside_in (value_in y) (value_in z)))
      (value_of made) (value_in expr)
      (λ p. three_value function p.0 p.1.0 p.1.1)
      (λ row. on is row ∙ value_of-Three function kind new_x new_y new_z row) (λ group row. over was group row ∙ value_in-Three function kind x y z group row)
      (both_lift before first after count (value_of new_x) (value_in x) (beside (value_of new_y) (value_of new_z)) (beside_in (value_in y) (value_in z)) one
      (both_lift first second after count (value_of new_y) (value_in y) (value_of new_z) (value_in z) two three))

  pub lifts-Many : (function : Many) (kind : SqlType) (xs new_xs : List TypedExpr) → expr ≡ tree.Many function kind xs → made ≡ tree.Many function kind new_xs
      → AllLift before after count xs new_xs → LiftsTo before after count expr made
  lifts-Many function kind xs new_xs was is all =
      lifted_by before after count (values_of new_xs) (values_in xs) (value_of made) (value_in expr) (many_value function)
      (λ row. on is row ∙ value_of-Many function kind new_xs row) (λ group row. over was group row ∙ value_in-Many function kind xs group row) all

  pub lifts-In : (between : List Sum) (x new_x : TypedExpr) (negated : Bool) (among new_among : List TypedExpr)
      → expr ≡ tree.In x negated among → made ≡ tree.In new_x negated new_among
      → LiftsTo before between count x new_x → AllLift between after count among new_among → LiftsTo before after count expr made
  lifts-In between x new_x negated among new_among was is one all =
      lifted_by before after count (beside (value_of new_x) (values_of new_among)) (beside_in (value_in x) (values_in among)) (value_of made) (value_in expr)
      (λ p. in_value negated p.0 p.1)
      (λ row. on is row ∙ value_of-In new_x negated new_among row) (λ group row. over was group row ∙ value_in-In x negated among group row)
      (both_lift before between after count (value_of new_x) (value_in x) (values_of new_among) (values_in among) one all)

  pub lifts-Chain : (between : List Sum) (kind : SqlType) (x new_x : TypedExpr) (links new_links : List (Link TypedExpr))
      → expr ≡ tree.Chain kind x links → made ≡ tree.Chain kind new_x new_links
      → LiftsTo before between count x new_x → LinksLift between after count links new_links → LiftsTo before after count expr made
  lifts-Chain between kind x new_x links new_links was is one all =
      lifted_by before after count (beside (value_of new_x) (links_of new_links)) (beside_in (value_in x) (links_in links)) (value_of made) (value_in expr)
      (λ p. taken_from p.0 p.1)
      (λ row. on is row ∙ value_of-Chain kind new_x new_links row ∙ chained_by (λ e. value_of e row) (value_of new_x row) new_links)
      (λ group row. over was group row ∙ value_in-Chain kind x links group row ∙ chained_by (λ e. value_in e group row) (value_in x group row) links)
      (both_lift before between after count (value_of new_x) (value_in x) (links_of new_links) (links_in links) one all)

  pub lifts-Case : (first second : List Sum) (kind : SqlType) (operand new_operand : Option TypedExpr) (branches new_branches : List (Branch TypedExpr)) (otherwise new_otherwise : Option TypedExpr)
      → expr ≡ tree.Case kind operand branches otherwise → made ≡ tree.Case kind new_operand new_branches new_otherwise
      → MaybeLifts before first count operand new_operand → BranchesLift first second count branches new_branches → MaybeLifts second after count otherwise new_otherwise
      → LiftsTo before after count expr made
  lifts-Case first second kind operand new_operand branches new_branches otherwise new_otherwise was is one two three =
      lifted_by before after count (beside (maybe_of new_operand) (beside (branches_of new_branches) (maybe_of new_otherwise)))
      (beside_in (maybe_in operand) (beside_in (branches_in branches) (maybe_in otherwise)))
      (value_of made) (value_in expr)
      (λ p. or_else (chosen_from p.0 p.1.0) (or_null p.1.1))
      (λ row. on is row ∙ value_of-Case kind new_operand new_branches new_otherwise row
      ∙ ap (λ found. or_else found (or_null (maybe_of new_otherwise row))) (chosen_by (λ e. value_of e row) (maybe_of new_operand row) new_branches))
      (λ group row. over was group row ∙ value_in-Case kind operand branches otherwise group row
      ∙ ap (λ found. or_else found (or_null (maybe_in otherwise group row))) (chosen_by (λ e. value_in e group row) (maybe_in operand group row) branches))
      (both_lift before first after count (maybe_of new_operand) (maybe_in operand) (beside (branches_of new_branches) (maybe_of new_otherwise)) (beside_in (branches_in branches) (maybe_in otherwise)) one
      (both_lift first second after count (branches_of new_branches) (branches_in branches) (maybe_of new_otherwise) (maybe_in otherwise) two three))

-- ---- lists, one more behind the others

module _ (before between after : List Sum) (count : ℕ) where
  pub all_more : (xs new_xs : List TypedExpr) (x new_x : TypedExpr) → AllLift before between count xs new_xs → LiftsTo between after count x new_x
      → AllLift before after count (xs ++ x ∷ []) (new_xs ++ new_x ∷ [])
  all_more xs new_xs x new_x all one =
      lifted_by before after count (beside (values_of new_xs) (value_of new_x)) (beside_in (values_in xs) (value_in x)) (values_of (new_xs ++ new_x ∷ [])) (values_in (xs ++ x ∷ []))
      (λ p. p.0 ++ p.1 ∷ []) (λ row. map-append (λ e. value_of e row) new_xs (new_x ∷ [])) (λ group row. map-append (λ e. value_in e group row) xs (x ∷ []))
      (both_lift before between after count (values_of new_xs) (values_in xs) (value_of new_x) (value_in x) all one)

  pub links_more : (links new_links : List (Link TypedExpr)) (operator : Arithmetic) (x new_x : TypedExpr) → LinksLift before between count links new_links → LiftsTo between after count x new_x
      → LinksLift before after count (links ++ record { operator = operator; operand = x } ∷ []) (new_links ++ record { operator = operator; operand = new_x } ∷ [])
  links_more links new_links operator x new_x all one =
      lifted_by before after count (beside (links_of new_links) (value_of new_x)) (beside_in (links_in links) (value_in x))
      (links_of (new_links ++ record { operator = operator; operand = new_x } ∷ [])) (links_in (links ++ record { operator = operator; operand = x } ∷ []))
      (λ p. p.0 ++ (operator, p.1) ∷ [])
      (λ row. map-append (λ (link : Link TypedExpr). (link.operator, value_of link.operand row)) new_links (record { operator = operator; operand = new_x } ∷ []))
      (λ group row. map-append (λ (link : Link TypedExpr). (link.operator, value_in link.operand group row)) links (record { operator = operator; operand = x } ∷ []))
      (both_lift before between after count (links_of new_links) (links_in links) (value_of new_x) (value_in x) all one)

pub branches_more : (before first second after : List Sum) (count : ℕ) (branches new_branches : List (Branch TypedExpr)) (x y new_x new_y : TypedExpr)
    → BranchesLift before first count branches new_branches → LiftsTo first second count x new_x → LiftsTo second after count y new_y
    → BranchesLift before after count (branches ++ record { condition = x; value = y } ∷ []) (new_branches ++ record { condition = new_x; value = new_y } ∷ [])
branches_more before first second after count branches new_branches x y new_x new_y all one two =
    lifted_by before after count (beside (branches_of new_branches) (beside (value_of new_x) (value_of new_y))) (beside_in (branches_in branches) (beside_in (value_in x) (value_in y)))
    (branches_of (new_branches ++ record { condition = new_x; value = new_y } ∷ [])) (branches_in (branches ++ record { condition = x; value = y } ∷ []))
    (λ p. p.0 ++ p.1 ∷ [])
    (λ row. map-append (λ (branch : Branch TypedExpr). (value_of branch.condition row, value_of branch.value row)) new_branches (record { condition = new_x; value = new_y } ∷ []))
    (λ group row. map-append (λ (branch : Branch TypedExpr). (value_in branch.condition group row, value_in branch.value group row)) branches (record { condition = x; value = y } ∷ []))
    (both_lift before first after count (branches_of new_branches) (branches_in branches) (beside (value_of new_x) (value_of new_y)) (beside_in (value_in x) (value_in y)) all
    (both_lift first second after count (value_of new_x) (value_in x) (value_of new_y) (value_in y) one two))

-- one turn of a loop
step_of : {X : Type 0} (xs : List X) (i : ℕ) (x : X) → i < length xs → x ≡ get_or xs i x → take (i + 1) xs ≡ take i xs ++ x ∷ []
step_of xs i x within is = take_more xs i x within ∙ ap (λ y. take i xs ++ y ∷ []) (sym is)

pub none_all : (sums : List Sum) (count : ℕ) (made : List TypedExpr) → made ≡ [] → AllLift sums sums count [] made
none_all sums count made is = subst (λ made. AllLift sums sums count [] made) (sym is) (none_lift sums count [])

pub none_links : (sums : List Sum) (count : ℕ) (made : List (Link TypedExpr)) → made ≡ [] → LinksLift sums sums count [] made
none_links sums count made is = subst (λ made. LinksLift sums sums count [] made) (sym is) (none_lift sums count [])

pub none_branches : (sums : List Sum) (count : ℕ) (made : List (Branch TypedExpr)) → made ≡ [] → BranchesLift sums sums count [] made
none_branches sums count made is = subst (λ made. BranchesLift sums sums count [] made) (sym is) (none_lift sums count [])

module _ (before between after : List Sum) (count i : ℕ) where
  pub all_turn : (exprs made made2 : List TypedExpr) (x new_x : TypedExpr) → i < length exprs → x ≡ get_or exprs i x → made2 ≡ made ++ new_x ∷ []
      → AllLift before between count (take i exprs) made → LiftsTo between after count x new_x → AllLift before after count (take (i + 1) exprs) made2
  all_turn exprs made made2 x new_x within is pushed all one =
      subst (λ xs. AllLift before after count xs made2) (sym (step_of exprs i x within is))
      (subst (λ xs. AllLift before after count (take i exprs ++ x ∷ []) xs) (sym pushed) (all_more before between after count (take i exprs) made x new_x all one))

  pub links_turn : (links made made2 : List (Link TypedExpr)) (link : Link TypedExpr) (new_x : TypedExpr) → i < length links → link ≡ get_or links i link
      → made2 ≡ made ++ record { operator = link.operator; operand = new_x } ∷ []
      → LinksLift before between count (take i links) made → LiftsTo between after count link.operand new_x → LinksLift before after count (take (i + 1) links) made2
  links_turn links made made2 link new_x within is pushed all one =
      subst (λ xs. LinksLift before after count xs made2) (sym (step_of links i link within is))
      (subst (λ xs. LinksLift before after count (take i links ++ link ∷ []) xs) (sym pushed) (links_more before between after count (take i links) made link.operator link.operand new_x all one))

  pub branches_turn : (middle : List Sum) (branches made made2 : List (Branch TypedExpr)) (branch : Branch TypedExpr) (new_x new_y : TypedExpr)
      → i < length branches → branch ≡ get_or branches i branch → made2 ≡ made ++ record { condition = new_x; value = new_y } ∷ []
      → BranchesLift before between count (take i branches) made → LiftsTo between middle count branch.condition new_x → LiftsTo middle after count branch.value new_y
      → BranchesLift before after count (take (i + 1) branches) made2
  branches_turn middle branches made made2 branch new_x new_y within is pushed all one two =
      subst (λ xs. BranchesLift before after count xs made2) (sym (step_of branches i branch within is))
      (subst (λ xs. BranchesLift before after count (take i branches ++ branch ∷ []) xs) (sym pushed)
      (branches_more before between middle after count (take i branches) made branch.condition branch.value new_x new_y all one two))

pub maybe_some : (before after : List Sum) (count : ℕ) (x new_x : TypedExpr) → LiftsTo before after count x new_x → MaybeLifts before after count (Some x) (Some new_x)
maybe_some before after count x new_x one =
    lifted_by before after count (value_of new_x) (value_in x) (maybe_of (Some new_x)) (maybe_in (Some x)) Some (λ row. refl) (λ group row. refl) one

pub maybe_none : (sums : List Sum) (count : ℕ) → MaybeLifts sums sums count None None
maybe_none sums count = none_lift sums count None

-- ---- both parts of a select, lifted behind as many sums as they make

ends : {X : Type 0} (sums : List Sum) (count : ℕ) (f : Frame → X) (whole : Whole X) → Agree sums count f whole → count ≡ length sums
    → (group : List Frame) (row : Frame) → f (sums_over sums group ++ row) ≡ whole group row
ends sums count f whole agrees many group row =
    ap (λ l. f (sums_over l group ++ row)) (sym (append-nil sums)) ∙ agrees [] group row (ap length (append-nil sums) ∙ sym many)

pub select_lifts : (between : List Sum) (count : ℕ) (items : List TypedExpr) (having : Option TypedExpr) (lifted : Lifted)
    → AllLift [] between count items lifted.items → MaybeLifts between lifted.sums count having lifted.having → count ≡ length lifted.sums → IsLifted items having lifted
select_lifts between count items having lifted all one many =
    let first : Agree lifted.sums count (values_of lifted.items) (values_in items) =
    subst (λ sums. Agree sums count (values_of lifted.items) (values_in items)) (sym one.grows)
    (agree_more between one.more count (values_of lifted.items) (values_in items) all.agrees) in
    record {
      values = ends lifted.sums count (values_of lifted.items) (values_in items) first many;
      condition = ends lifted.sums count (maybe_of lifted.having) (maybe_in having) one.agrees many;
    }

-- ---- nodes without parts

behind : (xs ys : Frame) (k : ℕ) → slice_get (xs ++ ys) (k + length xs) ≡ slice_get ys k
behind [] ys k =
    let e : k + 0 ≡ k = omega arith in
    ap (slice_get ys) e
behind (x ∷ xs) ys k =
    let e : k + length (x ∷ xs) ≡ suc (k + length xs) = omega arith in
    ap (slice_get (x ∷ xs ++ ys)) e ∙ behind xs ys k

pub column_lifts : (count place behind_place : ℕ) (kind : SqlType) (expr made : TypedExpr) → expr ≡ tree.Column place kind → made ≡ tree.Column behind_place kind
    → behind_place ≡ place + count → (sums : List Sum) → LiftsTo sums sums count expr made
column_lifts count place behind_place kind expr made was is at_is sums = record {
  more = [];
  grows = sym (append-nil sums);
  agrees = λ others group row long.
      let values = sums_over (sums ++ others) group in
      let n : behind_place ≡ place + length values = at_is ∙ ap (λ c. place + c) (sym long ∙ sym (length-map (sums ++ others) (sum_over group))) in
      ap (λ e. value_of e (values ++ row)) is ∙ value_of-Column behind_place kind (values ++ row)
      ∙ ap (λ k. taken_or_null kind (slice_get (values ++ row) k)) n
      ∙ ap (taken_or_null kind) (behind values row place) ∙ sym (value_in-Column place kind group row) ∙ sym (ap (λ e. value_in e group row) was);
}

pub literal_lifts : (count : ℕ) (literal : Value) (kind : SqlType) (expr made : TypedExpr) → expr ≡ tree.Literal literal kind → made ≡ tree.Literal literal kind
    → (sums : List Sum) → LiftsTo sums sums count expr made
literal_lifts count literal kind expr made was is sums = record {
  more = [];
  grows = sym (append-nil sums);
  agrees = λ others group row long.
      let wide = sums_over (sums ++ others) group ++ row in
      ap (λ e. value_of e wide) is ∙ value_of-Literal literal kind wide ∙ sym (value_in-Literal literal kind group row) ∙ sym (ap (λ e. value_in e group row) was);
}

-- ---- aggregates

there : (xs : List Value) (v : Value) (ys : List Value) → slice_get (xs ++ v ∷ ys) (length xs) ≡ Some v
there [] v ys = refl
there (x ∷ xs) v ys = there xs v ys

-- the column where the last sum stands
last_column : (before : List Sum) (last : Sum) (others : List Sum) (group : List Frame) (row : Frame)
    → slice_get (sums_over ((before ++ last ∷ []) ++ others) group ++ row) (length before) ≡ Some (sum_over group last)
last_column before last others group row =
    let values = sums_over before group in
    let e : sums_over ((before ++ last ∷ []) ++ others) group ≡ values ++ sum_over group last ∷ sums_over others group =
    ap (λ sums. sums_over sums group) (append_assoc before (last ∷ []) others) ∙ map-append (sum_over group) before (last ∷ others) in
    let whole : sums_over ((before ++ last ∷ []) ++ others) group ++ row ≡ values ++ sum_over group last ∷ (sums_over others group ++ row) =
    ap (λ l. l ++ row) e ∙ append_assoc values (sum_over group last ∷ sums_over others group) row in
    let n : length before ≡ length values = sym (length-map before (sum_over group)) in
    (λ i. slice_get (whole i) (n i)) ∙ there values (sum_over group last) (sums_over others group ++ row)

pub sum_lifts : (before after : List Sum) (last : Sum) (kind : SqlType) (count : ℕ) (expr made : TypedExpr) → made ≡ tree.Column (length before) kind → after ≡ before ++ last ∷ []
    → ((group : List Frame) (row : Frame) → value_in expr group row ≡ sum_over group last) → ((group : List Frame) → Fits kind (sum_over group last))
    → LiftsTo before after count expr made
unfolding Fits
sum_lifts before after last kind count expr made is grown means fits = record {
  more = last ∷ [];
  grows = grown;
  agrees = λ others group row long.
      let wide = sums_over (after ++ others) group ++ row in
      let same : wide ≡ sums_over ((before ++ last ∷ []) ++ others) group ++ row = ap (λ sums. sums_over (sums ++ others) group ++ row) grown in
      ap (λ e. value_of e wide) is ∙ value_of-Column (length before) kind wide
      ∙ ap (λ l. taken_or_null kind (slice_get l (length before))) same
      ∙ ap (taken_or_null kind) (last_column before last others group row)
      ∙ fits group ∙ sym (means group row);
}

pub rows_mean : (expr : TypedExpr) → expr ≡ tree.CountRows → (group : List Frame) (row : Frame) → value_in expr group row ≡ sum_over group sum_of.Rows
unfolding sum_over
rows_mean expr was group row =
    ap (λ e. value_in e group row) was ∙ value_in-CountRows group row ∙ sym (ap (λ n. value.Big (int_wrap w64 (pos n))) (all_known group))

pub rows_fit : (group : List Frame) → Fits type.BigInt (sum_over group sum_of.Rows)
unfolding sum_over
rows_fit group = big_fits (int_wrap w64 (pos (length (those known (map (taken_of sum_of.Rows) group)))))

map_same : {A B : Type 0} (f g : A → B) → ((a : A) → f a ≡ g a) → (xs : List A) → map f xs ≡ map g xs
map_same f g e [] = refl
map_same f g e (x ∷ xs) = λ i. e x i ∷ map_same f g e xs i

pub column_means : (function : Aggregate) (of : SqlType) (place : ℕ) (kind : SqlType) (group : List Frame) (row : Frame)
    → value_in (tree.Aggregate function false of (tree.Column place kind)) group row ≡ sum_over group (sum_of.Column function place kind)
unfolding sum_over aggregate_value
column_means function of place kind group row =
    value_in-Aggregate function false of (tree.Column place kind) group row
    ∙ ap (over_values function) (map_same (value_in (tree.Column place kind) group) (taken_of (sum_of.Column function place kind)) (λ r. value_in-Column place kind group r) group)

pub column_sum_fits : (function : Aggregate) (place : ℕ) (kind : SqlType) (group : List Frame) → Fits (kind_over function kind) (sum_over group (sum_of.Column function place kind))
unfolding sum_over
column_sum_fits aggregate.Count place kind group = big_fits (int_wrap w64 (pos (length (those known (map (taken_of (sum_of.Column aggregate.Count place kind)) group)))))
column_sum_fits aggregate.Sum place kind group = sum_fits (total_of (map (taken_of (sum_of.Column aggregate.Sum place kind)) group))
column_sum_fits aggregate.Min place kind group = min_fits kind (map (taken_of (sum_of.Column aggregate.Min place kind)) group) (columns_fit kind (λ row. slice_get row place) group)
column_sum_fits aggregate.Max place kind group = max_fits kind (map (taken_of (sum_of.Column aggregate.Max place kind)) group) (columns_fit kind (λ row. slice_get row place) group)

-- an argument that makes no sum of its own
pub lifts_nothing : (before after : List Sum) (argument made : TypedExpr) → before ≡ [] → after ≡ [] → LiftsTo before after 0 argument made → LiftsTo [] [] 0 argument made
lifts_nothing before after argument made none still one =
    subst (λ sums. LiftsTo [] sums 0 argument made) still (subst (λ sums. LiftsTo sums after 0 argument made) none one)

pub computed_means : (counts : Numeric) (function : Aggregate) (of : SqlType) (argument made : TypedExpr) → function ≡ aggregate_of counts → LiftsTo [] [] 0 argument made
    → (group : List Frame) (row : Frame) → value_in (tree.Aggregate function false of argument) group row ≡ sum_over group (sum_of.Computed counts made)
unfolding sum_over aggregate_value
computed_means counts function of argument made which lifted group row =
    ap (λ f. value_in (tree.Aggregate f false of argument) group row) which
    ∙ value_in-Aggregate (aggregate_of counts) false of argument group row
    ∙ ap (over_values (aggregate_of counts)) (map_same (value_in argument group) (value_of made) (λ r. sym (lifted.agrees [] group r refl)) group)

pub computed_fits : (counts : Numeric) (made : TypedExpr) (group : List Frame) → Fits type.BigInt (sum_over group (sum_of.Computed counts made))
unfolding sum_over
computed_fits numeric.Count made group = big_fits (int_wrap w64 (pos (length (those known (map (value_of made) group)))))
computed_fits numeric.Total made group = sum_fits (total_of (map (value_of made) group))
