-- An expression is never refused as Syntax.
use Rattle.std.proofs.Common.{◌≡◌, ℕ, ◌+◌, Bool, true, false, cond, List, [], ◌∷◌, map, Option, Some, None, Result, Ok, Err, sym, ap, ◌∙◌, subst, ◌&&◌, length}
use Rattle.std.specs.Prelude.{ℤ, nat_le}
use Rattle.std.specs.List.{list_all}
use Rattle.hv_base.specs.declared.refusal.Refusal.{Refusal}
use Rattle.hv_base.specs.declared.refusal.Refusal.TheVariants as refusal
use Rattle.hv_ast.specs.declared.expr.Literal.{Literal}
use Rattle.hv_ast.specs.declared.expr.Literal.TheVariants as literal
use Rattle.hv_ast.specs.declared.expr.Operation.{Operation}
use Rattle.hv_ast.specs.declared.expr.When.{When}
use Rattle.hv_ast.specs.declared.expr.Expr.{Expr}
use Rattle.hv_ast.specs.declared.expr.Expr.TheOpen.{Expr-F}
use Rattle.hv_ast.specs.declared.expr.Expr.TheViews.{roll-Expr}
use Rattle.hv_ast.specs.declared.expr.Expr.TheFolds.{map-Expr, ind-Expr}
use Rattle.hv_ast.specs.declared.expr.Expr.TheVariants.{rolls-Or, rolls-And, rolls-Unary, rolls-Binary, rolls-Chain, rolls-Between, rolls-In, rolls-Literal, rolls-Column, rolls-Case, rolls-Cast, rolls-CountRows, rolls-Call}
use Rattle.hv_value.specs.declared.sql_type.Elem.{Elem}
use Rattle.hv_value.specs.declared.sql_type.SqlType.{SqlType}
use Rattle.hv_value.specs.Conversion.{is_convertible}
use Rattle.hv_value.specs.Dates.{day_of_text}
use Rattle.hv_typing.specs.hv_expr.specs.declared.function.Aggregate.{Aggregate}
use Rattle.hv_typing.specs.hv_expr.specs.declared.function.Many.{Many}
use Rattle.hv_typing.specs.hv_expr.specs.declared.function.Many.TheVariants as many
use Rattle.hv_typing.specs.hv_expr.specs.declared.function.One.{One}
use Rattle.hv_typing.specs.hv_expr.specs.declared.function.Three.{Three}
use Rattle.hv_typing.specs.hv_expr.specs.declared.function.Three.TheVariants as three
use Rattle.hv_typing.specs.hv_expr.specs.declared.function.Two.{Two}
use Rattle.hv_typing.specs.hv_expr.specs.declared.tree.Branch.{Branch}
use Rattle.hv_typing.specs.hv_expr.specs.declared.tree.Link.{Link}
use Rattle.hv_typing.specs.hv_expr.specs.declared.tree.TypedExpr.{TypedExpr}
use Rattle.hv_typing.specs.hv_expr.specs.declared.tree.TypedExpr.TheVariants as tree
use Rattle.hv_typing.specs.declared.kinds.Meeting.{Meeting}
use Rattle.hv_typing.specs.declared.kinds.Meeting.TheVariants as meeting
use Rattle.hv_typing.specs.declared.names.Function.{Function}
use Rattle.hv_typing.specs.declared.names.Function.TheVariants as function
use Rattle.hv_typing.specs.declared.places.Pair.{Pair}
use Rattle.hv_typing.specs.declared.places.Pair.TheVariants as pair
use Rattle.hv_typing.specs.declared.places.Place.{Place}
use Rattle.hv_typing.specs.declared.places.Place.TheVariants as place
use Rattle.hv_typing.specs.declared.scope.Field.{Field}
use Rattle.hv_typing.specs.declared.scope.Over.{Over}
use Rattle.hv_typing.specs.declared.scope.Over.TheVariants as over
use Rattle.hv_typing.specs.Faults.{and_then, in_front, each_in_order}
use Rattle.hv_typing.specs.Kinds.{kind_of, met, element_type}
use Rattle.hv_typing.specs.Scopes.{column_typed, is_meant, is_any_meant}
use Rattle.hv_typing.specs.Nodes.{aggregate_of, aggregate_place, aggregate_typed, aggregated, all_stand, array_of, array_of_elements, between_of, binary_of, branch_stands, case_kind, case_of, case_typed, cast_typed, chain_of, chain_typed, coalesce_of, date_typed, if_of, in_of, in_typed, link_stands, link_taken, literal_typed, many_typed, one_kind, one_place, one_typed, pair_typed, part_typed, placed, stands, taken_at, three_kind, three_typed, two_as, two_pair, two_typed, unary_of}
use Rattle.hv_typing.specs.Calls.{function_named, arguments_over, only, pair as pair_in, triple, counted, fewest, call_typed}
use Rattle.hv_typing.specs.Typing.{between_three, link_typed, when_typed, all_typed, links_typed, whens_typed, optional_typed, called, typed}
use Rattle.hv_typing.proofs.Equations.{typed-Or, typed-And, typed-Unary, typed-Binary, typed-Chain, typed-Between, typed-In, typed-Literal, typed-Column, typed-Case, typed-Cast, typed-CountRows, typed-Call}

-- ---- a fault that isn't Syntax

abbrev pub IsOther : Refusal → Type 0
IsOther refusal.Syntax = ⊥
IsOther _ = Unit {0}

abbrev pub Free : {A : Type 0} → Result A Refusal → Type 0
Free (Ok a) = Unit {0}
Free (Err why) = IsOther why

pub free-then : {A B : Type 0} (r : Result A Refusal) (next : A → Result B Refusal) → Free r → ((a : A) → Free (next a)) → Free (and_then r next)
free-then (Ok a) next h more = more a
free-then (Err why) next h more = h

pub free-if : {A : Type 0} (b : Bool) (r s : Result A Refusal) → Free r → Free s → Free (cond b r s)
free-if true r s h k = h
free-if false r s h k = k

pub free-front : {A : Type 0} (a : A) (r : Result (List A) Refusal) → Free r → Free (in_front a r)
free-front a (Ok rest) h = tt
free-front a (Err why) h = h

pub free-each : {A B : Type 0} (part : A → Result B Refusal) (xs : List A) → ((a : A) → Free (part a)) → Free (each_in_order part xs)
free-each part [] h = tt
free-each part (a ∷ rest) h = free-then (part a) _ (h a) (λ b. free-front b (each_in_order part rest) (free-each part rest h))

-- ---- each kind of node

pub free-placed : (place : Place) (x : TypedExpr) → Free (placed place x)
free-placed place x = free-if (stands place x) _ _ tt tt

free-cast : (to : SqlType) (x : TypedExpr) → Free (cast_typed to x)
unfolding cast_typed
free-cast to x = free-if (is_convertible (kind_of x) to) _ _ tt tt

free-date : (day : Option ℤ) → Free (date_typed day)
free-date None = tt
free-date (Some day) = tt

free-literal : (l : Literal) → Free (literal_typed l)
free-literal literal.Null = tt
free-literal (literal.Bool truth) = tt
free-literal (literal.Int number) = tt
free-literal (literal.Big number) = tt
free-literal (literal.Str text) = tt
free-literal (literal.Date text) = free-date (day_of_text text)

free-one : (function : One) (x : TypedExpr) → Free (one_typed function x)
unfolding one_typed
free-one function x = free-then (placed (one_place function) x) _ (free-placed (one_place function) x) (λ x. tt)

free-as : (function : Two) (meeting : Meeting) (x y : TypedExpr) (kind : Option SqlType) → Free (two_as function meeting x y kind)
free-as function meeting x y None = tt
free-as function meeting x y (Some kind) = tt

free-pair : (function : Two) (p : Pair) (x y : TypedExpr) → Free (pair_typed function p x y)
free-pair function pair.Compared x y = free-as function meeting.Compared x y (met meeting.Compared (kind_of x) (kind_of y))
free-pair function pair.Unified x y = free-as function meeting.Unified x y (met meeting.Unified (kind_of x) (kind_of y))
free-pair function (pair.Placed first second gives) x y =
    free-then (placed first x) _ (free-placed first x) (λ x. free-then (placed second y) _ (free-placed second y) (λ y. tt))

free-two : (function : Two) (x y : TypedExpr) → Free (two_typed function x y)
unfolding two_typed
free-two function x y = free-pair function (two_pair function) x y

free-between : (function : Three) (x low high : TypedExpr) (kind : Option SqlType) → Free (between_of function x low high kind)
free-between function x low high None = tt
free-between function x low high (Some kind) = tt

free-choice : (condition x y : TypedExpr) (kind : Option SqlType) → Free (if_of condition x y kind)
free-choice condition x y None = tt
free-choice condition x y (Some kind) = tt

free-part : (function : Three) (text from count : TypedExpr) → Free (part_typed function text from count)
free-part function text from count =
    free-then (placed place.Text text) _ (free-placed place.Text text) (λ text.
    free-then (placed place.Integer from) _ (free-placed place.Integer from) (λ from.
    free-then (placed place.Integer count) _ (free-placed place.Integer count) (λ count. tt)))

free-three : (function : Three) (x y z : TypedExpr) → Free (three_typed function x y z)
unfolding three_typed
free-three three.If x y z =
    free-then (placed place.Truth x) _ (free-placed place.Truth x) (λ condition. free-choice condition y z (met meeting.Unified (kind_of y) (kind_of z)))
free-three three.Between x y z = free-between three.Between x y z (three_kind (kind_of x) (kind_of y) (kind_of z))
free-three three.NotBetween x y z = free-between three.NotBetween x y z (three_kind (kind_of x) (kind_of y) (kind_of z))
free-three three.Substr x y z = free-part three.Substr x y z
free-three three.Substring x y z = free-part three.Substring x y z

free-coalesce : (xs : List TypedExpr) (kind : Option SqlType) → Free (coalesce_of xs kind)
free-coalesce xs None = tt
free-coalesce xs (Some kind) = tt

free-elements : (xs : List TypedExpr) (kind : SqlType) (elem : Option Elem) → Free (array_of_elements xs kind elem)
free-elements xs kind None = tt
free-elements xs kind (Some elem) = tt

free-array : (xs : List TypedExpr) (kind : Option SqlType) → Free (array_of xs kind)
free-array xs None = tt
free-array xs (Some kind) = free-elements xs kind (element_type kind)

free-many : (function : Many) (xs : List TypedExpr) → Free (many_typed function xs)
unfolding many_typed
free-many many.And xs = free-if (all_stand place.Truth xs) _ _ tt tt
free-many many.Or xs = free-if (all_stand place.Truth xs) _ _ tt tt
free-many many.Concat xs = free-if (all_stand place.Text xs) _ _ tt tt
free-many many.Coalesce xs = free-coalesce xs (one_kind meeting.Unified _ xs)
free-many many.Array xs = free-array xs (one_kind meeting.Unified _ xs)

free-chain : (first : TypedExpr) (links : List (Link TypedExpr)) → Free (chain_typed first links)
unfolding chain_typed
free-chain first links =
    free-if (stands place.Integer first && list_all link_stands links) (Ok (chain_of (taken_at place.Integer first) (map link_taken links)))
    (Err refusal.BadType) tt tt

free-among : (x : TypedExpr) (negated : Bool) (among : List TypedExpr) (kind : Option SqlType) → Free (in_of x negated among kind)
free-among x negated among None = tt
free-among x negated among (Some kind) = tt

free-in : (x : TypedExpr) (negated : Bool) (among : List TypedExpr) → Free (in_typed x negated among)
unfolding in_typed
free-in x negated among = free-among x negated among _

free-cases : (operand : Option TypedExpr) (branches : List (Branch TypedExpr)) (otherwise : Option TypedExpr) (kind : Option SqlType)
    → Free (case_of operand branches otherwise kind)
free-cases operand branches otherwise None = tt
free-cases operand branches otherwise (Some kind) = tt

free-case : (operand : Option TypedExpr) (branches : List (Branch TypedExpr)) (otherwise : Option TypedExpr) → Free (case_typed operand branches otherwise)
unfolding case_typed
free-case operand branches otherwise =
    free-if (list_all (branch_stands operand) branches) (case_of operand branches otherwise (case_kind branches otherwise)) (Err refusal.BadType)
    (free-cases operand branches otherwise (case_kind branches otherwise)) tt

free-aggregated : (o : Over) (x : TypedExpr) → Free (aggregated o x)
free-aggregated over.Row x = tt
free-aggregated over.Group x = tt

free-aggregate : (function : Aggregate) (distinct : Bool) (o : Over) (x : TypedExpr) → Free (aggregate_typed function distinct o x)
unfolding aggregate_typed
free-aggregate function distinct o x =
    free-then (placed (aggregate_place function) x) _ (free-placed (aggregate_place function) x) (λ x. free-aggregated o (aggregate_of function distinct x))

-- ---- calls

free-counted : {A : Type 0} (typed : A → Result TypedExpr Refusal) (arguments : Option A) → ((a : A) → Free (typed a)) → Free (counted typed arguments)
free-counted typed None h = tt
free-counted typed (Some arguments) h = h arguments

free-call : (f : Option Function) (distinct : Bool) (o : Over) (xs : List TypedExpr) → Free (call_typed f distinct o xs)
unfolding call_typed
free-call None distinct o xs = tt
free-call (Some (function.One one)) distinct o xs = free-counted (one_typed one) (only xs) (free-one one)
free-call (Some (function.Two two)) distinct o xs = free-counted _ (pair_in xs) (λ a. free-two two a.0 a.1)
free-call (Some (function.Three three)) distinct o xs = free-counted _ (triple xs) (λ a. free-three three a.0 a.1.0 a.1.1)
free-call (Some (function.Part two three)) distinct o xs =
    free-if _ _ _ (free-counted _ (pair_in xs) (λ a. free-two two a.0 a.1)) (free-counted _ (triple xs) (λ a. free-three three a.0 a.1.0 a.1.1))
free-call (Some (function.Many many)) distinct o xs =
    free-if (nat_le (fewest many) (length xs)) (many_typed many xs) (Err refusal.BadCount) (free-many many xs) tt
free-call (Some (function.Aggregate aggregate)) distinct o xs = free-counted _ (only xs) (free-aggregate aggregate distinct o)

free-column : (place : ℕ) (source : Option (List ℕ)) (name : List ℕ) (scope : List Field) → Free (column_typed place source name scope)
free-column place source name [] = tt
free-column place source name (field ∷ fields) =
    free-if (is_meant source name field) _ _ (free-if (is_any_meant source name fields) _ _ tt tt) (free-column (place + 1) source name fields)

-- ---- an expression, by its parts

module _ (scope : List Field) where
  abbrev IsFree : Expr → Type 0
  IsFree e = (o : Over) → Free (typed scope e o)

  abbrev Known : Type 0
  Known = (e : Expr) × IsFree e

  abbrev plain : Known → Expr
  plain known = known.0

  abbrev plain_operation : Operation Known → Operation Expr
  plain_operation operation = record { operator = operation.operator; operand = operation.operand.0 }

  abbrev plain_when : When Known → When Expr
  plain_when when = record { condition = when.condition.0; value = when.value.0 }

  abbrev forget : Expr-F Known → Expr-F Expr
  forget y = map-Expr Known Expr (λ known. known.0) y

  free-all : (xs : List Known) (o : Over) → Free (all_typed (typed scope) (map plain xs) o)
  unfolding all_typed
  free-all [] o = tt
  free-all (x ∷ xs) o = free-then (typed scope x.0 o) _ (x.1 o) (λ first. free-front first _ (free-all xs o))

  free-links : (operations : List (Operation Known)) (o : Over) → Free (links_typed (typed scope) (map plain_operation operations) o)
  unfolding links_typed
  free-links [] o = tt
  free-links (operation ∷ operations) o =
      free-then (link_typed (typed scope) o (plain_operation operation)) _
      (free-then (typed scope operation.operand.0 o) _ (operation.operand.1 o) (λ x. tt))
      (λ first. free-front first _ (free-links operations o))

  free-whens : (whens : List (When Known)) (o : Over) → Free (whens_typed (typed scope) (map plain_when whens) o)
  unfolding whens_typed
  free-whens [] o = tt
  free-whens (when ∷ whens) o =
      free-then (when_typed (typed scope) o (plain_when when)) _
      (free-then (typed scope when.condition.0 o) _ (when.condition.1 o) (λ condition.
      free-then (typed scope when.value.0 o) _ (when.value.1 o) (λ x. tt)))
      (λ first. free-front first _ (free-whens whens o))

  abbrev plain_option : Option Known → Option Expr
  plain_option None = None
  plain_option (Some known) = Some known.0

  free-optional : (x : Option Known) (o : Over) → Free (optional_typed (typed scope) (plain_option x) o)
  unfolding optional_typed
  free-optional None o = tt
  free-optional (Some x) o = free-then (typed scope x.0 o) _ (x.1 o) (λ x. tt)

  free-cased : (operand : Option Known) (whens : List (When Known)) (otherwise : Option Known) (o : Over)
      → Free (and_then (optional_typed (typed scope) (plain_option operand) o) (λ operand.
      and_then (whens_typed (typed scope) (map plain_when whens) o) (λ branches.
      and_then (optional_typed (typed scope) (plain_option otherwise) o) (λ otherwise. case_typed operand branches otherwise))))
  free-cased operand whens otherwise o =
      free-then (optional_typed (typed scope) (plain_option operand) o) _ (free-optional operand o) (λ operand.
      free-then (whens_typed (typed scope) (map plain_when whens) o) _ (free-whens whens o) (λ branches.
      free-then (optional_typed (typed scope) (plain_option otherwise) o) _ (free-optional otherwise o) (λ otherwise. free-case operand branches otherwise)))

  by : (e : Expr) (layer : Expr-F Expr) (r : Result TypedExpr Refusal) (o : Over) → roll-Expr layer ≡ e → typed scope e o ≡ r → Free r
      → Free (typed scope (roll-Expr layer) o)
  by e layer r o rolls is h = subst Free (sym (ap (λ e. typed scope e o) rolls ∙ is)) h

  called-free : (name : List ℕ) (distinct : Bool) (arguments : List Known) (o : Over) → Free (called (typed scope) name distinct (map plain arguments) o)
  unfolding called
  called-free name distinct arguments o =
      free-then (all_typed (typed scope) (map plain arguments) (arguments_over (function_named name) o)) _
      (free-all arguments (arguments_over (function_named name) o)) (free-call (function_named name) distinct o)

  layers : (y : Expr-F Known) (o : Over) → Free (typed scope (roll-Expr (forget y)) o)
  layers (Expr-F.Or xs) o =
      by _ _ _ o (rolls-Or (map plain xs)) (typed-Or scope (map plain xs) o)
      (free-then (all_typed (typed scope) (map plain xs) o) _ (free-all xs o) (free-many many.Or))
  layers (Expr-F.And xs) o =
      by _ _ _ o (rolls-And (map plain xs)) (typed-And scope (map plain xs) o)
      (free-then (all_typed (typed scope) (map plain xs) o) _ (free-all xs o) (free-many many.And))
  layers (Expr-F.Unary unary x) o =
      by _ _ _ o (rolls-Unary unary x.0) (typed-Unary scope unary x.0 o)
      (free-then (typed scope x.0 o) _ (x.1 o) (free-one (unary_of unary)))
  layers (Expr-F.Binary binary x y) o =
      by _ _ _ o (rolls-Binary binary x.0 y.0) (typed-Binary scope binary x.0 y.0 o)
      (free-then (typed scope x.0 o) _ (x.1 o) (λ first. free-then (typed scope y.0 o) _ (y.1 o) (λ second. free-two (binary_of binary) first second)))
  layers (Expr-F.Chain first operations) o =
      by _ _ _ o (rolls-Chain first.0 (map plain_operation operations)) (typed-Chain scope first.0 (map plain_operation operations) o)
      (free-then (typed scope first.0 o) _ (first.1 o) (λ first.
      free-then (links_typed (typed scope) (map plain_operation operations) o) _ (free-links operations o) (λ links. free-chain first links)))
  layers (Expr-F.Between x negated low high) o =
      by _ _ _ o (rolls-Between x.0 negated low.0 high.0) (typed-Between scope x.0 negated low.0 high.0 o)
      (free-then (typed scope x.0 o) _ (x.1 o) (λ x.
      free-then (typed scope low.0 o) _ (low.1 o) (λ low.
      free-then (typed scope high.0 o) _ (high.1 o) (λ high. free-three (between_three negated) x low high))))
  layers (Expr-F.In x negated among) o =
      by _ _ _ o (rolls-In x.0 negated (map plain among)) (typed-In scope x.0 negated (map plain among) o)
      (free-then (typed scope x.0 o) _ (x.1 o) (λ x.
      free-then (all_typed (typed scope) (map plain among) o) _ (free-all among o) (λ among. free-in x negated among)))
  layers (Expr-F.Literal literal) o = by _ _ _ o (rolls-Literal literal) (typed-Literal scope literal o) (free-literal literal)
  layers (Expr-F.Column source name) o = by _ _ _ o (rolls-Column source name) (typed-Column scope source name o) (free-column 0 source name scope)
  layers (Expr-F.Case None whens None) o =
      by _ _ _ o (rolls-Case None (map plain_when whens) None) (typed-Case scope None (map plain_when whens) None o) (free-cased None whens None o)
  layers (Expr-F.Case None whens (Some x)) o =
      by _ _ _ o (rolls-Case None (map plain_when whens) (Some x.0)) (typed-Case scope None (map plain_when whens) (Some x.0) o) (free-cased None whens (Some x) o)
  layers (Expr-F.Case (Some operand) whens None) o =
      by _ _ _ o (rolls-Case (Some operand.0) (map plain_when whens) None) (typed-Case scope (Some operand.0) (map plain_when whens) None o) (free-cased (Some operand) whens None o)
  layers (Expr-F.Case (Some operand) whens (Some x)) o =
      by _ _ _ o (rolls-Case (Some operand.0) (map plain_when whens) (Some x.0)) (typed-Case scope (Some operand.0) (map plain_when whens) (Some x.0) o) (free-cased (Some operand) whens (Some x) o)
  layers (Expr-F.Cast x name) o =
      by _ _ _ o (rolls-Cast x.0 name) (typed-Cast scope x.0 name o) (free-then (typed scope x.0 o) _ (x.1 o) (free-cast _))
  layers Expr-F.CountRows o = by _ _ _ o rolls-CountRows (typed-CountRows scope o) (free-aggregated o tree.CountRows)
  layers (Expr-F.Call name distinct arguments) o =
      by _ _ _ o (rolls-Call name distinct (map plain arguments)) (typed-Call scope name distinct (map plain arguments) o) (called-free name distinct arguments o)

  pub typed-free : (e : Expr) → IsFree e
  typed-free = ind-Expr IsFree (λ x y is o. subst (λ (layer : Expr-F Expr). Free (typed scope (roll-Expr layer) o)) is (layers y o))
