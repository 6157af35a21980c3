-- The equations of `typed`, and its parts in order.
use Rattle.std.proofs.Common.{◌≡◌, ℕ, Bool, List, [], ◌∷◌, ◌++◌, map, Option, Some, None, option_map, Result, Ok, Err, refl, sym, ap, ◌∙◌, subst, append_assoc}
use Rattle.hv_base.specs.declared.refusal.Refusal.{Refusal}
use Rattle.hv_logic.specs.hv_ast.specs.declared.expr.Arithmetic.{Arithmetic}
use Rattle.hv_logic.specs.hv_ast.specs.declared.expr.Binary.{Binary}
use Rattle.hv_logic.specs.hv_ast.specs.declared.expr.Unary.{Unary}
use Rattle.hv_logic.specs.hv_ast.specs.declared.expr.Literal.{Literal}
use Rattle.hv_logic.specs.hv_ast.specs.declared.expr.Operation.{Operation}
use Rattle.hv_logic.specs.hv_ast.specs.declared.expr.When.{When}
use Rattle.hv_logic.specs.hv_ast.specs.declared.expr.Expr.{Expr}
use Rattle.hv_logic.specs.hv_ast.specs.declared.expr.Expr.TheOpen.{Expr-F}
use Rattle.hv_logic.specs.hv_ast.specs.declared.expr.Expr.TheViews.{out-Expr, roll-Expr, out-roll-Expr}
use Rattle.hv_logic.specs.hv_ast.specs.declared.expr.Expr.TheFolds.{fold_out-Expr, map-Expr}
use Rattle.hv_logic.specs.hv_ast.specs.declared.expr.Expr.TheShapes
use Rattle.hv_logic.specs.hv_ast.specs.declared.expr.Expr.TheVariants as expr
use Rattle.hv_logic.specs.hv_ast.specs.declared.expr.Expr.TheVariants.{rolls-Or, rolls-And, rolls-Unary, rolls-Binary, rolls-Chain, rolls-Between, rolls-In, rolls-Literal, rolls-Column, rolls-Case, rolls-Cast, rolls-CountRows, rolls-Call}
use Rattle.hv_logic.specs.hv_ast.specs.declared.types.TypeName.{TypeName}
use Rattle.hv_logic.specs.Shapes.{type_of}
use Rattle.hv_expr.specs.declared.function.Many.TheVariants as many
use Rattle.hv_expr.specs.declared.tree.Branch.{Branch}
use Rattle.hv_expr.specs.declared.tree.Link.{Link}
use Rattle.hv_expr.specs.declared.tree.TypedExpr.{TypedExpr}
use Rattle.hv_expr.specs.declared.tree.TypedExpr.TheVariants as tree
use Rattle.hv_typing.specs.declared.scope.Field.{Field}
use Rattle.hv_typing.specs.declared.scope.Over.{Over}
use Rattle.hv_typing.specs.declared.fault.TypeFault.{TypeFault}
use Rattle.hv_typing.specs.declared.fault.TypeFault.TheVariants as fault
use Rattle.hv_typing.specs.Faults.{and_then, in_front, Types, Refuses}
use Rattle.hv_typing.specs.Scopes.{column_typed}
use Rattle.hv_typing.specs.Nodes.{cast_typed, literal_typed, one_typed, unary_of, two_typed, binary_of, three_typed, many_typed, chain_typed, in_typed, case_typed, aggregated}
use Rattle.hv_typing.specs.Calls.{function_named, arguments_over, call_typed}
use Rattle.hv_typing.specs.Typing.{between_three, link_typed, when_typed, all_typed, links_typed, whens_typed, optional_typed, cased, called, layer_typed, typed}

abbrev Answer : Type 0
Answer = Over → Result TypedExpr Refusal

abbrev at_part : Answer → Over → Result TypedExpr Refusal
at_part part over = part over

all-mapped : (scope : List Field) (xs : List Expr) (over : Over) → all_typed at_part (map (typed scope) xs) over ≡ all_typed (typed scope) xs over
unfolding all_typed
all-mapped scope [] over = refl
all-mapped scope (x ∷ xs) over = ap (λ rest. and_then (typed scope x over) (λ first. in_front first rest)) (all-mapped scope xs over)

links-mapped : (scope : List Field) (operations : List (Operation Expr)) (over : Over)
    → links_typed at_part (map ((TheShapes.former-Expr-Chain-1-at-2).map Expr Answer (typed scope)) operations) over ≡ links_typed (typed scope) operations over
unfolding links_typed
links-mapped scope [] over = refl
links-mapped scope (operation ∷ operations) over =
    ap (λ rest. and_then (link_typed (typed scope) over operation) (λ first. in_front first rest)) (links-mapped scope operations over)

whens-mapped : (scope : List Field) (whens : List (When Expr)) (over : Over)
    → whens_typed at_part (map ((TheShapes.former-Expr-Case-1-at-2).map Expr Answer (typed scope)) whens) over ≡ whens_typed (typed scope) whens over
unfolding whens_typed
whens-mapped scope [] over = refl
whens-mapped scope (when ∷ whens) over =
    ap (λ rest. and_then (when_typed (typed scope) over when) (λ first. in_front first rest)) (whens-mapped scope whens over)

called-mapped : (scope : List Field) (name : List ℕ) (distinct : Bool) (xs : List Expr) (over : Over)
    → called at_part name distinct (map (typed scope) xs) over ≡ called (typed scope) name distinct xs over
unfolding called
called-mapped scope name distinct xs over =
    ap (λ all. and_then all (call_typed (function_named name) distinct over)) (all-mapped scope xs (arguments_over (function_named name) over))

optional-mapped : (scope : List Field) (x : Option Expr) (over : Over)
    → optional_typed at_part (option_map (typed scope) x) over ≡ optional_typed (typed scope) x over
unfolding optional_typed
optional-mapped scope None over = refl
optional-mapped scope (Some x) over = refl

cased-mapped : (scope : List Field) (operand : Option Expr) (whens : List (When Expr)) (otherwise : Option Expr) (over : Over)
    → cased at_part (option_map (typed scope) operand) (map ((TheShapes.former-Expr-Case-1-at-2).map Expr Answer (typed scope)) whens) (option_map (typed scope) otherwise) over
    ≡ cased (typed scope) operand whens otherwise over
unfolding cased
cased-mapped scope operand whens otherwise over = λ i.
    and_then (optional-mapped scope operand over i) (λ operand.
    and_then (whens-mapped scope whens over i) (λ branches.
    and_then (optional-mapped scope otherwise over i) (λ otherwise. case_typed operand branches otherwise)))

mapped : (scope : List Field) (x : Expr-F Expr) (over : Over)
    → layer_typed at_part scope (map-Expr Expr Answer (typed scope) x) over ≡ layer_typed (typed scope) scope x over
mapped scope (Expr-F.Or xs) over = ap (λ all. and_then all (many_typed many.Or)) (all-mapped scope xs over)
mapped scope (Expr-F.And xs) over = ap (λ all. and_then all (many_typed many.And)) (all-mapped scope xs over)
mapped scope (Expr-F.Unary unary x) over = refl
mapped scope (Expr-F.Binary binary x y) over = refl
mapped scope (Expr-F.Chain first operations) over =
    ap (λ all. and_then (typed scope first over) (λ first. and_then all (λ links. chain_typed first links))) (links-mapped scope operations over)
mapped scope (Expr-F.Between x negated low high) over = refl
mapped scope (Expr-F.In x negated among) over =
    ap (λ all. and_then (typed scope x over) (λ x. and_then all (λ among. in_typed x negated among))) (all-mapped scope among over)
mapped scope (Expr-F.Literal literal) over = refl
mapped scope (Expr-F.Column source name) over = refl
mapped scope (Expr-F.Case None whens None) over = cased-mapped scope None whens None over
mapped scope (Expr-F.Case None whens (Some x)) over = cased-mapped scope None whens (Some x) over
mapped scope (Expr-F.Case (Some operand) whens None) over = cased-mapped scope (Some operand) whens None over
mapped scope (Expr-F.Case (Some operand) whens (Some x)) over = cased-mapped scope (Some operand) whens (Some x) over
mapped scope (Expr-F.Cast x name) over = refl
mapped scope Expr-F.CountRows over = refl
mapped scope (Expr-F.Call name distinct arguments) over = called-mapped scope name distinct arguments over

typed-out : (scope : List Field) (expr : Expr) (over : Over) → typed scope expr over ≡ layer_typed (typed scope) scope (out-Expr expr) over
unfolding typed
typed-out scope expr over =
    ap (λ (answer : Answer). answer over) (fold_out-Expr Answer (layer_typed (λ part over. part over) scope) expr)
    ∙ mapped scope (out-Expr expr) over

at : (scope : List Field) {expr : Expr} {layer : Expr-F Expr} → expr ≡ roll-Expr layer → out-Expr (roll-Expr layer) ≡ layer
    → (over : Over) → typed scope expr over ≡ layer_typed (typed scope) scope layer over
at scope {expr = expr} is opens over = typed-out scope expr over ∙ ap (λ layer. layer_typed (typed scope) scope layer over) (ap out-Expr is ∙ opens)

pub typed-Or : (scope : List Field) (xs : List Expr) (over : Over) → typed scope (expr.Or xs) over ≡ and_then (all_typed (typed scope) xs over) (many_typed many.Or)
typed-Or scope xs over = at scope (sym (rolls-Or xs)) (out-roll-Expr (Expr-F.Or xs)) over

pub typed-And : (scope : List Field) (xs : List Expr) (over : Over) → typed scope (expr.And xs) over ≡ and_then (all_typed (typed scope) xs over) (many_typed many.And)
typed-And scope xs over = at scope (sym (rolls-And xs)) (out-roll-Expr (Expr-F.And xs)) over

pub typed-Unary : (scope : List Field) (unary : Unary) (x : Expr) (over : Over) → typed scope (expr.Unary unary x) over ≡ and_then (typed scope x over) (one_typed (unary_of unary))
typed-Unary scope unary x over = at scope (sym (rolls-Unary unary x)) (out-roll-Expr (Expr-F.Unary unary x)) over

pub typed-Binary : (scope : List Field) (binary : Binary) (x y : Expr) (over : Over)
    → typed scope (expr.Binary binary x y) over ≡ and_then (typed scope x over) (λ x. and_then (typed scope y over) (λ y. two_typed (binary_of binary) x y))
typed-Binary scope binary x y over = at scope (sym (rolls-Binary binary x y)) (out-roll-Expr (Expr-F.Binary binary x y)) over

pub typed-Chain : (scope : List Field) (first : Expr) (operations : List (Operation Expr)) (over : Over)
    → typed scope (expr.Chain first operations) over
    ≡ and_then (typed scope first over) (λ first. and_then (links_typed (typed scope) operations over) (λ links. chain_typed first links))
typed-Chain scope first operations over = at scope (sym (rolls-Chain first operations)) (out-roll-Expr (Expr-F.Chain first operations)) over

pub typed-Between : (scope : List Field) (x : Expr) (negated : Bool) (low high : Expr) (over : Over)
    → typed scope (expr.Between x negated low high) over
    ≡ and_then (typed scope x over) (λ x.
    and_then (typed scope low over) (λ low. and_then (typed scope high over) (λ high. three_typed (between_three negated) x low high)))
typed-Between scope x negated low high over = at scope (sym (rolls-Between x negated low high)) (out-roll-Expr (Expr-F.Between x negated low high)) over

pub typed-In : (scope : List Field) (x : Expr) (negated : Bool) (among : List Expr) (over : Over)
    → typed scope (expr.In x negated among) over
    ≡ and_then (typed scope x over) (λ x. and_then (all_typed (typed scope) among over) (λ among. in_typed x negated among))
typed-In scope x negated among over = at scope (sym (rolls-In x negated among)) (out-roll-Expr (Expr-F.In x negated among)) over

pub typed-Literal : (scope : List Field) (literal : Literal) (over : Over) → typed scope (expr.Literal literal) over ≡ literal_typed literal
typed-Literal scope literal over = at scope (sym (rolls-Literal literal)) (out-roll-Expr (Expr-F.Literal literal)) over

pub typed-Column : (scope : List Field) (source : Option (List ℕ)) (name : List ℕ) (over : Over) → typed scope (expr.Column source name) over ≡ column_typed 0 source name scope
typed-Column scope source name over = at scope (sym (rolls-Column source name)) (out-roll-Expr (Expr-F.Column source name)) over

pub typed-Case : (scope : List Field) (operand : Option Expr) (whens : List (When Expr)) (otherwise : Option Expr) (over : Over)
    → typed scope (expr.Case operand whens otherwise) over
    ≡ and_then (optional_typed (typed scope) operand over) (λ operand.
    and_then (whens_typed (typed scope) whens over) (λ branches.
    and_then (optional_typed (typed scope) otherwise over) (λ otherwise. case_typed operand branches otherwise)))
unfolding cased
typed-Case scope operand whens otherwise over = at scope (sym (rolls-Case operand whens otherwise)) (out-roll-Expr (Expr-F.Case operand whens otherwise)) over

pub typed-Cast : (scope : List Field) (x : Expr) (name : TypeName) (over : Over) → typed scope (expr.Cast x name) over ≡ and_then (typed scope x over) (cast_typed (type_of name))
typed-Cast scope x name over = at scope (sym (rolls-Cast x name)) (out-roll-Expr (Expr-F.Cast x name)) over

pub typed-CountRows : (scope : List Field) (over : Over) → typed scope expr.CountRows over ≡ aggregated over tree.CountRows
typed-CountRows scope over = at scope (sym rolls-CountRows) (out-roll-Expr Expr-F.CountRows) over

pub typed-Call : (scope : List Field) (name : List ℕ) (distinct : Bool) (arguments : List Expr) (over : Over)
    → typed scope (expr.Call name distinct arguments) over ≡ called (typed scope) name distinct arguments over
typed-Call scope name distinct arguments over = at scope (sym (rolls-Call name distinct arguments)) (out-roll-Expr (Expr-F.Call name distinct arguments)) over

pub ruleset nodes = (typed-Or, typed-And, typed-Unary, typed-Binary, typed-Chain, typed-Between, typed-In, typed-Literal, typed-Column, typed-Case, typed-Cast, typed-CountRows, typed-Call)

-- ---- CASE, part by part

abbrev Parts : (Expr → Answer) → Option TypedExpr → List (When Expr) → Option Expr → Answer
Parts part operand whens otherwise over =
    and_then (whens_typed part whens over) (λ branches.
    and_then (optional_typed part otherwise over) (λ otherwise. case_typed operand branches otherwise))

module _ (scope : List Field) (e : Expr) (operand : Option Expr) (whens : List (When Expr)) (otherwise : Option Expr) (over : Over) (is : e ≡ expr.Case operand whens otherwise) where
  pub case-whens : {o : Option TypedExpr} → optional_typed (typed scope) operand over ≡ Ok o
      → typed scope e over ≡ Parts (typed scope) o whens otherwise over
  case-whens found =
      ap (λ e. typed scope e over) is
      ∙ typed-Case scope operand whens otherwise over
      ∙ ap (λ first. and_then first (λ operand. Parts (typed scope) operand whens otherwise over)) found

  pub case-otherwise : {o : Option TypedExpr} {branches : List (Branch TypedExpr)} → optional_typed (typed scope) operand over ≡ Ok o
      → whens_typed (typed scope) whens over ≡ Ok branches
      → typed scope e over ≡ and_then (optional_typed (typed scope) otherwise over) (λ otherwise. case_typed o branches otherwise)
  case-otherwise {o = o} found seconds =
      case-whens found
      ∙ ap (λ second. and_then second (λ branches. and_then (optional_typed (typed scope) otherwise over) (λ otherwise. case_typed o branches otherwise))) seconds

  pub case-whole : {o x : Option TypedExpr} {branches : List (Branch TypedExpr)} → optional_typed (typed scope) operand over ≡ Ok o
      → whens_typed (typed scope) whens over ≡ Ok branches → optional_typed (typed scope) otherwise over ≡ Ok x
      → typed scope e over ≡ case_typed o branches x
  case-whole {o = o} {branches = branches} found seconds last =
      case-otherwise found seconds ∙ ap (λ third. and_then third (λ otherwise. case_typed o branches otherwise)) last

-- what fails at a part fails at the whole
pub fails-on : {A B : Type 0} {result : Result B TypeFault} (f : TypeFault) (r : Result A Refusal) (k : A → Result B Refusal)
    → result ≡ Err f → Refuses f r → Types result (and_then r k)
fails-on (fault.Refused refusal) r k is refuses = subst (λ result. Types result (and_then r k)) (sym is) (ap (λ r. and_then r k) refuses)
fails-on fault.NoMemory r k is refuses = subst (λ result. Types result (and_then r k)) (sym is) tt

-- ---- what comes behind what is done

abbrev pub behind : {A : Type 0} → List A → Result (List A) Refusal → Result (List A) Refusal
behind done (Ok rest) = Ok (done ++ rest)
behind done (Err refusal) = Err refusal

pub behind-in_front : {A : Type 0} (done : List A) (a : A) (rest : Result (List A) Refusal) → behind done (in_front a rest) ≡ behind (done ++ a ∷ []) rest
behind-in_front done a (Ok rest) = ap Ok (sym (append_assoc done (a ∷ []) rest))
behind-in_front done a (Err refusal) = refl

pub behind-nothing : {A : Type 0} (rest : Result (List A) Refusal) → behind [] rest ≡ rest
behind-nothing (Ok rest) = refl
behind-nothing (Err refusal) = refl

pub ruleset parts = (behind-in_front, behind-nothing)
