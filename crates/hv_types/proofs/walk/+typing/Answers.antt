use Rattle.std.proofs.Common.{rules, ◌≡◌, Ok, Err, refl, sym, ap, subst, ◌∙◌}
use Rattle.hv_typing.specs.Faults.{Types, Refuses}
use Rattle.hv_typing.specs.Typing.{typed, optional_typed, whens_typed}
use Rattle.hv_typing.proofs.Equations.{case-whens, case-otherwise, case-whole, fails-on}
use Rattle.hv_types.proofs.walk.+typing.Goals as goal

pub typed-returns-in_err-branches-in-Case : goal.typed-returns-in_err-branches-in-Case
typed-returns-in_err-branches-in-Case t c =
    let operand : optional_typed (typed c.args.scope.now) c.in-Case.operand c.args.over ≡ Ok c.in_ok-operand-in-Case.operand = c.in_ok-operand-in-Case.ensures in
    let slice : c.as_slice-in-Case.result.now ≡ c.in-Case.whens = c.as_slice-in-Case.ensures in
    let failed : c.from_residual-in_err-branches-in-Case.result ≡ Err c.in_err-branches-in-Case.field-0.0 = search rules in
    let refuses : Refuses c.in_err-branches-in-Case.field-0.0 (whens_typed (typed c.args.scope.now) c.as_slice-in-Case.result.now c.args.over) = c.in_err-branches-in-Case.ensures in
    subst (λ answer. Types c.from_residual-in_err-branches-in-Case.result answer) (sym (case-whens c.args.scope.now c.args.expr.now c.in-Case.operand c.in-Case.whens c.in-Case.otherwise c.args.over c.in-Case.is operand))
    (fails-on c.in_err-branches-in-Case.field-0.0 (whens_typed (typed c.args.scope.now) c.in-Case.whens c.args.over) _ failed (subst (λ whens. Refuses c.in_err-branches-in-Case.field-0.0 (whens_typed (typed c.args.scope.now) whens c.args.over)) slice refuses))

pub typed-returns-in_err-otherwise-in-Case : goal.typed-returns-in_err-otherwise-in-Case
typed-returns-in_err-otherwise-in-Case t c =
    let operand : optional_typed (typed c.args.scope.now) c.in-Case.operand c.args.over ≡ Ok c.in_ok-operand-in-Case.operand = c.in_ok-operand-in-Case.ensures in
    let slice : c.as_slice-in-Case.result.now ≡ c.in-Case.whens = c.as_slice-in-Case.ensures in
    let branches : whens_typed (typed c.args.scope.now) c.as_slice-in-Case.result.now c.args.over ≡ Ok c.in_ok-branches-in-Case.branches = c.in_ok-branches-in-Case.ensures in
    let failed : c.from_residual-in_err-otherwise-in-Case.result ≡ Err c.in_err-otherwise-in-Case.field-0.0 = search rules in
    let refuses : Refuses c.in_err-otherwise-in-Case.field-0.0 (optional_typed (typed c.args.scope.now) c.in-Case.otherwise c.args.over) = c.in_err-otherwise-in-Case.ensures in
    subst (λ answer. Types c.from_residual-in_err-otherwise-in-Case.result answer)
    (sym (case-otherwise c.args.scope.now c.args.expr.now c.in-Case.operand c.in-Case.whens c.in-Case.otherwise c.args.over c.in-Case.is operand (ap (λ whens. whens_typed (typed c.args.scope.now) whens c.args.over) (sym slice) ∙ branches)))
    (fails-on c.in_err-otherwise-in-Case.field-0.0 (optional_typed (typed c.args.scope.now) c.in-Case.otherwise c.args.over) _ failed refuses)

pub typed-returns-in_ok-otherwise-in-Case : goal.typed-returns-in_ok-otherwise-in-Case
typed-returns-in_ok-otherwise-in-Case t c =
    let operand : optional_typed (typed c.args.scope.now) c.in-Case.operand c.args.over ≡ Ok c.in_ok-operand-in-Case.operand = c.in_ok-operand-in-Case.ensures in
    let slice : c.as_slice-in-Case.result.now ≡ c.in-Case.whens = c.as_slice-in-Case.ensures in
    let branches : whens_typed (typed c.args.scope.now) c.as_slice-in-Case.result.now c.args.over ≡ Ok c.in_ok-branches-in-Case.branches = c.in_ok-branches-in-Case.ensures in
    let otherwise : optional_typed (typed c.args.scope.now) c.in-Case.otherwise c.args.over ≡ Ok c.in_ok-otherwise-in-Case.otherwise = c.in_ok-otherwise-in-Case.ensures in
    subst (λ answer. Types c.case_typed.result answer)
    (sym (case-whole c.args.scope.now c.args.expr.now c.in-Case.operand c.in-Case.whens c.in-Case.otherwise c.args.over c.in-Case.is operand (ap (λ whens. whens_typed (typed c.args.scope.now) whens c.args.over) (sym slice) ∙ branches) otherwise))
    c.case_typed.ensures
