use Rattle.std.proofs.Common.{rules, arith, ◌≡◌, ◌++◌, ℕ, length, take, map, subst, sym, ap, ◌∙◌, option_map}
use Rattle.std.proofs.Math.Seq.{take-length}
use Rattle.hv_expr.specs.Evaluation.{value_in}
use Rattle.std.specs.Str.{IsUtf8}
use Rattle.std.proofs.lemmas.Grind.{common_steps}
use Rattle.std.proofs.lemmas.Str.{IsUtf8-append}
use Rattle.hv_eval.specs.Frames.{value_at, group_of, frames_values}
use Rattle.hv_eval.specs.Held.{held_value}
use Rattle.hv_eval.specs.Walks.{chosen_value, optional_value, settled_value}
use Rattle.hv_eval.proofs.Nodes.{value_at-case}
use Rattle.hv_eval.proofs.JoinedTexts.{joined-more}
use Rattle.hv_eval.proofs.walk.+memory.Goals as goal

pub text_of_all-loop-expr-preserved : goal.text_of_all-loop-expr-preserved
text_of_all-loop-expr-preserved t c =
    let longer : c.extend_from_slice.new.self.items ≡ c.loop-expr.bytes.items ++ c.in-Some.text.now = search rules in (
      grind (arith, common_steps, joined-more),
      subst IsUtf8 (sym longer) (IsUtf8-append c.loop-expr.bytes.items c.in-Some.text.now c.loop-expr.invariant.1 c.bytes.ensures.utf8),
    )

pub node_held-returns-in_ok-otherwise-in-Case : goal.node_held-returns-in_ok-otherwise-in-Case
node_held-returns-in_ok-otherwise-in-Case t c =
    let at = c.args.at.now in
    let operand : option_map held_value c.in_ok-operand-in-Case.operand ≡ optional_value c.in-Case.operand at = c.in_ok-operand-in-Case.ensures in
    let found : option_map held_value c.in_ok-found-in-Case.found
    ≡ chosen_value c.as_slice-in-Case.result.now at (option_map held_value c.in_ok-operand-in-Case.operand) = c.in_ok-found-in-Case.ensures in
    let otherwise : option_map held_value c.in_ok-otherwise-in-Case.otherwise ≡ optional_value c.in-Case.otherwise at = c.in_ok-otherwise-in-Case.ensures in
    let slice : c.as_slice-in-Case.result.now ≡ c.in-Case.branches = c.as_slice-in-Case.ensures in
    let settled : held_value c.settled.result
    ≡ settled_value (option_map held_value c.in_ok-found-in-Case.found) (option_map held_value c.in_ok-otherwise-in-Case.otherwise) = c.settled.ensures in
    settled
    ∙ (λ i. settled_value (found i) (otherwise i))
    ∙ (λ i. settled_value (chosen_value (slice i) at (operand i)) (optional_value c.in-Case.otherwise at))
    ∙ sym (value_at-case c.in-Case.kind c.in-Case.operand c.in-Case.branches c.in-Case.otherwise at)
    ∙ sym (ap (value_at at) c.in-Case.is)

pub values_over-returns : goal.values_over-returns
unfolding group_of
values_over-returns t c =
    let group = c.args.at.now.group.now in
    let end : c.loop-row.row-index ≡ length group = omega (arith, c.loop-row-test.false, c.loop-row.auto.row-index-end) in
    let whole : take c.loop-row.row-index group ≡ group = ap (λ (n : ℕ). take n group) end ∙ take-length group in
    c.loop-row.invariant ∙ ap (λ frames. map (value_in c.args.argument.now (group_of c.args.at.now)) (frames_values frames)) whole
