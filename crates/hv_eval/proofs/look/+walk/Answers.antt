use Rattle.std.proofs.Common.{◌≡◌, ℕ, ◌+◌, [], ◌∷◌, ◌++◌, length, take, map, if◌then◌else◌, sym, ap, ◌∙◌, option_map, arith}
use Rattle.std.proofs.Math.Seq.{take-length}
use Rattle.std.proofs.lemmas.List.{take_more, map-append}
use Rattle.hv_expr.specs.Evaluation.{value_in}
use Rattle.hv_expr.specs.Groups.{once_each, over_values, aggregate_value}
use Rattle.hv_eval.specs.Accumulating.{merged, single}
use Rattle.hv_eval.proofs.Accumulators.{one_more}
use Rattle.hv_eval.specs.Frames.{value_at, group_of, frame_values, frames_values}
use Rattle.hv_seen.specs.Seen.{seen_value}
use Rattle.hv_eval.specs.Walks.{chosen_value, optional_value, settled_value}
use Rattle.hv_expr.specs.Values.{truth_of, truth_value}
use Rattle.hv_expr.specs.Functions.{two_value}
use Rattle.hv_seen.specs.Truths.{told}
use Rattle.hv_eval.proofs.TruthNodes.{truth-two}
use Rattle.hv_eval.proofs.Nodes.{value_at-case}
use Rattle.hv_eval.proofs.look.+walk.Goals as goal

pub node_at-returns-in_ok-otherwise-in-Case : goal.node_at-returns-in_ok-otherwise-in-Case
node_at-returns-in_ok-otherwise-in-Case t c =
    let at = c.args.at.now in
    let operand : option_map seen_value c.in_ok-operand-in-Case.operand ≡ optional_value c.in-Case.operand at = c.in_ok-operand-in-Case.ensures in
    let found : option_map seen_value c.in_ok-found-in-Case.found
    ≡ chosen_value c.as_slice-in-Case.result.now at (option_map seen_value c.in_ok-operand-in-Case.operand) = c.in_ok-found-in-Case.ensures in
    let otherwise : option_map seen_value c.in_ok-otherwise-in-Case.otherwise ≡ optional_value c.in-Case.otherwise at = c.in_ok-otherwise-in-Case.ensures in
    let slice : c.as_slice-in-Case.result.now ≡ c.in-Case.branches = c.as_slice-in-Case.ensures in
    let settled : seen_value c.settled.result
    ≡ settled_value (option_map seen_value c.in_ok-found-in-Case.found) (option_map seen_value c.in_ok-otherwise-in-Case.otherwise) = c.settled.ensures in
    settled
    ∙ (λ i. settled_value (found i) (otherwise i))
    ∙ (λ i. settled_value (chosen_value (slice i) at (operand i)) (optional_value c.in-Case.otherwise at))
    ∙ sym (value_at-case c.in-Case.kind c.in-Case.operand c.in-Case.branches c.in-Case.otherwise at)
    ∙ sym (ap (value_at at) c.in-Case.is)

pub over_group-loop-row-preserved : goal.over_group-loop-row-preserved
over_group-loop-row-preserved t c =
    let function = c.args.function in
    let group = c.args.at.now.group.now in
    let i = c.loop-row.row-index in
    let row = c.row-item.result in
    let value_of_row = value_in c.args.argument.now (group_of c.args.at.now) in
    let before = frames_values (take i group) in
    let more : take (i + 1) group ≡ take i group ++ row ∷ [] = take_more group i row c.loop-row-test.true ∙ ap (λ r. take i group ++ r ∷ []) (sym c.row-item.is) in
    let all : map value_of_row (frames_values (take (i + 1) group)) ≡ map value_of_row before ++ value_of_row (frame_values row) ∷ [] =
    ap (λ frames. map value_of_row (frames_values frames)) more
    ∙ ap (map value_of_row) (map-append frame_values (take i group) (row ∷ []))
    ∙ map-append value_of_row before (frame_values row ∷ []) in
    let value : seen_value c.in_ok-value.value ≡ value_of_row (frame_values row) =
    c.in_ok-value.ensures ∙ (λ j. value_in c.args.argument.now (c.on.ensures.group j) (c.on.ensures.row j)) in
    c.step-kept.ensures
    ∙ (λ j. merged function (c.loop-row.invariant j) (single function (value j)))
    ∙ one_more function (map value_of_row before) (value_of_row (frame_values row))
    ∙ ap (over_values function) (sym all)

pub over_group-returns : goal.over_group-returns
unfolding group_of aggregate_value
over_group-returns t c =
    let function = c.args.function in
    let group = c.args.at.now.group.now in
    let value_of_row = value_in c.args.argument.now (group_of c.args.at.now) in
    let values = map value_of_row (frames_values group) in
    let end : c.loop-row.row-index ≡ length group = omega (arith, c.loop-row-test.false, c.loop-row.auto.row-index-end) in
    let whole : take c.loop-row.row-index group ≡ group = ap (λ (n : ℕ). take n group) end ∙ take-length group in
    c.loop-row.invariant
    ∙ ap (λ frames. over_values function (map value_of_row (frames_values frames))) whole
    ∙ ap (λ b. over_values function (if b then once_each values else values)) (sym c.if-distinct.false)

pub truth_at-returns-in-Some : goal.truth_at-returns-in-Some
truth_at-returns-in-Some t c =
    let at = c.args.at.now in
    let function = c.in-Two.function in
    let kind = c.in-Two.kind in
    let left : seen_value c.in_ok-left-in-Two.left ≡ value_at at c.in-Two.left = c.in_ok-left-in-Two.ensures ∙ ap (value_at at) c.get.ensures in
    let right : seen_value c.in_ok-right-in-Two.right ≡ value_at at c.in-Two.right = c.in_ok-right-in-Two.ensures ∙ ap (value_at at) c.get-in-Two.ensures in
    let found : truth_value (told c.in-Some.truth)
    ≡ two_value function kind (seen_value c.in_ok-left-in-Two.left) (seen_value c.in_ok-right-in-Two.right) = c.in-Some.ensures kind in
    truth-two function kind c.in-Two.left c.in-Two.right at (told c.in-Some.truth) (found ∙ (λ i. two_value function kind (left i) (right i)))
    ∙ sym (ap (λ e. truth_of (value_at at e)) c.in-Two.is)
