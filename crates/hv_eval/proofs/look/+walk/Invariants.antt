use Rattle.std.proofs.Common.{◌≡◌, drop, take, map, option_map}
use Rattle.hv_expr.specs.Values.{both, either}
use Rattle.hv_expr.specs.Functions.{all_of, any_of, equals_any, first_known}
use Rattle.hv_expr.specs.Evaluation.{chained, chosen, value_in}
use Rattle.hv_expr.specs.Groups.{over_values}
use Rattle.hv_seen.specs.Truths.{told}
use Rattle.hv_eval.specs.Frames.{value_at, values_at, group_of, frames_values}
use Rattle.hv_seen.specs.Seen.{seen_value}
use Rattle.hv_eval.proofs.look.+walk.Given as goal

abbrev pub invariant-all-loop-expr : goal.invariant-all-loop-expr
invariant-all-loop-expr l =
    both (told l.seen) (all_of (values_at (drop l.expr-index l.exprs) l.at)) ≡ all_of (values_at l.exprs l.at)

abbrev pub invariant-any-loop-expr : goal.invariant-any-loop-expr
invariant-any-loop-expr l =
    either (told l.seen) (any_of (values_at (drop l.expr-index l.exprs) l.at)) ≡ any_of (values_at l.exprs l.at)

abbrev pub invariant-equals_any-loop-expr : goal.invariant-equals_any-loop-expr
invariant-equals_any-loop-expr l =
    either (told l.found) (equals_any (seen_value l.value) (values_at (drop l.expr-index l.exprs) l.at)) ≡ equals_any (seen_value l.value) (values_at l.exprs l.at)

abbrev pub invariant-first_known-loop-expr : goal.invariant-first_known-loop-expr
invariant-first_known-loop-expr l =
    first_known (values_at (drop l.expr-index l.exprs) l.at) ≡ first_known (values_at l.exprs l.at)

abbrev pub invariant-chain-loop-link : goal.invariant-chain-loop-link
invariant-chain-loop-link l =
    chained (value_at l.at) (seen_value l.value) (drop l.link-index l.links) ≡ chained (value_at l.at) (seen_value l.first) l.links

abbrev pub invariant-chosen-loop-branch : goal.invariant-chosen-loop-branch
invariant-chosen-loop-branch l =
    chosen (value_at l.at) (option_map seen_value l.operand) (drop l.branch-index l.branches)
    ≡ chosen (value_at l.at) (option_map seen_value l.operand) l.branches

abbrev pub invariant-over_group-loop-row : goal.invariant-over_group-loop-row
invariant-over_group-loop-row l =
    seen_value l.kept ≡ over_values l.function (map (value_in l.argument (group_of l.at)) (frames_values (take l.row-index l.at.group.now)))
