use Rattle.std.proofs.Common.{◌≡◌, ◌++◌, List, ℕ, Some, drop, take, map, option_map}
use Rattle.std.specs.Str.{IsUtf8}
use Rattle.hv_expr.specs.Values.{both, either, both_of}
use Rattle.hv_expr.specs.Functions.{all_of, any_of, equals_any, first_known, joined}
use Rattle.hv_expr.specs.Evaluation.{chained, chosen, value_in}
use Rattle.hv_seen.specs.Truths.{told}
use Rattle.hv_eval.specs.Frames.{value_at, values_at, group_of, frames_values}
use Rattle.hv_eval.specs.Held.{held_value}
use Rattle.hv_eval.proofs.walk.+memory.Given as goal

abbrev pub invariant-all-loop-expr : goal.invariant-all-loop-expr
invariant-all-loop-expr l =
    both (told l.seen) (all_of (values_at (drop l.expr-index l.exprs) l.at)) ≡ all_of (values_at l.exprs l.at)

abbrev pub invariant-any-loop-expr : goal.invariant-any-loop-expr
invariant-any-loop-expr l =
    either (told l.seen) (any_of (values_at (drop l.expr-index l.exprs) l.at)) ≡ any_of (values_at l.exprs l.at)

abbrev pub invariant-equals_any-loop-expr : goal.invariant-equals_any-loop-expr
invariant-equals_any-loop-expr l =
    either (told l.found) (equals_any (held_value l.value) (values_at (drop l.expr-index l.exprs) l.at)) ≡ equals_any (held_value l.value) (values_at l.exprs l.at)

abbrev pub invariant-first_known-loop-expr : goal.invariant-first_known-loop-expr
invariant-first_known-loop-expr l =
    first_known (values_at (drop l.expr-index l.exprs) l.at) ≡ first_known (values_at l.exprs l.at)

abbrev pub invariant-chain-loop-link : goal.invariant-chain-loop-link
invariant-chain-loop-link l =
    chained (value_at l.at) (held_value l.value) (drop l.link-index l.links) ≡ chained (value_at l.at) (held_value l.initial.value) l.links

abbrev pub invariant-chosen-loop-branch : goal.invariant-chosen-loop-branch
invariant-chosen-loop-branch l =
    chosen (value_at l.at) (option_map held_value l.operand) (drop l.branch-index l.branches)
    ≡ chosen (value_at l.at) (option_map held_value l.operand) l.branches

abbrev pub invariant-text_of_all-loop-expr : goal.invariant-text_of_all-loop-expr
invariant-text_of_all-loop-expr l =
    (both_of (λ (x y : List ℕ). x ++ y) (Some l.bytes.items) (joined (values_at (drop l.expr-index l.exprs) l.at)) ≡ joined (values_at l.exprs l.at))
    × IsUtf8 l.bytes.items

abbrev pub invariant-items-loop-expr : goal.invariant-items-loop-expr
invariant-items-loop-expr l = l.items.items ≡ values_at (take l.expr-index l.exprs) l.at

abbrev pub invariant-values_over-loop-row : goal.invariant-values_over-loop-row
invariant-values_over-loop-row l =
    l.values.items ≡ map (value_in l.argument (group_of l.at)) (frames_values (take l.row-index l.at.group.now))
