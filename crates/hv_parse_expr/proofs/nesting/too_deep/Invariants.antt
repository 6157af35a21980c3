-- What is too deep in all tokens is too deep in those that are left, with the room that is left.
use Rattle.std.proofs.Common.{◌≡◌, ◌+◌, ◌≤◌, drop}
use Rattle.hv_grammar.specs.Nesting.{most_levels}
use Rattle.hv_grammar.specs.Nesting as nesting
use Rattle.hv_parse_expr.proofs.nesting.too_deep.Given as goal

abbrev pub invariant-loop-token : goal.invariant-loop-token
invariant-loop-token l = record {
  same : nesting.too_deep most_levels l.tokens ≡ nesting.too_deep l.room (drop l.token-index l.tokens);
  small : l.room ≤ 64 + l.token-index;
}
