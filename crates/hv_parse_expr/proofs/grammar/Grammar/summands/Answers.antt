use Rattle.std.proofs.Common.{◌≡◌, Some, rules, arith}
use Rattle.std.proofs.lemmas.Grind.{common_steps}
use Rattle.hv_grammar.specs.Reading.{expr, term, summands}
use Rattle.hv_grammar.specs.Choices.{additive}
use Rattle.hv_parse_expr.proofs.Turns.{operated, no_operator, operations_run_out}
use Rattle.hv_parse_expr.proofs.grammar.Grammar.summands.Goals.{else-loop-turn-test, then-loop-turn-test+in_default}
use Rattle.hv_parse_expr.proofs.grammar.Grammar.summands.Goals as goal

pub returns-in_err-operand : goal.returns-in_err-operand
returns-in_err-operand g c =
    let operand = term (expr c.args.self.now.depth) in
    let e = operated additive operand (summands (expr c.args.self.now.depth) c.args.tokens.now) _ _ _ _ _ _ _
    c.loop-turn-test.true c.loop-turn.invariant c.peek.ensures c.additive.ensures c.in-Some.is in
    first_of (search rules, grind (arith, common_steps))

pub loop-turn-preserved : goal.loop-turn-preserved
loop-turn-preserved g c =
    let operand = term (expr c.args.self.now.depth) in
    let e = operated additive operand (summands (expr c.args.self.now.depth) c.args.tokens.now) _ _ _ _ _ _ _
    c.loop-turn-test.true c.loop-turn.invariant c.peek.ensures c.additive.ensures c.in-Some.is in
    first_of (search rules, grind (arith, common_steps))

pub returns : goal.returns
returns g c =
    let operand = term (expr c.args.self.now.depth) in
    let whole = summands (expr c.args.self.now.depth) c.args.tokens.now in
    let e : whole ≡ Some (c.loop-turn.found.items, c.loop-turn.tokens) = elim c.loop-turn-test.branch [
      | else-loop-turn-test w ↦ operations_run_out additive operand whole _ _ _ _ w.loop-turn-test.false c.loop-turn.invariant
      | then-loop-turn-test+in_default w ↦ no_operator additive operand whole _ _ _ _ _ _
          w.loop-turn-test.true c.loop-turn.invariant w.peek.ensures w.additive.ensures w.in_default.is
    ] in
    cc
