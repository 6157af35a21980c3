use Rattle.std.proofs.Common.{◌≡◌, Some, rules, arith}
use Rattle.std.proofs.lemmas.Grind.{common_steps}
use Rattle.hv_grammar.specs.Choices.{is_number}
use Rattle.hv_grammar.specs.QueryReading.{number}
use Rattle.hv_grammar.specs.StatementReading.{more_numbers}
use Rattle.hv_parse_query.proofs.Turns.{goes_on_while, stops_while, runs_out_while}
use Rattle.hv_parse_stmt.proofs.asked.more_numbers.Goals.{else-loop-turn-test, then-loop-turn-test+then-not-is_number}
use Rattle.hv_parse_stmt.proofs.asked.more_numbers.Goals as goal

pub returns-in_err-number : goal.returns-in_err-number
returns-in_err-number c =
    let e = goes_on_while is_number number (more_numbers c.args.first c.args.tokens.now) _ _ _ _ _ _
    c.loop-turn-test.true c.loop-turn.invariant c.peek.ensures c.is_number.ensures c.if-not-is_number.false in
    first_of (search rules, grind (arith, common_steps))

pub loop-turn-preserved : goal.loop-turn-preserved
loop-turn-preserved c =
    let e = goes_on_while is_number number (more_numbers c.args.first c.args.tokens.now) _ _ _ _ _ _
    c.loop-turn-test.true c.loop-turn.invariant c.peek.ensures c.is_number.ensures c.if-not-is_number.false in
    first_of (search rules, grind (arith, common_steps))

pub returns : goal.returns
returns c =
    let whole = more_numbers c.args.first c.args.tokens.now in
    let e : whole ≡ Some (c.loop-turn.found.items, c.loop-turn.tokens) = elim c.loop-turn-test.branch [
      | else-loop-turn-test w ↦ runs_out_while is_number number whole _ _ _ _ w.loop-turn-test.false c.loop-turn.invariant
      | then-loop-turn-test+then-not-is_number w ↦ stops_while is_number number whole _ _ _ _ _ _
          w.loop-turn-test.true c.loop-turn.invariant w.peek.ensures w.is_number.ensures w.if-not-is_number.true
    ] in
    cc
