use Rattle.std.proofs.Common.{◌≡◌, Some, rules, arith, ◌∙◌}
use Rattle.std.proofs.lemmas.Grind.{common_steps}
use Rattle.hv_grammar.specs.Choices.{begins_join}
use Rattle.hv_grammar.specs.Readers.{more_while}
use Rattle.hv_grammar.specs.Reading.{any_expr}
use Rattle.hv_grammar.specs.QueryReading.{query, join, joins}
use Rattle.hv_parse_query.proofs.Turns.{goes_on_while, stops_while, runs_out_while}
use Rattle.hv_parse_query.proofs.queries.Queries.joins.Goals.{else-loop-turn-test, then-loop-turn-test+then-not-begins_join}
use Rattle.hv_parse_query.proofs.queries.Queries.joins.Goals as goal

pub returns-in_err-found : goal.returns-in_err-found
returns-in_err-found g c =
    let inner = query any_expr c.args.self.now.depth in
    let e = goes_on_while begins_join (join any_expr inner) (joins any_expr inner c.args.tokens.now) _ _ _ _ _ _
    c.loop-turn-test.true c.loop-turn.invariant c.peek.ensures c.begins_join.ensures c.if-not-begins_join.false in
    let nothing = c.in_err-found.ensures.refused (join any_expr inner c.loop-turn.tokens) c.join.new.tokens c.join.ensures in
    first_of (search rules, grind (arith, common_steps))

pub loop-turn-preserved : goal.loop-turn-preserved
loop-turn-preserved g c =
    let inner = query any_expr c.args.self.now.depth in
    let e = goes_on_while begins_join (join any_expr inner) (joins any_expr inner c.args.tokens.now) _ _ _ _ _ _
    c.loop-turn-test.true c.loop-turn.invariant c.peek.ensures c.begins_join.ensures c.if-not-begins_join.false in
    e ∙ c.in_ok-found.ensures.more (join any_expr inner c.loop-turn.tokens) c.join.new.tokens (more_while begins_join (join any_expr inner) _) c.join.ensures

pub returns : goal.returns
returns g c =
    let inner = query any_expr c.args.self.now.depth in
    let whole = joins any_expr inner c.args.tokens.now in
    let e : whole ≡ Some (c.loop-turn.found.items, c.loop-turn.tokens) = elim c.loop-turn-test.branch [
      | else-loop-turn-test w ↦ runs_out_while begins_join (join any_expr inner) whole _ _ _ _ w.loop-turn-test.false c.loop-turn.invariant
      | then-loop-turn-test+then-not-begins_join w ↦ stops_while begins_join (join any_expr inner) whole _ _ _ _ _ _
          w.loop-turn-test.true c.loop-turn.invariant w.peek.ensures w.begins_join.ensures w.if-not-begins_join.true
    ] in
    cc
