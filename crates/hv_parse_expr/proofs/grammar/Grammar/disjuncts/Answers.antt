use Rattle.std.proofs.Common.{◌≡◌, Some, rules, arith, sym, ap, ◌∙◌}
use Rattle.std.proofs.lemmas.Grind.{common_steps}
use Rattle.hv_grammar.specs.declared.kind.Kind.TheVariants as k
use Rattle.hv_grammar.specs.Readers.{more}
use Rattle.hv_grammar.specs.Reading.{expr, conjunction, disjuncts}
use Rattle.hv_parse_expr.proofs.Turns.{goes_on, stops, runs_out}
use Rattle.hv_parse_expr.proofs.grammar.Grammar.disjuncts.Goals.{else-loop-turn-test, then-loop-turn-test+then-not-eat}
use Rattle.hv_parse_expr.proofs.grammar.Grammar.disjuncts.Goals as goal

pub returns-in_err-found : goal.returns-in_err-found
returns-in_err-found g c =
    let item = conjunction (expr c.args.self.now.depth) in
    let e = goes_on k.Or item (disjuncts (expr c.args.self.now.depth) c.args.first c.args.tokens.now) _ _ _ _ _ _
    c.loop-turn-test.true c.loop-turn.invariant c.eat.ensures.found c.if-not-eat.false c.eat.ensures.after in
    let nothing = c.in_err-found.ensures.refused (item c.eat.new.self) c.conjunction.new.tokens c.conjunction.ensures in
    first_of (search rules, grind (arith, common_steps))

pub loop-turn-preserved : goal.loop-turn-preserved
loop-turn-preserved g c =
    let item = conjunction (expr c.args.self.now.depth) in
    let e = goes_on k.Or item (disjuncts (expr c.args.self.now.depth) c.args.first c.args.tokens.now) _ _ _ _ _ _
    c.loop-turn-test.true c.loop-turn.invariant c.eat.ensures.found c.if-not-eat.false c.eat.ensures.after in
    e ∙ c.in_ok-found.ensures.more (item c.eat.new.self) c.conjunction.new.tokens (more k.Or item _) c.conjunction.ensures

pub returns : goal.returns
returns g c =
    let item = conjunction (expr c.args.self.now.depth) in
    let whole = disjuncts (expr c.args.self.now.depth) c.args.first c.args.tokens.now in
    let e : whole ≡ Some (c.loop-turn.found.items, c.loop-turn-test.tokens) = elim c.loop-turn-test.branch [
      | else-loop-turn-test w ↦ runs_out k.Or item whole _ _ _ _ w.loop-turn-test.false c.loop-turn.invariant
          ∙ ap (λ t. Some (c.loop-turn.found.items, t)) (sym w.tokens-is)
      | then-loop-turn-test+then-not-eat w ↦ stops k.Or item whole _ _ _ _ _ _
          w.loop-turn-test.true c.loop-turn.invariant w.eat.ensures.found w.if-not-eat.true w.eat.ensures.after
          ∙ ap (λ t. Some (c.loop-turn.found.items, t)) (sym w.tokens-is)
    ] in
    cc
