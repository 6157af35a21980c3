use Rattle.std.proofs.Common.{◌≡◌, Some, rules, arith, sym, ap, ◌∙◌}
use Rattle.std.proofs.lemmas.Grind.{common_steps}
use Rattle.hv_grammar.specs.declared.kind.Kind.TheVariants as k
use Rattle.hv_grammar.specs.Readers.{more}
use Rattle.hv_grammar.specs.Reading.{any_expr}
use Rattle.hv_grammar.specs.QueryReading.{lateral, laterals}
use Rattle.hv_parse_expr.proofs.Turns.{goes_on, stops, runs_out}
use Rattle.hv_parse_query.proofs.laterals.laterals.Goals.{else-loop-turn-test, then-loop-turn-test+then-not-eat}
use Rattle.hv_parse_query.proofs.laterals.laterals.Goals as goal

pub returns-in_err-found : goal.returns-in_err-found
returns-in_err-found c =
    let e = goes_on k.Lateral (lateral any_expr) (laterals any_expr c.args.tokens.now) _ _ _ _ _ _
    c.loop-turn-test.true c.loop-turn.invariant c.eat.ensures.found c.if-not-eat.false c.eat.ensures.after in
    let nothing = c.in_err-found.ensures.refused (lateral any_expr c.eat.new.self) c.lateral.new.tokens c.lateral.ensures in
    first_of (search rules, grind (arith, common_steps))

pub loop-turn-preserved : goal.loop-turn-preserved
loop-turn-preserved c =
    let e = goes_on k.Lateral (lateral any_expr) (laterals any_expr c.args.tokens.now) _ _ _ _ _ _
    c.loop-turn-test.true c.loop-turn.invariant c.eat.ensures.found c.if-not-eat.false c.eat.ensures.after in
    e ∙ c.in_ok-found.ensures.more (lateral any_expr c.eat.new.self) c.lateral.new.tokens (more k.Lateral (lateral any_expr) _) c.lateral.ensures

pub returns : goal.returns
returns c =
    let whole = laterals any_expr c.args.tokens.now in
    let e : whole ≡ Some (c.loop-turn.found.items, c.loop-turn-test.tokens) = elim c.loop-turn-test.branch [
      | else-loop-turn-test w ↦ runs_out k.Lateral (lateral any_expr) whole _ _ _ _ w.loop-turn-test.false c.loop-turn.invariant
          ∙ ap (λ t. Some (c.loop-turn.found.items, t)) (sym w.tokens-is)
      | then-loop-turn-test+then-not-eat w ↦ stops k.Lateral (lateral any_expr) whole _ _ _ _ _ _
          w.loop-turn-test.true c.loop-turn.invariant w.eat.ensures.found w.if-not-eat.true w.eat.ensures.after
          ∙ ap (λ t. Some (c.loop-turn.found.items, t)) (sym w.tokens-is)
    ] in
    cc
