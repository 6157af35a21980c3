use Rattle.std.proofs.Common.{◌≡◌, Some, rules, arith, sym, ap, ◌∙◌}
use Rattle.std.proofs.lemmas.Grind.{common_steps}
use Rattle.hv_grammar.specs.declared.kind.Kind.TheVariants as k
use Rattle.hv_grammar.specs.Readers.{behind, more, separated}
use Rattle.hv_grammar.specs.Reading.{any_expr}
use Rattle.hv_grammar.specs.QueryReading.{key, keys}
use Rattle.hv_parse_expr.proofs.Pushes.{begun}
use Rattle.hv_parse_expr.proofs.Turns.{goes_on, stops, runs_out}
use Rattle.hv_parse_query.proofs.clauses.keys.Goals.{else-loop-turn-test, then-loop-turn-test+then-not-eat}
use Rattle.hv_parse_query.proofs.clauses.keys.Goals as goal

pub returns-in_err-found : goal.returns-in_err-found
unfolding keys separated
returns-in_err-found c =
    let nothing = c.in_err-found.ensures.refused (key any_expr c.args.tokens.now) c.key.new.tokens c.key.ensures in
    first_of (search rules, grind (arith, common_steps))

pub loop-turn-init : goal.loop-turn-init
unfolding keys
loop-turn-init c =
    begun k.Comma (key any_expr) c.args.tokens.now c.key.new.tokens _ _ _ c.new.ensures.items
    (c.in_ok-found.ensures.more (key any_expr c.args.tokens.now) c.key.new.tokens (behind k.Comma (key any_expr)) c.key.ensures) c.left-turn-end.ensures

pub returns-in_err-found-2 : goal.returns-in_err-found-2
returns-in_err-found-2 c =
    let e = goes_on k.Comma (key any_expr) (keys any_expr c.args.tokens.now) _ _ _ _ _ _
    c.loop-turn-test.true c.loop-turn.invariant c.eat.ensures.found c.if-not-eat.false c.eat.ensures.after in
    let nothing = c.in_err-found-2.ensures.refused (key any_expr c.eat.new.self) c.key-in-loop-turn.new.tokens c.key-in-loop-turn.ensures in
    first_of (search rules, grind (arith, common_steps))

pub loop-turn-preserved : goal.loop-turn-preserved
loop-turn-preserved c =
    let e = goes_on k.Comma (key any_expr) (keys any_expr c.args.tokens.now) _ _ _ _ _ _
    c.loop-turn-test.true c.loop-turn.invariant c.eat.ensures.found c.if-not-eat.false c.eat.ensures.after in
    e ∙ c.in_ok-found-2.ensures.more (key any_expr c.eat.new.self) c.key-in-loop-turn.new.tokens (more k.Comma (key any_expr) _) c.key-in-loop-turn.ensures

pub returns : goal.returns
returns c =
    let whole = keys any_expr c.args.tokens.now in
    let e : whole ≡ Some (c.loop-turn.found.items, c.loop-turn-test.tokens) = elim c.loop-turn-test.branch [
      | else-loop-turn-test w ↦ runs_out k.Comma (key any_expr) whole _ _ _ _ w.loop-turn-test.false c.loop-turn.invariant
          ∙ ap (λ t. Some (c.loop-turn.found.items, t)) (sym w.tokens-is)
      | then-loop-turn-test+then-not-eat w ↦ stops k.Comma (key any_expr) whole _ _ _ _ _ _
          w.loop-turn-test.true c.loop-turn.invariant w.eat.ensures.found w.if-not-eat.true w.eat.ensures.after
          ∙ ap (λ t. Some (c.loop-turn.found.items, t)) (sym w.tokens-is)
    ] in
    cc
