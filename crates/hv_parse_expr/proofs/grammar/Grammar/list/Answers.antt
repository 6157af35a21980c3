use Rattle.std.proofs.Common.{◌≡◌, Some, rules, arith, sym, ap, ◌∙◌}
use Rattle.std.proofs.lemmas.Grind.{common_steps}
use Rattle.hv_grammar.specs.declared.kind.Kind.TheVariants as k
use Rattle.hv_grammar.specs.Readers.{behind, more, separated}
use Rattle.hv_grammar.specs.Reading.{expr, list}
use Rattle.hv_parse_expr.proofs.Pushes.{begun}
use Rattle.hv_parse_expr.proofs.Turns.{goes_on, stops, runs_out}
use Rattle.hv_parse_expr.proofs.grammar.Grammar.list.Goals.{else-loop-turn-test, then-loop-turn-test+then-not-eat}
use Rattle.hv_parse_expr.proofs.grammar.Grammar.list.Goals as goal

pub returns-in_err-found : goal.returns-in_err-found
unfolding list separated
returns-in_err-found g c =
    let item = expr c.args.self.now.depth in
    let nothing = c.in_err-found.ensures.refused (item c.args.tokens.now) c.expr.new.tokens c.expr.ensures in
    first_of (search rules, grind (arith, common_steps))

pub loop-turn-init : goal.loop-turn-init
unfolding list
loop-turn-init g c =
    let item = expr c.args.self.now.depth in
    begun k.Comma item c.args.tokens.now c.expr.new.tokens _ _ _ c.new.ensures.items
    (c.in_ok-found.ensures.more (item c.args.tokens.now) c.expr.new.tokens (behind k.Comma item) c.expr.ensures) c.left-turn-end.ensures

pub returns-in_err-found-2 : goal.returns-in_err-found-2
returns-in_err-found-2 g c =
    let item = expr c.args.self.now.depth in
    let e = goes_on k.Comma item (list item c.args.tokens.now) _ _ _ _ _ _
    c.loop-turn-test.true c.loop-turn.invariant c.eat.ensures.found c.if-not-eat.false c.eat.ensures.after in
    let nothing = c.in_err-found-2.ensures.refused (item c.eat.new.self) c.expr-in-loop-turn.new.tokens c.expr-in-loop-turn.ensures in
    first_of (search rules, grind (arith, common_steps))

pub loop-turn-preserved : goal.loop-turn-preserved
loop-turn-preserved g c =
    let item = expr c.args.self.now.depth in
    let e = goes_on k.Comma item (list item c.args.tokens.now) _ _ _ _ _ _
    c.loop-turn-test.true c.loop-turn.invariant c.eat.ensures.found c.if-not-eat.false c.eat.ensures.after in
    e ∙ c.in_ok-found-2.ensures.more (item c.eat.new.self) c.expr-in-loop-turn.new.tokens (more k.Comma item _) c.expr-in-loop-turn.ensures

pub returns : goal.returns
returns g c =
    let item = expr c.args.self.now.depth in
    let whole = list item c.args.tokens.now in
    let e : whole ≡ Some (c.loop-turn.found.items, c.loop-turn-test.tokens) = elim c.loop-turn-test.branch [
      | else-loop-turn-test w ↦ runs_out k.Comma item whole _ _ _ _ w.loop-turn-test.false c.loop-turn.invariant
          ∙ ap (λ t. Some (c.loop-turn.found.items, t)) (sym w.tokens-is)
      | then-loop-turn-test+then-not-eat w ↦ stops k.Comma item whole _ _ _ _ _ _
          w.loop-turn-test.true c.loop-turn.invariant w.eat.ensures.found w.if-not-eat.true w.eat.ensures.after
          ∙ ap (λ t. Some (c.loop-turn.found.items, t)) (sym w.tokens-is)
    ] in
    cc
