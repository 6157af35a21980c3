use Rattle.std.proofs.Common.{◌≡◌, Some, rules, arith, sym, ap, ◌∙◌}
use Rattle.std.proofs.lemmas.Grind.{common_steps}
use Rattle.hv_grammar.specs.declared.kind.Kind.TheVariants as k
use Rattle.hv_grammar.specs.Readers.{behind, more, separated}
use Rattle.hv_grammar.specs.Reading.{name}
use Rattle.hv_grammar.specs.StatementReading.{names}
use Rattle.hv_parse_expr.proofs.Pushes.{begun}
use Rattle.hv_parse_expr.proofs.Turns.{goes_on, stops, runs_out}
use Rattle.hv_parse_stmt.proofs.tables.names.Goals.{else-loop-turn-test, then-loop-turn-test+then-not-eat}
use Rattle.hv_parse_stmt.proofs.tables.names.Goals as goal

pub returns-in_err-found : goal.returns-in_err-found
unfolding names separated
returns-in_err-found c =
    let nothing = c.in_err-found.ensures.refused (name c.args.tokens.now) c.name.new.tokens c.name.ensures in
    first_of (search rules, grind (arith, common_steps))

pub loop-turn-init : goal.loop-turn-init
unfolding names
loop-turn-init c =
    begun k.Comma name c.args.tokens.now c.name.new.tokens _ _ _ c.new.ensures.items
    (c.in_ok-found.ensures.more (name c.args.tokens.now) c.name.new.tokens (behind k.Comma name) c.name.ensures) c.left-turn-end.ensures

pub returns-in_err-found-2 : goal.returns-in_err-found-2
returns-in_err-found-2 c =
    let e = goes_on k.Comma name (names c.args.tokens.now) _ _ _ _ _ _
    c.loop-turn-test.true c.loop-turn.invariant c.eat.ensures.found c.if-not-eat.false c.eat.ensures.after in
    let nothing = c.in_err-found-2.ensures.refused (name c.eat.new.self) c.name-in-loop-turn.new.tokens c.name-in-loop-turn.ensures in
    first_of (search rules, grind (arith, common_steps))

pub loop-turn-preserved : goal.loop-turn-preserved
loop-turn-preserved c =
    let e = goes_on k.Comma name (names c.args.tokens.now) _ _ _ _ _ _
    c.loop-turn-test.true c.loop-turn.invariant c.eat.ensures.found c.if-not-eat.false c.eat.ensures.after in
    e ∙ c.in_ok-found-2.ensures.more (name c.eat.new.self) c.name-in-loop-turn.new.tokens (more k.Comma name _) c.name-in-loop-turn.ensures

pub returns : goal.returns
returns c =
    let item = name in
    let whole = names c.args.tokens.now in
    let e : whole ≡ Some (c.loop-turn.found.items, c.loop-turn-test.tokens) = elim c.loop-turn-test.branch [
      | else-loop-turn-test w ↦ runs_out k.Comma item whole _ _ _ _ w.loop-turn-test.false c.loop-turn.invariant
          ∙ ap (λ t. Some (c.loop-turn.found.items, t)) (sym w.tokens-is)
      | then-loop-turn-test+then-not-eat w ↦ stops k.Comma item whole _ _ _ _ _ _
          w.loop-turn-test.true c.loop-turn.invariant w.eat.ensures.found w.if-not-eat.true w.eat.ensures.after
          ∙ ap (λ t. Some (c.loop-turn.found.items, t)) (sym w.tokens-is)
    ] in
    cc
