use Rattle.std.proofs.Common.{◌≡◌, ap, arith}
use Rattle.hv_grammar.specs.Reading.{expr}
use Rattle.hv_parse_expr.proofs.Turns.{deeper}
use Rattle.hv_parse_expr.proofs.grammar.+expr.Goals as goal

pub returns-then-depth-eq0 : goal.returns-then-depth-eq0
unfolding expr
returns-then-depth-eq0 t c _ =
    let none : c.args.depth ≡ 0 = omega arith in ap (λ n. expr n c.args.tokens.now) none

pub returns : goal.returns
unfolding expr
returns t c =
    rw (deeper (λ n. expr n c.args.tokens.now) c.args.depth (omega arith)) c.disjunction.ensures
