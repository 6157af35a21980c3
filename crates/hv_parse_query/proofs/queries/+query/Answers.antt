use Rattle.std.proofs.Common.{◌≡◌, ap, arith}
use Rattle.hv_grammar.specs.Reading.{any_expr}
use Rattle.hv_grammar.specs.QueryReading.{query}
use Rattle.hv_parse_expr.proofs.Turns.{deeper}
use Rattle.hv_parse_query.proofs.queries.+query.Goals as goal

pub returns-then-depth-eq0 : goal.returns-then-depth-eq0
unfolding query
returns-then-depth-eq0 t c _ =
    let none : c.args.depth ≡ 0 = omega arith in ap (λ n. query any_expr n c.args.tokens.now) none

pub returns : goal.returns
unfolding query
returns t c =
    rw (deeper (λ n. query any_expr n c.args.tokens.now) c.args.depth (omega arith)) c.query_over.ensures
