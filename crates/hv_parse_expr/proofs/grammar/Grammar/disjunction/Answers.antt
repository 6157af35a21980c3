use Rattle.hv_parse_expr.proofs.Lone.{lone_answer}
use Rattle.hv_parse_expr.proofs.grammar.Grammar.disjunction.Goals as goal

pub returns-then-sees_lone_literal : goal.returns-then-sees_lone_literal
returns-then-sees_lone_literal g c =
    lone_answer c.args.self.now.depth c.args.tokens.now c.literal.new.self c.sees_lone_literal.result c.literal.result
    c.sees_lone_literal.ensures c.if-sees_lone_literal.true c.literal.ensures
