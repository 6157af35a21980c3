use Rattle.hv_parse_expr.proofs.Told.{tells_found, tells_only, tells_nesting}
use Rattle.hv_parse_expr.proofs.parse.parse_expr.Goals as goal

pub returns-clause-found : goal.returns-clause-found
returns-clause-found c = tells_found c.args.tokens.now c.args.from c.read_expr.result c.read_expr.ensures

pub returns-clause-only : goal.returns-clause-only
returns-clause-only c = tells_only c.args.tokens.now c.args.from c.read_expr.result c.read_expr.ensures

pub returns-clause-nesting : goal.returns-clause-nesting
returns-clause-nesting c = tells_nesting c.args.tokens.now c.args.from c.read_expr.result c.read_expr.ensures
