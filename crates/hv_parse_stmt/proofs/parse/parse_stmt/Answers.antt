use Rattle.hv_parse_stmt.proofs.Told.{tells_found, tells_only, tells_nesting}
use Rattle.hv_parse_stmt.proofs.parse.parse_stmt.Goals as goal

pub returns-clause-found : goal.returns-clause-found
returns-clause-found c = tells_found c.args.tokens.now c.read_stmt.result c.read_stmt.ensures

pub returns-clause-only : goal.returns-clause-only
returns-clause-only c = tells_only c.args.tokens.now c.read_stmt.result c.read_stmt.ensures

pub returns-clause-nesting : goal.returns-clause-nesting
returns-clause-nesting c = tells_nesting c.args.tokens.now c.read_stmt.result c.read_stmt.ensures
