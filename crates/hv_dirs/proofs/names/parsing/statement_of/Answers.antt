use Rattle.std.proofs.Common.{codes}
use Rattle.hv_dirs.proofs.NameLemmas.{stripped}
use Rattle.hv_dirs.proofs.ParsingLemmas.{if-none, not-nil, no-statement, more-behind}
use Rattle.hv_dirs.proofs.names.parsing.statement_of.Goals as goal

pub returns-in_err-statement-clause-none : goal.returns-in_err-statement-clause-none
returns-in_err-statement-clause-none c = if-none c.from_residual-in_err-statement.result _
    (no-statement c.args.bytes.now c.in_ok-rest.rest.now
    (stripped (codes "_") c.args.bytes.now c.in_ok-rest.rest.now c.in_ok-rest.ensures.cases.0 c.in_ok-rest.ensures.cases.1) c.in_err-statement.ensures.none)

pub returns-else-is_empty-clause-none : goal.returns-else-is_empty-clause-none
returns-else-is_empty-clause-none c = more-behind c.args.bytes.now c.in_ok-rest.rest.now c.in_ok-statement.rest.now c.in_ok-statement.statement
    (stripped (codes "_") c.args.bytes.now c.in_ok-rest.rest.now c.in_ok-rest.ensures.cases.0 c.in_ok-rest.ensures.cases.1)
    c.in_ok-statement.ensures.found.0 c.in_ok-statement.ensures.found.1
    (not-nil c.is_empty.result c.in_ok-statement.rest.now c.is_empty.ensures c.if-is_empty.false)
