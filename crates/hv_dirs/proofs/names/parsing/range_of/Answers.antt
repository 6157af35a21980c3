use Rattle.std.proofs.Common.{codes}
use Rattle.hv_dirs.proofs.NameLemmas.{unstripped, stripped}
use Rattle.hv_dirs.proofs.ParsingLemmas.{if-none, no-bar, no-high}
use Rattle.hv_dirs.proofs.names.parsing.range_of.Goals as goal

pub returns-in_err-rest-clause-none : goal.returns-in_err-rest-clause-none
returns-in_err-rest-clause-none c = if-none c.from_residual-in_err-rest.result _
    (no-bar c.args.bytes.now c.in_ok-low.rest.now c.in_ok-low.low c.in_ok-low.ensures.found.0 c.in_ok-low.ensures.found.1
    (unstripped (codes "_") c.in_ok-low.rest.now c.in_err-rest.ensures.cases))

pub returns-in_err-high-clause-none : goal.returns-in_err-high-clause-none
returns-in_err-high-clause-none c = if-none c.from_residual-in_err-high.result _
    (no-high c.args.bytes.now c.in_ok-low.rest.now c.in_ok-rest.rest.now c.in_ok-low.low c.in_ok-low.ensures.found.0 c.in_ok-low.ensures.found.1
    (stripped (codes "_") c.in_ok-low.rest.now c.in_ok-rest.rest.now c.in_ok-rest.ensures.cases.0 c.in_ok-rest.ensures.cases.1) c.in_err-high.ensures.none)
