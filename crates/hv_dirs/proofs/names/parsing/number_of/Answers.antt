use Rattle.hv_dirs.proofs.ParsingLemmas.{if-none, too-short, no-digits}
use Rattle.hv_dirs.proofs.names.parsing.number_of.Goals as goal

pub returns-in_err-front-clause-none : goal.returns-in_err-front-clause-none
returns-in_err-front-clause-none g c =
    if-none c.from_residual.result _ (too-short g.row.W c.args.bytes.now c.in_err-front.ensures.cases)

pub returns-in_err-number-clause-none : goal.returns-in_err-number-clause-none
returns-in_err-number-clause-none g c =
    if-none c.from_residual-in_err-number.result _
    (no-digits g.row.W c.args.bytes.now c.in_ok-front.front.now c.in_ok-front.ensures.cases.0 c.in_err-number.ensures.exact)
