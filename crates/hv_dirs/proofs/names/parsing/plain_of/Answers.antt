use Rattle.std.proofs.Common.{codes, true, false}
use Rattle.hv_dirs.proofs.NameLemmas.{unstripped, stripped}
use Rattle.hv_dirs.proofs.ParsingLemmas.{if-none, plain-delta, delta-plain, no-plain}
use Rattle.hv_dirs.proofs.names.parsing.plain_of.Goals as goal

pub returns-in-Some-strip_prefix-clause-none : goal.returns-in-Some-strip_prefix-clause-none
returns-in-Some-strip_prefix-clause-none c = plain-delta false c.args.bytes.now c.in-Some-strip_prefix.rest.now
    (stripped (codes "delta_") c.args.bytes.now c.in-Some-strip_prefix.rest.now c.in-Some-strip_prefix.ensures.cases.0 c.in-Some-strip_prefix.ensures.cases.1)
    c.delta_of.result c.delta_of.ensures.none

pub returns-in_err-rest-clause-none : goal.returns-in_err-rest-clause-none
returns-in_err-rest-clause-none c = if-none c.from_residual.result _
    (no-plain c.args.bytes.now (unstripped (codes "base_") c.args.bytes.now c.in_default.ensures.cases)
    (unstripped (codes "delta_") c.args.bytes.now c.in_default-strip_prefix.ensures.cases)
    (unstripped (codes "delete_delta_") c.args.bytes.now c.in_err-rest.ensures.cases))

pub returns-clause-found : goal.returns-clause-found
returns-clause-found c = delta-plain true c.args.bytes.now c.in_ok-rest.rest.now
    (stripped (codes "delete_delta_") c.args.bytes.now c.in_ok-rest.rest.now c.in_ok-rest.ensures.cases.0 c.in_ok-rest.ensures.cases.1)
    c.delta_of-2.result c.delta_of-2.ensures.found

pub returns-clause-none : goal.returns-clause-none
returns-clause-none c = plain-delta true c.args.bytes.now c.in_ok-rest.rest.now
    (stripped (codes "delete_delta_") c.args.bytes.now c.in_ok-rest.rest.now c.in_ok-rest.ensures.cases.0 c.in_ok-rest.ensures.cases.1)
    c.delta_of-2.result c.delta_of-2.ensures.none
