use Rattle.hv_dirs.proofs.ParsingLemmas.{if-none, nil, not-nil, no-base, bad-base, is-base}
use Rattle.std.proofs.Common.{inl, inr}
use Rattle.hv_dirs.proofs.names.parsing.base_of.Goals as goal

pub returns-in_err-high-clause-none : goal.returns-in_err-high-clause-none
returns-in_err-high-clause-none c = if-none c.from_residual.result _ (no-base c.args.bytes.now c.in_err-high.ensures.none)

pub returns-then-high-eq0-clause-none : goal.returns-then-high-eq0-clause-none
returns-then-high-eq0-clause-none c = bad-base c.args.bytes.now c.in_ok-high.rest.now c.in_ok-high.high c.in_ok-high.ensures.found.0 c.in_ok-high.ensures.found.1 (inl c.if-high-eq0.true)

pub returns-else-is_empty-clause-none : goal.returns-else-is_empty-clause-none
returns-else-is_empty-clause-none c = bad-base c.args.bytes.now c.in_ok-high.rest.now c.in_ok-high.high c.in_ok-high.ensures.found.0 c.in_ok-high.ensures.found.1
    (inr (not-nil c.is_empty.result c.in_ok-high.rest.now c.is_empty.ensures c.if-is_empty.false))

pub returns-then-is_empty-clause-found : goal.returns-then-is_empty-clause-found
returns-then-is_empty-clause-found c = is-base c.args.bytes.now c.in_ok-high.rest.now c.in_ok-high.high c.in_ok-high.ensures.found.0 c.in_ok-high.ensures.found.1 c.if-high-eq0.false
    (nil c.is_empty.result c.in_ok-high.rest.now c.is_empty.ensures c.if-is_empty.true)
