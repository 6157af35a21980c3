use Rattle.std.proofs.Common.{codes, sym, ◌∙◌}
use Rattle.hv_dirs.proofs.NameLemmas.{unstripped, stripped}
use Rattle.hv_dirs.proofs.ParsingLemmas.{if-none, some-number, no-job, no-job-bar, has-job, job-zero, no-made, not-compacted, is-staged}
use Rattle.hv_dirs.proofs.names.parsing.staged_of.Goals as goal

pub returns-in_err-job-clause-none : goal.returns-in_err-job-clause-none
returns-in_err-job-clause-none c = if-none c.from_residual.result _ (no-job c.args.bytes.now c.in_err-job.ensures.none)

pub returns-in_err-rest-clause-none : goal.returns-in_err-rest-clause-none
returns-in_err-rest-clause-none c = if-none c.from_residual-in_err-rest.result _
    (no-job-bar c.args.bytes.now c.in_ok-job.rest.now c.in_ok-job.job c.in_ok-job.ensures.found.0 c.in_ok-job.ensures.found.1
    (unstripped (codes "_") c.in_ok-job.rest.now c.in_err-rest.ensures.cases))

pub returns-then-job-eq0-clause-none : goal.returns-then-job-eq0-clause-none
returns-then-job-eq0-clause-none c = job-zero c.args.bytes.now c.in_ok-rest.rest.now c.in_ok-job.job
    (has-job c.args.bytes.now c.in_ok-job.rest.now c.in_ok-rest.rest.now c.in_ok-job.job c.in_ok-job.ensures.found.0 c.in_ok-job.ensures.found.1
    (stripped (codes "_") c.in_ok-job.rest.now c.in_ok-rest.rest.now c.in_ok-rest.ensures.cases.0 c.in_ok-rest.ensures.cases.1))
    c.if-job-eq0.true

pub returns-in_err-made-clause-none : goal.returns-in_err-made-clause-none
returns-in_err-made-clause-none c = if-none c.from_residual-in_err-made.result _
    (no-made c.args.bytes.now c.in_ok-rest.rest.now c.in_ok-job.job
    (has-job c.args.bytes.now c.in_ok-job.rest.now c.in_ok-rest.rest.now c.in_ok-job.job c.in_ok-job.ensures.found.0 c.in_ok-job.ensures.found.1
    (stripped (codes "_") c.in_ok-job.rest.now c.in_ok-rest.rest.now c.in_ok-rest.ensures.cases.0 c.in_ok-rest.ensures.cases.1))
    c.in_err-made.ensures.none)

pub returns-then-not-is_compacted-clause-none : goal.returns-then-not-is_compacted-clause-none
returns-then-not-is_compacted-clause-none c = not-compacted c.args.bytes.now c.in_ok-rest.rest.now c.in_ok-job.job c.in_ok-made.made
    (has-job c.args.bytes.now c.in_ok-job.rest.now c.in_ok-rest.rest.now c.in_ok-job.job c.in_ok-job.ensures.found.0 c.in_ok-job.ensures.found.1
    (stripped (codes "_") c.in_ok-job.rest.now c.in_ok-rest.rest.now c.in_ok-rest.ensures.cases.0 c.in_ok-rest.ensures.cases.1))
    c.in_ok-made.ensures.found.0 c.in_ok-made.ensures.found.1 (sym c.is_compacted.ensures ∙ c.if-not-is_compacted.true)

pub returns-clause-found : goal.returns-clause-found
returns-clause-found c = (
  (
    (some-number c.in_ok-job.job c.if-job-eq0.false, c.in_ok-job.ensures.found.0),
    (c.in_ok-made.made, c.in_ok-made.ensures.found.0, sym c.is_compacted.ensures ∙ c.if-not-is_compacted.false, c.in_ok-made.ensures.found.1),
  ),
  is-staged c.args.bytes.now c.in_ok-rest.rest.now c.in_ok-job.job
      (has-job c.args.bytes.now c.in_ok-job.rest.now c.in_ok-rest.rest.now c.in_ok-job.job c.in_ok-job.ensures.found.0 c.in_ok-job.ensures.found.1
      (stripped (codes "_") c.in_ok-job.rest.now c.in_ok-rest.rest.now c.in_ok-rest.ensures.cases.0 c.in_ok-rest.ensures.cases.1)),
)
