use Rattle.std.proofs.Common.{sym, ◌∙◌}
use Rattle.hv_meta.proofs.FactLemmas.{and-left, and-right}
use Rattle.hv_job_acts.proofs.Plain.{stageable}
use Rattle.hv_job_acts.proofs.covering.can_stage.Goals as goal

pub returns : goal.returns
returns c = λ so.
    stageable c.args.job.0 c.args.name.now
    (c.is_number.ensures.0 (and-left c.is_number.result c.is_made.result (sym c.both.ensures ∙ so)))
    (c.is_made.ensures.0 (and-right c.is_number.result c.is_made.result (sym c.both.ensures ∙ so)))
