use Rattle.std.proofs.Common.{true≢false, sym, ◌∙◌}
use Rattle.hv_job_acts.proofs.Finals.{final-in}
use Rattle.hv_job_acts.proofs.staging.is_final.Goals as goal

pub returns-in-Some : goal.returns-in-Some
returns-in-Some c = record {
  among = λ so j at.
      final-in c.args.book.now.entries c.args.job.0 j at c.in-Some.merge c.args.name.now (sym c.in-Some.is ∙ c.merge_of.ensures.merge j at)
      (sym c.is_final_in.ensures ∙ so);
}

pub returns-in-None : goal.returns-in-None
returns-in-None c = record { among = λ so. absurd (true≢false (sym so)) }
