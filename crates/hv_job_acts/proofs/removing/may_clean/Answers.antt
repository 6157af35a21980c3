use Rattle.std.proofs.Common.{true≢false, sym, ◌∙◌}
use Rattle.hv_job_calls.proofs.OnOk.{ok-weaker}
use Rattle.hv_job_acts.proofs.Atwork.{live-at}
use Rattle.hv_job_acts.proofs.removing.may_clean.Goals as goal

pub returns-then-is_job_live : goal.returns-then-is_job_live
returns-then-is_job_live g c = record {
  may = ok-weaker c.are_gone.result _ _ (λ gone says so j at live. says so j at) c.are_gone.ensures.gone;
  left =
      ok-weaker c.are_gone.result _ _
      (λ gone says so j at names. (
        sym (live-at c.args.house.now c.args.job.0 c.book.result.now.entries c.is_job_live.result c.book.ensures.entries c.is_job_live.ensures.live j at)
            ∙ c.if-is_job_live.true,
        says so j at names,
      ))
      c.are_gone.ensures.left;
}

pub returns-else-is_job_live : goal.returns-else-is_job_live
returns-else-is_job_live g c = record {
  may = λ so j at live.
      absurd (true≢false (sym live
      ∙ sym (live-at c.args.house.now c.args.job.0 c.book.result.now.entries c.is_job_live.result c.book.ensures.entries c.is_job_live.ensures.live j at)
      ∙ c.if-is_job_live.false));
  left = λ so j at names. absurd (true≢false so);
}
