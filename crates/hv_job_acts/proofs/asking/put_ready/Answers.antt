use Rattle.hv_history.specs.State.{state_of, numbered}
use Rattle.hv_tallies.proofs.CoveredLemmas.{then-ok}
use Rattle.hv_job_acts.specs.Work.{is_ready_in, job_at}
use Rattle.hv_job_acts.proofs.Each.{one-more, none-more}
use Rattle.hv_job_acts.proofs.asking.put_ready.Goals as goal

pub returns-then-is_ready_live : goal.returns-then-is_ready_live
returns-then-is_ready_live c =
    let state = state_of c.args.book.now.entries in
    then-ok c.put_job.result c.put_job.ensures
    (one-more c.is_ready_live.result (is_ready_in state (numbered state.jobs c.args.number)) (job_at c.args.number) c.args.jobs.now.items c.is_ready_live.ensures
    c.put_job.new.jobs.items c.if-is_ready_live.true)

pub returns-else-is_ready_live : goal.returns-else-is_ready_live
returns-else-is_ready_live c =
    let state = state_of c.args.book.now.entries in
    none-more c.is_ready_live.result (is_ready_in state (numbered state.jobs c.args.number)) (job_at c.args.number) c.args.jobs.now.items c.is_ready_live.ensures
    c.if-is_ready_live.false
