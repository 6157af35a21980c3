use Rattle.hv_history.specs.State.{state_of}
use Rattle.hv_job_calls.proofs.OnOk.{ok-weaker}
use Rattle.hv_job_acts.proofs.Left.{are-covered}
use Rattle.hv_job_acts.proofs.covering.covered_in.Goals as goal

pub returns : goal.returns
returns c =
    ok-weaker c.dirs_left.result _ _
    (λ dirs left j at at_table at_partition plain.
    are-covered (state_of c.args.book.now.entries) j c.args.table c.args.partition.now at_table at_partition c.in_ok-names.names.items c.as_slice.result.now
    dirs.items c.as_slice.ensures.value (c.in_ok-names.ensures.covered j at) plain (left j at))
    c.dirs_left.ensures
