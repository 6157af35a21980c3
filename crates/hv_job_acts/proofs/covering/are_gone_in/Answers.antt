use Rattle.hv_history.specs.State.{state_of}
use Rattle.hv_trail.specs.Kept.{trail_of}
use Rattle.hv_acts.specs.hv_telling.specs.hv_house.specs.House.{entries_of}
use Rattle.hv_job_calls.proofs.OnOk.{ok-weaker}
use Rattle.hv_job_acts.proofs.Gone.{covered-at, gone-all, gone-not}
use Rattle.hv_job_acts.proofs.covering.are_gone_in.Goals as goal

pub returns : goal.returns
returns g c =
    let house = c.args.house.now in
    record {
      gone =
          ok-weaker c.all_gone.result _ _
          (λ gone says so j at at_table at_partition.
          gone-all (trail_of house.trail) (state_of (entries_of house)) j c.args.table c.args.partition.now at_table at_partition c.in_ok-names.names.items
          (covered-at house c.args.job.0 c.in_ok-names.names.items c.book.result.now.entries c.book.ensures.entries c.in_ok-names.ensures.covered j at)
          c.as_slice.result.now c.as_slice.ensures.value (says so))
          c.all_gone.ensures.gone;
      left =
          ok-weaker c.all_gone.result _ _
          (λ gone says so j at at_table at_partition.
          gone-not (trail_of house.trail) (state_of (entries_of house)) j c.args.table c.args.partition.now at_table at_partition c.in_ok-names.names.items
          (covered-at house c.args.job.0 c.in_ok-names.names.items c.book.result.now.entries c.book.ensures.entries c.in_ok-names.ensures.covered j at)
          c.as_slice.result.now c.as_slice.ensures.value (says so))
          c.all_gone.ensures.left;
    }
