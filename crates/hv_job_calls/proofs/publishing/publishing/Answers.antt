use Rattle.std.proofs.Common.{ap, sym, ◌∙◌}
use Rattle.hv_history.specs.declared.entry.Entry.TheVariants as entry
use Rattle.hv_history.specs.State.{state_of}
use Rattle.hv_job_calls.specs.Refusals.{published_by}
use Rattle.hv_job_calls.proofs.publishing.publishing.Goals as goal

pub returns : goal.returns
returns c = record {
  entry = λ j at.
      let state = state_of c.args.book.now.entries in
      let pieces = c.pieces-merged.ensures.pieces j at in
      (λ i. entry.Published c.args.job (record { 0 = (pieces i).low }) (record { 0 = (pieces i).high }) (record { 0 = c.next_txn.ensures.next i }))
      ∙ sym (ap (published_by state c.args.job) at);
}
