use Rattle.hv_history.specs.State.{state_of}
use Rattle.hv_job_acts.proofs.Left.{plain-so, left-iff}
use Rattle.hv_job_acts.proofs.covering.is_left.Goals as goal

pub returns : goal.returns
returns c = record {
  named =
      plain-so c.args.name.now c.is_named.result c.may_go.result c.is_cleaned_away.result c.both-known.result c.both.result c.is_named.ensures
      c.both-known.ensures c.both.ensures;
  left = λ j at.
      left-iff c.args.name.now c.is_named.result c.may_go.result c.is_cleaned_away.result c.both-known.result c.both.result c.is_named.ensures
      c.both-known.ensures c.both.ensures (state_of c.args.book.now.entries) j c.args.table c.args.partition.now (c.may_go.ensures.covered j at)
      c.is_cleaned_away.ensures;
}
