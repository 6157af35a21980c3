use Rattle.std.proofs.Common.{◌∙◌}
use Rattle.hv_history.specs.State.{state_of}
use Rattle.hv_queue.proofs.FrontLemmas.{front-is-watermark}
use Rattle.hv_queue.proofs.queue.watermark.Goals as goal

pub returns : goal.returns
returns c = record {
  mark = c.front_by.ensures ∙ front-is-watermark (state_of c.args.book.now.entries) c.args.table.0 _ _ c.walk-tally.result c.given.result c.walk-tally.ensures c.given.ensures;
}
