use Rattle.std.proofs.Common.{◌∙◌}
use Rattle.hv_history.specs.JobsTrue.{kind_of}
use Rattle.hv_acts.proofs.Compactions.{busy-is}
use Rattle.hv_acts.proofs.compacting.is_busy_then.Goals as goal

pub returns : goal.returns
returns g c = record {
  busy =
      c.was_busy.ensures.was (kind_of c.args.asked.now.kind)
      ∙ busy-is c.args.house.now c.args.asked.now c.book.result.now.entries c.book.ensures.entries;
}
