use Rattle.std.proofs.Common.{◌∙◌}
use Rattle.hv_job_acts.proofs.AskedLess.{none-due}
use Rattle.hv_job_acts.proofs.noting.ask_found.Goals as goal

pub ask_short-requires-clause-due : goal.ask_short-requires-clause-due
ask_short-requires-clause-due g c = c.requires.due ∙ c.in-Some.is

pub returns-in-None : goal.returns-in-None
returns-in-None g c = record {
  asked = none-due g.D.Shelf.told g.D.Shelf.faults c.args.house.now c.requires.whole c.args.table c.args.partition.now (c.requires.due ∙ c.in-None.is);
  hard = c.requires.hard;
}
