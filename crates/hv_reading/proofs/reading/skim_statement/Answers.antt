use Rattle.std.proofs.Common.{inr}
use Rattle.hv_reading.proofs.Skimmed.{skimmed}
use Rattle.hv_reading.proofs.reading.skim_statement.Goals as goal

pub returns-in-Ok-clause-tree : goal.returns-in-Ok-clause-tree
returns-in-Ok-clause-tree c = inr (skimmed c.args.text.now c.in-Ok.tree c.in-Ok.ensures.tree)
