use Rattle.hv_dirs.proofs.ChoiceLemmas.{seen-all, seen-part, seen-none}
use Rattle.hv_dirs.proofs.choice.has_some.Goals as goal

pub returns-in-All : goal.returns-in-All
returns-in-All c = seen-all c.args.list.now c.args.low c.args.high c.range.result c.requires c.range.ensures.each c.in-All.is

pub returns-in-Part : goal.returns-in-Part
returns-in-Part c = seen-part c.args.list.now c.args.low c.args.high c.range.result c.requires c.range.ensures.each c.in-Part.is

pub returns-in-Zero : goal.returns-in-Zero
returns-in-Zero c = seen-none c.args.list.now c.args.low c.args.high c.range.result c.requires c.range.ensures.each c.in-Zero.is
