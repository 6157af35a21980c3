use Rattle.hv_actor.specs.Acting.{Anything}
use Rattle.hv_actor.specs.Rows.{anything_rows}
use Rattle.hv_actor.proofs.Weaving.{went-itself, undisturbed-more, added-is}
use Rattle.hv_actor.proofs.crowd.Crowd.undisturbed.Goals as goal

pub returns-clause-went : goal.returns-clause-went
returns-clause-went g c =
    went-itself Anything anything_rows (g.H.Housed.seen c.args.self.now.house).trail _ _ _ _
    (added-is _ _ _ _ c.act.ensures.step.trail c.act.ensures.adds)
    (undisturbed-more c.args.self.now.early.items c.args.self.now.since _ _ _ c.requires.since (added-is _ _ _ _ c.act.ensures.step.trail c.act.ensures.adds))
