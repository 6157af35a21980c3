use Rattle.hv_actor.specs.Acting.{Nothing}
use Rattle.hv_actor.specs.Rows.{nothing_rows}
use Rattle.hv_actor.proofs.Weaving.{went-itself, alone-more, added-is}
use Rattle.hv_actor.proofs.actor.AnyActor.hold.Goals as goal

pub returns-clause-went : goal.returns-clause-went
returns-clause-went g c =
    went-itself Nothing nothing_rows (g.H.Housed.seen c.args.self.now).trail _ _ _ _
    (added-is _ _ _ _ c.act.ensures.step.trail c.act.ensures.adds)
    (alone-more (g.H.Housed.seen c.args.self.now) (g.H.Housed.seen c.act.new.house) _ c.opened-opened.ensures.within c.act.ensures.step.rest.opened
    (added-is _ _ _ _ c.act.ensures.step.trail c.act.ensures.adds))
