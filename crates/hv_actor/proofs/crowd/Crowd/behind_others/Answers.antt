use Rattle.hv_actor.specs.Acting.{Anything}
use Rattle.hv_actor.specs.Rows.{anything_rows}
use Rattle.hv_actor.proofs.Weaving.{went-held, kept-more, two-more, added-is}
use Rattle.hv_actor.proofs.crowd.Crowd.behind_others.Goals as goal

pub keep-requires-clause-most : goal.keep-requires-clause-most
keep-requires-clause-most g c =
    two-more _ _ c.items-at.result c.items-now.result _ _ c.items-at.ensures.items c.items-now.ensures.items c.act-answer.ensures.step.trail

pub returns-clause-went : goal.returns-clause-went
returns-clause-went g c =
    went-held Anything anything_rows (g.H.Housed.seen c.args.self.now.house).trail (g.H.Housed.seen c.go.new.house).trail _ _ c.go.ensures.later.added _ _
    tt c.go.ensures.later.trail (added-is _ _ _ _ c.act-answer.ensures.step.trail c.act-answer.ensures.adds)
    (kept-more c.args.self.now.early.items c.keep.new.early.items c.args.self.now.since c.items-at.result c.items-now.result _ _ _ _
    c.requires.since c.items-at.ensures.items c.items-now.ensures.items
    (added-is _ _ _ _ c.act-answer.ensures.step.trail c.act-answer.ensures.adds) c.keep.ensures.places)
