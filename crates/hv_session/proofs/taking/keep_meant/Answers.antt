use Rattle.std.proofs.Common.{Some, sym, ◌∙◌}
use Rattle.hv_base.specs.declared.gate.Stage.TheVariants as stage
use Rattle.hv_session.proofs.Takings.{meant-holds, refused-holds}
use Rattle.hv_session.proofs.AloneHolds.{ends-goes, meant-goes}
use Rattle.hv_session.proofs.taking.keep_meant.Goals as goal

pub returns-then-is_refused-clause-goes : goal.returns-then-is_refused-clause-goes
returns-then-is_refused-clause-goes g c =
    refused-holds g.D.Shelf.told g.D.Shelf.faults g.W.Actor.between g.met.W.Actor.rows g.W.Actor.meanwhile
    (g.W.Actor.own c.args.actor.now) (g.W.Actor.own c.end_as-found.new.actor) (g.W.Actor.house c.args.actor.now) (g.W.Actor.house c.end_as-found.new.actor)
    c.requires.was.0 c.args.way c.args.tree c.args.meaning c.end_as-found.result c.taken.result c.taken.ensures.taken (sym c.is_refused.ensures.refused ∙ c.if-is_refused.true)
    c.requires.was.1 c.requires.comes c.end_as-found.ensures.goes c.end_as-found.ensures.answered

pub returns-else-is_refused-clause-goes : goal.returns-else-is_refused-clause-goes
returns-else-is_refused-clause-goes g c =
    meant-holds g.D.Shelf.told g.D.Shelf.faults g.W.Actor.between g.met.W.Actor.rows g.W.Actor.meanwhile
    (g.W.Actor.own c.args.actor.now) (g.W.Actor.house c.args.actor.now) c.requires.was.0 c.args.way c.args.tree c.args.meaning
    c.requires.was.1 c.requires.running c.requires.comes (sym c.is_refused.ensures.refused ∙ c.if-is_refused.false)

pub returns-then-is_refused-clause-alone : goal.returns-then-is_refused-clause-alone
returns-then-is_refused-clause-alone g c = λ acts on can means.
    ends-goes g.D.Shelf.told g.D.Shelf.faults g.W.Actor.between g.W.Actor.meanwhile acts
    (g.W.Actor.own c.args.actor.now) (g.W.Actor.own c.end_as-found.new.actor) (g.W.Actor.house c.args.actor.now) (g.W.Actor.house c.end_as-found.new.actor)
    c.requires.was.0 c.args.way c.args.tree (Some stage.Read) c.requires.was.1 c.requires.running (g.met.W.Actor.kept c.end_as-found.new.actor c.end_as-found.ensures.keeps)
    c.end_as-found.result c.taken.result c.taken.ensures.taken (returns-then-is_refused-clause-goes g c) (c.end_as-found.ensures.alone acts on means can)

pub returns-else-is_refused-clause-alone : goal.returns-else-is_refused-clause-alone
returns-else-is_refused-clause-alone g c = λ acts on can means.
    meant-goes g.D.Shelf.told g.D.Shelf.faults g.W.Actor.between g.W.Actor.meanwhile acts
    (g.W.Actor.own c.args.actor.now) (g.W.Actor.house c.args.actor.now) c.requires.was.0 c.args.way c.args.tree c.requires.was.1 c.requires.running
    (g.met.W.Actor.kept c.args.actor.now c.requires.keeps) on c.args.meaning can (sym c.is_refused.ensures.refused ∙ c.if-is_refused.false) means (returns-else-is_refused-clause-goes g c)
