use Rattle.std.proofs.Common.{sym, ◌∙◌}
use Rattle.hv_beginning.specs.hv_steps.specs.hv_table_reader.specs.hv_acts.specs.Told.{trail_in}
use Rattle.hv_beginning.specs.hv_steps.specs.Going.{faults_in}
use Rattle.hv_beginning.specs.hv_steps.proofs.AsksMade.{plain-is, unasked-all, unasked-prepares}
use Rattle.hv_session.proofs.readying.get_ready.Goals as goal

pub ask_first-requires-clause-plain : goal.ask_first-requires-clause-plain
ask_first-requires-clause-plain g c = plain-is c.args.meaning (sym c.is_plain.ensures.plain ∙ c.if-is_plain.true)

pub prepare-requires-clause-was : goal.prepare-requires-clause-was
prepare-requires-clause-was g c = (
  c.requires.was.0,
  c.args.tree.now,
  c.requires.was.1,
  c.requires.comes,
  unasked-all (trail_in (g.W.Actor.house c.args.actor.now)) c.args.way c.args.tree.now c.args.meaning (sym c.is_plain.ensures.plain ∙ c.if-is_plain.false),
)

pub returns-else-is_plain-clause-goes : goal.returns-else-is_plain-clause-goes
returns-else-is_plain-clause-goes g c =
    unasked-prepares g.D.Shelf.told g.D.Shelf.faults g.W.Actor.between g.met.W.Actor.rows g.W.Actor.meanwhile
    (faults_in g.D.Shelf.faults (g.W.Actor.house c.args.actor.now)) (g.W.Actor.own c.args.actor.now) (g.W.Actor.own c.prepare.new.actor)
    (g.W.Actor.house c.args.actor.now) (g.W.Actor.house c.prepare.new.actor) c.args.way c.args.tree.now c.args.meaning c.prepare.result c.prepare.ensures.goes
