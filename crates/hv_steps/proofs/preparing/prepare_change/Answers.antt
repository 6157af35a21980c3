use Rattle.std.proofs.Common.{[], inl, refl}
use Rattle.hv_history.specs.Answers.{counts_line}
use Rattle.hv_logic.specs.declared.meaning.Meaning.TheVariants.{Change}
use Rattle.hv_table_reader.specs.hv_acts.specs.Told.{trail_in}
use Rattle.hv_steps.specs.Ending.{idle_end}
use Rattle.hv_steps.proofs.Touched.{touches-none}
use Rattle.hv_steps.specs.Going.{faults_in}
use Rattle.hv_steps.proofs.Joining.{on-way-opened}
use Rattle.hv_steps.proofs.Ids.{way-means}
use Rattle.hv_steps.proofs.Parts.{made-prepares, made-can, idle-can, made-goes}
use Rattle.hv_steps.proofs.preparing.prepare_change.Goals as goal

pub made_ready-requires-clause-was : goal.made_ready-requires-clause-was
made_ready-requires-clause-was g c =
    on-way-opened (trail_in (g.W.Actor.house c.args.actor.now)) c.requires.comes.asking c.args.way c.requires.comes.said c.requires.comes.was

pub returns-else-changes_rows-clause-goes : goal.returns-else-changes_rows-clause-goes
returns-else-changes_rows-clause-goes g c =
    let a = g.W.Actor.house c.args.actor.now in
    let b = g.W.Actor.house c.made_ready.new.actor in
    made-prepares g.D.Shelf.told g.D.Shelf.faults g.W.Actor.between g.met.W.Actor.rows g.W.Actor.meanwhile c.args.way.txn.0 (faults_in g.D.Shelf.faults a)
    (g.W.Actor.own c.args.actor.now) (g.W.Actor.own c.made_ready.new.actor) a b (Change c.args.info c.args.effect) idle_end (counts_line []) c.made_ready.result
    (λ ready is. inl (refl, c.changes_rows.ensures.none c.if-changes_rows.false, is))
    (made-goes g.D.Shelf.told g.D.Shelf.faults g.W.Actor.between g.met.W.Actor.rows g.W.Actor.meanwhile c.args.way.txn.0 (faults_in g.D.Shelf.faults a)
    (g.W.Actor.own c.args.actor.now) (g.W.Actor.own c.made_ready.new.actor) a b c.nothing.result (counts_line []) c.made_ready.result c.nothing.ensures
    (c.made_ready.ensures.goes (counts_line []) c.counts_line.ensures))

pub returns-else-changes_rows-clause-can : goal.returns-else-changes_rows-clause-can
returns-else-changes_rows-clause-can g c =
    let a = g.W.Actor.house c.args.actor.now in
    let b = g.W.Actor.house c.made_ready.new.actor in
    made-can g.D.Shelf.told g.D.Shelf.faults g.W.Actor.between g.met.W.Actor.rows g.W.Actor.meanwhile c.args.way.txn.0 (faults_in g.D.Shelf.faults a)
    (g.W.Actor.own c.args.actor.now) (g.W.Actor.own c.made_ready.new.actor) a b c.args.way idle_end (counts_line []) c.made_ready.result
    (idle-can g.D.Shelf.told a c.args.way (Change c.args.info c.args.effect) (counts_line [])
    (touches-none c.args.info c.args.effect (c.changes_rows.ensures.none c.if-changes_rows.false)) refl
    (λ is. (way-means (trail_in a) c.requires.comes.asking c.args.way c.requires.comes.said (Change c.args.info c.args.effect) c.requires.comes.was (c.requires.comes.truly is), tt)))
    (made-goes g.D.Shelf.told g.D.Shelf.faults g.W.Actor.between g.met.W.Actor.rows g.W.Actor.meanwhile c.args.way.txn.0 (faults_in g.D.Shelf.faults a)
    (g.W.Actor.own c.args.actor.now) (g.W.Actor.own c.made_ready.new.actor) a b c.nothing.result (counts_line []) c.made_ready.result c.nothing.ensures
    (c.made_ready.ensures.goes (counts_line []) c.counts_line.ensures))
