use Rattle.std.proofs.Common.{Some}
use Rattle.hv_base.specs.declared.gate.Stage.TheVariants as stage
use Rattle.hv_beginning.specs.hv_steps.specs.Going.{faults_in}
use Rattle.hv_beginning.specs.hv_steps.specs.Phases.{Sees}
use Rattle.hv_beginning.specs.hv_steps.specs.declared.reply.Outcome.TheVariants as outcome
use Rattle.hv_session.proofs.Takings.{goes-said, seen-comes, seen-holds, halts-holds, unseen-commits, done-way}
use Rattle.hv_session.proofs.AloneHolds.{seen-goes, unseen-goes, halted-goes}
use Rattle.hv_session.proofs.taking.hold_commit.Goals as goal

pub keep_ready-requires-clause-was : goal.keep_ready-requires-clause-was
keep_ready-requires-clause-was g c =
    let was = c.requires.was in
    let before = g.W.Actor.house c.args.actor.now in
    let now = g.W.Actor.house c.see.new.actor in (
      was.0,
      done-way g.D.Shelf.told g.D.Shelf.faults g.W.Actor.between g.met.W.Actor.rows g.W.Actor.meanwhile c.args.way.txn.0 (faults_in g.D.Shelf.faults before)
          (g.W.Actor.own c.args.actor.now) (g.W.Actor.own c.see.new.actor) before now (Sees g.D.Shelf.told now c.args.way c.args.tree) (outcome.Means c.in-Ok-Means.meaning)
          was.0 c.args.way c.args.tree (goes-said c.in-Ok-Means.field-0-is c.in-Ok-Means.ensures.goes) was.1,
    )

pub keep_ready-requires-clause-comes : goal.keep_ready-requires-clause-comes
keep_ready-requires-clause-comes g c =
    let before = g.W.Actor.house c.args.actor.now in
    let now = g.W.Actor.house c.see.new.actor in
    seen-comes g.D.Shelf.told g.D.Shelf.faults g.W.Actor.between g.met.W.Actor.rows g.W.Actor.meanwhile c.args.way.txn.0 (faults_in g.D.Shelf.faults before)
    (g.W.Actor.own c.args.actor.now) (g.W.Actor.own c.see.new.actor) before now c.args.way c.args.tree c.in-Ok-Means.meaning
    (goes-said c.in-Ok-Means.field-0-is c.in-Ok-Means.ensures.goes)

pub returns-in-Ok-Means-clause-goes : goal.returns-in-Ok-Means-clause-goes
returns-in-Ok-Means-clause-goes g c =
    seen-holds g.D.Shelf.told g.D.Shelf.faults g.W.Actor.between g.met.W.Actor.rows g.W.Actor.meanwhile
    (g.W.Actor.own c.args.actor.now) (g.W.Actor.own c.see.new.actor) (g.W.Actor.own c.keep_ready.new.actor)
    (g.W.Actor.house c.args.actor.now) (g.W.Actor.house c.see.new.actor) (g.W.Actor.house c.keep_ready.new.actor)
    c.args.way c.args.tree c.in-Ok-Means.meaning (Some stage.Commit) c.keep_ready.result (goes-said c.in-Ok-Means.field-0-is c.in-Ok-Means.ensures.goes) c.keep_ready.ensures.goes

pub returns-in-Ok-Ended-clause-goes : goal.returns-in-Ok-Ended-clause-goes
returns-in-Ok-Ended-clause-goes g c =
    unseen-commits g.D.Shelf.told g.D.Shelf.faults g.W.Actor.between g.met.W.Actor.rows g.W.Actor.meanwhile
    (g.W.Actor.own c.args.actor.now) (g.W.Actor.own c.see.new.actor) (g.W.Actor.house c.args.actor.now) (g.W.Actor.house c.see.new.actor)
    c.args.way c.args.tree c.in-Ok-Ended.found (goes-said c.in-Ok-Ended.field-0-is c.in-Ok-Ended.ensures.goes)

pub returns-in-Err-clause-goes : goal.returns-in-Err-clause-goes
returns-in-Err-clause-goes g c =
    let now = g.W.Actor.house c.see.new.actor in
    halts-holds g.D.Shelf.told g.D.Shelf.faults g.W.Actor.between g.met.W.Actor.rows g.W.Actor.meanwhile
    (g.W.Actor.own c.args.actor.now) (g.W.Actor.own c.see.new.actor) (g.W.Actor.house c.args.actor.now) now
    c.args.way c.args.tree (Some stage.Commit) (Sees g.D.Shelf.told now c.args.way c.args.tree) c.in-Err.why c.in-Err.ensures.goes

pub returns-in-Ok-Means-clause-alone : goal.returns-in-Ok-Means-clause-alone
returns-in-Ok-Means-clause-alone g c = λ acts on.
    seen-goes g.D.Shelf.told g.D.Shelf.faults g.W.Actor.between g.W.Actor.meanwhile acts
    (g.W.Actor.own c.args.actor.now) (g.W.Actor.own c.see.new.actor) (g.W.Actor.house c.args.actor.now) (g.W.Actor.house c.see.new.actor) c.args.way c.args.tree
    (g.met.W.Actor.kept c.see.new.actor c.in-Ok-Means.ensures.keeps) on (g.W.Actor.own c.keep_ready.new.actor) (g.W.Actor.house c.keep_ready.new.actor)
    c.requires.was.0 (Some stage.Commit) c.in-Ok-Means.meaning c.keep_ready.result c.requires.was.1 c.requires.running
    (g.met.W.Actor.kept c.keep_ready.new.actor c.keep_ready.ensures.keeps) (goes-said c.in-Ok-Means.field-0-is c.in-Ok-Means.ensures.goes)
    (returns-in-Ok-Means-clause-goes g c) (c.keep_ready.ensures.alone acts)

pub returns-in-Ok-Ended-clause-alone : goal.returns-in-Ok-Ended-clause-alone
returns-in-Ok-Ended-clause-alone g c = λ acts on.
    unseen-goes g.D.Shelf.told g.D.Shelf.faults g.W.Actor.between g.W.Actor.meanwhile acts
    (g.W.Actor.own c.args.actor.now) (g.W.Actor.own c.see.new.actor) (g.W.Actor.house c.args.actor.now) (g.W.Actor.house c.see.new.actor) c.args.way c.args.tree
    (g.met.W.Actor.kept c.see.new.actor c.in-Ok-Ended.ensures.keeps) on c.requires.was.0 (Some stage.Commit) c.in-Ok-Ended.found c.requires.was.1 c.requires.running
    (goes-said c.in-Ok-Ended.field-0-is c.in-Ok-Ended.ensures.goes) (returns-in-Ok-Ended-clause-goes g c)

pub returns-in-Err-clause-alone : goal.returns-in-Err-clause-alone
returns-in-Err-clause-alone g c = λ acts on.
    halted-goes g.D.Shelf.told g.D.Shelf.faults g.W.Actor.between g.W.Actor.meanwhile acts
    (g.W.Actor.own c.args.actor.now) (g.W.Actor.own c.see.new.actor) (g.W.Actor.house c.args.actor.now) (g.W.Actor.house c.see.new.actor)
    c.requires.was.0 c.args.way c.args.tree (Some stage.Commit) c.requires.was.1 c.requires.running (g.met.W.Actor.kept c.see.new.actor c.in-Err.ensures.keeps)
    c.in-Err.why (returns-in-Err-clause-goes g c)
