use Rattle.std.proofs.Common.{inr, refl}
use Rattle.hv_history.specs.declared.entry.Cause.TheVariants.{Memory}
use Rattle.hv_table_reader.specs.hv_acts.specs.Told.{trail_in}
use Rattle.hv_steps.proofs.Shorts.{short_memory}
use Rattle.hv_steps.specs.Phases.{NoCause}
use Rattle.hv_steps.proofs.Joining.{opened-lasts, adds-front}
use Rattle.hv_steps.proofs.Ends.{never-unfit}
use Rattle.hv_steps.proofs.Aborts.{aborted-goes, behind-goes}
use Rattle.hv_steps.proofs.refusing.lack_with.Goals as goal

pub abort-requires-clause-small : goal.abort-requires-clause-small
abort-requires-clause-small g c = short_memory c.args.txn.0

pub unaborted-requires-clause-never : goal.unaborted-requires-clause-never
unaborted-requires-clause-never g c =
    let before = g.W.Actor.house c.args.actor.now in
    let now = g.W.Actor.house c.abort.new.actor in
    never-unfit (trail_in now) c.args.txn c.in-Err.why
    (opened-lasts c.args.txn.0 (trail_in before) (trail_in now)
    (adds-front g.D.Shelf.faults g.W.Actor.between g.met.W.Actor.rows (g.W.Actor.own c.args.actor.now) (g.W.Actor.own c.abort.new.actor) before now _ c.in-Err.ensures.adds)
    c.requires.was) c.in-Err.ensures.why

pub returns-in-Ok-clause-goes : goal.returns-in-Ok-clause-goes
returns-in-Ok-clause-goes g c = λ low.
    aborted-goes g.D.Shelf.told g.D.Shelf.faults g.W.Actor.between g.met.W.Actor.rows g.W.Actor.meanwhile low c.args.txn.0 (g.W.Actor.own c.args.actor.now)
    (g.W.Actor.own c.abort.new.actor) (g.W.Actor.house c.args.actor.now) (g.W.Actor.house c.abort.new.actor) NoCause Memory c.aborted.result _ c.in-Ok.at
    c.aborted.ensures c.requires.text tt c.in-Ok.ensures.adds c.in-Ok.ensures.left tt (inr refl) c.in-Ok.ensures.replied

pub returns-in-Err-clause-goes : goal.returns-in-Err-clause-goes
returns-in-Err-clause-goes g c = λ low.
    behind-goes g.D.Shelf.told g.D.Shelf.faults g.W.Actor.between g.met.W.Actor.rows g.W.Actor.meanwhile low c.args.txn.0 (g.W.Actor.own c.args.actor.now)
    (g.W.Actor.own c.abort.new.actor) (g.W.Actor.own c.unaborted.new.actor) (g.W.Actor.house c.args.actor.now) (g.W.Actor.house c.abort.new.actor)
    (g.W.Actor.house c.unaborted.new.actor) NoCause c.unaborted.result c.in-Err.ensures.adds (c.unaborted.ensures.goes low)
