use Rattle.std.proofs.Common.{◌≡◌, inl, refl, arith}
use Rattle.hv_history.specs.declared.entry.Cause.{Cause}
use Rattle.hv_table_reader.specs.hv_acts.specs.Told.{trail_in}
use Rattle.hv_steps.specs.Ending.{aborting}
use Rattle.hv_steps.specs.Going.{faults_in}
use Rattle.hv_steps.proofs.Joining.{opened-lasts, adds-front, counts-within}
use Rattle.hv_steps.proofs.Aborts.{aborted-goes, behind-goes, cause-kept, uncommitted-own}
use Rattle.hv_steps.proofs.refusing.refuse_with.Goals as goal

pub end_without-requires-clause-was : goal.end_without-requires-clause-was
end_without-requires-clause-was g c =
    let before = g.W.Actor.house c.args.actor.now in
    let now = g.W.Actor.house c.abort.new.actor in
    opened-lasts c.args.txn.0 (trail_in before) (trail_in now)
    (adds-front g.D.Shelf.faults g.W.Actor.between g.met.W.Actor.rows (g.W.Actor.own c.args.actor.now) (g.W.Actor.own c.abort.new.actor) before now _ c.in-Err.ensures.adds)
    c.requires.was

pub returns-in-Ok-clause-goes : goal.returns-in-Ok-clause-goes
returns-in-Ok-clause-goes g c = λ low below keeps.
    let before = g.W.Actor.house c.args.actor.now in
    let now = g.W.Actor.house c.abort.new.actor in
    let high = faults_in g.D.Shelf.faults before in
    let adds = c.in-Ok.ensures.adds in
    aborted-goes g.D.Shelf.told g.D.Shelf.faults g.W.Actor.between g.met.W.Actor.rows g.W.Actor.meanwhile low c.args.txn.0 (g.W.Actor.own c.args.actor.now)
    (g.W.Actor.own c.abort.new.actor) before now (λ (why : Cause). why ≡ c.args.cause) c.args.cause c.aborted.result _ c.in-Ok.at c.aborted.ensures c.requires.text
    (uncommitted-own c.args.cause c.requires.uncommitted) adds c.in-Ok.ensures.left
    (counts-within low high low (faults_in g.D.Shelf.faults now) (omega arith) adds.later.count (aborting c.args.txn.0 c.args.cause)
    (cause-kept low high c.args.txn.0 c.args.cause keeps))
    (inl refl) c.in-Ok.ensures.replied

pub returns-in-Err-clause-goes : goal.returns-in-Err-clause-goes
returns-in-Err-clause-goes g c = λ low below keeps.
    behind-goes g.D.Shelf.told g.D.Shelf.faults g.W.Actor.between g.met.W.Actor.rows g.W.Actor.meanwhile low c.args.txn.0 (g.W.Actor.own c.args.actor.now)
    (g.W.Actor.own c.abort.new.actor) (g.W.Actor.own c.end_without.new.actor) (g.W.Actor.house c.args.actor.now) (g.W.Actor.house c.abort.new.actor)
    (g.W.Actor.house c.end_without.new.actor) (λ (why : Cause). why ≡ c.args.cause) c.end_without.result c.in-Err.ensures.adds (c.end_without.ensures.goes low)
