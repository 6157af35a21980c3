use Rattle.std.proofs.Common.{◌≡◌, []}
use Rattle.hv_steps.specs.Phases.{AbortsFor}
use Rattle.hv_steps.specs.Seeing.{EndsFor}
use Rattle.hv_steps.proofs.Unseen.{goes-ok, goes-err}
use Rattle.hv_steps.proofs.seeing.cut_off.Goals as goal

pub returns-clause-goes : goal.returns-clause-goes
returns-clause-goes g c = λ low down keeps.
    goes-ok g.D.Shelf.told g.D.Shelf.faults g.W.Actor.between g.met.W.Actor.rows g.W.Actor.meanwhile low c.args.txn.0
    (g.W.Actor.own c.args.actor.now) (g.W.Actor.own c.refuse.new.actor) (g.W.Actor.house c.args.actor.now) (g.W.Actor.house c.refuse.new.actor)
    c.args.cause _ (c.in_ok-refuse.ensures.goes low down keeps)

pub returns-in_err-refuse-clause-goes : goal.returns-in_err-refuse-clause-goes
returns-in_err-refuse-clause-goes g c = λ low down keeps.
    let now = g.W.Actor.house c.refuse.new.actor in
    goes-err g.D.Shelf.told g.D.Shelf.faults g.W.Actor.between g.met.W.Actor.rows g.W.Actor.meanwhile low c.args.txn.0
    (g.W.Actor.own c.args.actor.now) (g.W.Actor.own c.refuse.new.actor) (g.W.Actor.house c.args.actor.now) now
    (AbortsFor c.args.txn.0 now [] (λ of. of ≡ c.args.cause)) (EndsFor c.args.txn.0 now c.args.cause)
    c.in_err-refuse.field-0.0 c.from_residual.result c.from_residual.ensures.1 (c.in_err-refuse.ensures.goes low down keeps)
