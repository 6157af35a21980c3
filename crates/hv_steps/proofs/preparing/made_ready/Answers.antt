use Rattle.std.proofs.Common.{◌≡◌, IfOk, refl, ◌∙◌, subst, arith}
use Rattle.hv_steps.proofs.Shorts.{short_memory}
use Rattle.hv_steps.specs.Going.{faults_in}
use Rattle.hv_steps.proofs.Parts.{goes-ready, lacking-ready}
use Rattle.hv_steps.proofs.preparing.made_ready.Goals as goal

pub withdraw-requires-clause-small : goal.withdraw-requires-clause-small
withdraw-requires-clause-small g c = short_memory c.args.txn.0

pub returns-in-Ok-clause-goes : goal.returns-in-Ok-clause-goes
returns-in-Ok-clause-goes g c = λ wanted is.
    let a = g.W.Actor.house c.args.actor.now in
    goes-ready g.D.Shelf.told g.D.Shelf.faults g.W.Actor.between g.met.W.Actor.rows g.W.Actor.meanwhile c.args.txn.0 (faults_in g.D.Shelf.faults a)
    (g.W.Actor.own c.args.actor.now) a c.args.end wanted _ c.requires.running refl (c.from_vec.ensures ∙ subst (λ t. IfOk t (λ line. line.items ≡ wanted)) c.in-Ok.is is)

pub returns-in-Err-clause-goes : goal.returns-in-Err-clause-goes
returns-in-Err-clause-goes g c = λ wanted is.
    let a = g.W.Actor.house c.args.actor.now in
    let b = g.W.Actor.house c.withdraw.new.actor in
    lacking-ready g.D.Shelf.told g.D.Shelf.faults g.W.Actor.between g.met.W.Actor.rows g.W.Actor.meanwhile c.args.txn.0 (faults_in g.D.Shelf.faults a)
    (g.W.Actor.own c.args.actor.now) (g.W.Actor.own c.withdraw.new.actor) a b a c.args.end wanted c.withdraw.result
    (c.withdraw.ensures.goes (faults_in g.D.Shelf.faults a) (omega arith) tt)
