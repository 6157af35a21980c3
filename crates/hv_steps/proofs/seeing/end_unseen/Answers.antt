use Rattle.std.proofs.Common.{inr, subst}
use Rattle.hv_history.specs.declared.entry.Cause.TheVariants as cause
use Rattle.hv_table_reader.specs.hv_acts.specs.Going.{faults_in}
use Rattle.hv_table_reader.specs.Tables.{RisesTo}
use Rattle.hv_steps.specs.Seeing.{IsUnseen}
use Rattle.hv_steps.proofs.Unseen.{small-damaged, goes-unseen}
use Rattle.hv_steps.proofs.seeing.end_unseen.Goals as goal

pub cut_off-requires-clause-running : goal.cut_off-requires-clause-running
cut_off-requires-clause-running g c =
    (subst (λ f. IsUnseen g.D.Shelf.told g.W.Actor.meanwhile c.args.txn (g.W.Actor.house c.args.actor.now) f) c.in-Damaged.is c.requires.unseen).0

pub cut_off-requires-clause-small : goal.cut_off-requires-clause-small
cut_off-requires-clause-small g c =
    let unseen = subst (λ f. IsUnseen g.D.Shelf.told g.W.Actor.meanwhile c.args.txn (g.W.Actor.house c.args.actor.now) f) c.in-Damaged.is c.requires.unseen in
    small-damaged c.args.txn.0 c.in-Damaged.place unseen.1

pub end_halted-requires-clause-unseen : goal.end_halted-requires-clause-unseen
end_halted-requires-clause-unseen g c =
    subst (λ f. IsUnseen g.D.Shelf.told g.W.Actor.meanwhile c.args.txn (g.W.Actor.house c.args.actor.now) f) c.in-House.is c.requires.unseen

pub returns-in-Damaged-clause-goes : goal.returns-in-Damaged-clause-goes
returns-in-Damaged-clause-goes g c = λ low down rises.
    let before = g.W.Actor.house c.args.actor.now in
    let unseen = subst (λ f. IsUnseen g.D.Shelf.told g.W.Actor.meanwhile c.args.txn before f) c.in-Damaged.is c.requires.unseen in
    goes-unseen g.D.Shelf.told g.D.Shelf.faults g.W.Actor.between g.met.W.Actor.rows g.W.Actor.meanwhile low c.args.txn.0
    (g.W.Actor.own c.args.actor.now) (g.W.Actor.own c.cut_off.new.actor) before (g.W.Actor.house c.cut_off.new.actor)
    (cause.Damaged c.in-Damaged.place) (λ back. inr (λ so. unseen.2 (back so))) c.cut_off.result (c.cut_off.ensures.goes low down tt)

pub returns-in-House-clause-goes : goal.returns-in-House-clause-goes
returns-in-House-clause-goes g c = λ low down rises.
    c.end_halted.ensures.goes low down (subst (λ f. RisesTo low (faults_in g.D.Shelf.faults (g.W.Actor.house c.args.actor.now)) f) c.in-House.is rises)
