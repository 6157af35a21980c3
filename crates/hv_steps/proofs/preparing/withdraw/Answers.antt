use Rattle.std.proofs.Common.{Result, sym, subst}
use Rattle.hv_history.specs.declared.entry.Cause.{Cause}
use Rattle.hv_table_reader.specs.hv_acts.specs.hv_telling.specs.hv_house.specs.declared.fault.HouseFault.{HouseFault}
use Rattle.std.specs.Prelude.{◌≡◌}
use Rattle.hv_steps.specs.declared.reply.Prepared.{Prepared}
use Rattle.hv_steps.specs.Going.{Goes}
use Rattle.hv_steps.specs.Preparing.{EndsFor}
use Rattle.hv_steps.proofs.Parts.{goes-ended}
use Rattle.hv_actor.specs.Acting.{among, known}
use Rattle.hv_steps.proofs.preparing.withdraw.Goals as goal

pub returns-clause-goes : goal.returns-clause-goes
returns-clause-goes g c = λ low down keeps.
    let own = g.W.Actor.own c.args.actor.now in
    let own' = g.W.Actor.own c.refuse.new.actor in
    let a = g.W.Actor.house c.args.actor.now in
    let b = g.W.Actor.house c.refuse.new.actor in
    let P : Cause → Type 0 = λ why. why ≡ c.args.cause in
    subst (λ (r : Result Prepared HouseFault). Goes (among g.D.Shelf.told g.D.Shelf.faults g.W.Actor.between g.W.Actor.meanwhile) low c.args.txn.0 (known own a)
    (known own' b) (EndsFor c.args.txn.0 b P) r)
    (sym c.ended.ensures)
    (goes-ended g.D.Shelf.told g.D.Shelf.faults g.W.Actor.between g.met.W.Actor.rows g.W.Actor.meanwhile c.args.txn.0 low own own' a b P c.refuse.result
    (c.refuse.ensures.goes low down keeps))
