use Rattle.std.proofs.Common.{inl, inr, refl, subst}
use Rattle.hv_table_reader.specs.hv_acts.specs.hv_telling.specs.hv_house.specs.declared.fault.HouseFault.TheVariants as fault
use Rattle.hv_table_reader.specs.declared.fault.RowFault.TheVariants as row_fault
use Rattle.hv_history.specs.declared.entry.Cause.TheVariants as cause
use Rattle.hv_table_reader.specs.hv_acts.specs.Going.{faults_in}
use Rattle.hv_table_reader.specs.Tables.{RisesTo}
use Rattle.hv_steps.specs.Seeing.{IsUnseen, EndsUnseen}
use Rattle.hv_steps.proofs.Unseen.{small-read, small-memory, goes-unseen, goes-shut}
use Rattle.hv_steps.proofs.seeing.end_halted.Goals as goal

pub cut_off-requires-clause-running : goal.cut_off-requires-clause-running
cut_off-requires-clause-running g c =
    (subst (λ f. IsUnseen g.D.Shelf.told g.W.Actor.meanwhile c.args.txn (g.W.Actor.house c.args.actor.now) (row_fault.House f)) c.in-Failed.is c.requires.unseen).0

pub cut_off-requires-clause-small : goal.cut_off-requires-clause-small
cut_off-requires-clause-small g c = small-read c.args.txn.0 c.in-Failed.count

pub cut_off-requires-clause-marked : goal.cut_off-requires-clause-marked
cut_off-requires-clause-marked g c =
    (subst (λ f. IsUnseen g.D.Shelf.told g.W.Actor.meanwhile c.args.txn (g.W.Actor.house c.args.actor.now) (row_fault.House f)) c.in-Failed.is c.requires.unseen).1

pub cut_off-requires-in-NoMemory-clause-running : goal.cut_off-requires-in-NoMemory-clause-running
cut_off-requires-in-NoMemory-clause-running g c =
    subst (λ f. IsUnseen g.D.Shelf.told g.W.Actor.meanwhile c.args.txn (g.W.Actor.house c.args.actor.now) (row_fault.House f)) c.in-NoMemory.is c.requires.unseen

pub cut_off-requires-in-NoMemory-clause-small : goal.cut_off-requires-in-NoMemory-clause-small
cut_off-requires-in-NoMemory-clause-small g c = small-memory c.args.txn.0

pub returns-in-Failed-clause-goes : goal.returns-in-Failed-clause-goes
returns-in-Failed-clause-goes g c = λ low down rises.
    let before = g.W.Actor.house c.args.actor.now in
    let kept = subst (λ f. RisesTo low (faults_in g.D.Shelf.faults before) (row_fault.House f)) c.in-Failed.is rises in
    goes-unseen g.D.Shelf.told g.D.Shelf.faults g.W.Actor.between g.met.W.Actor.rows g.W.Actor.meanwhile low c.args.txn.0
    (g.W.Actor.own c.args.actor.now) (g.W.Actor.own c.cut_off.new.actor) before (g.W.Actor.house c.cut_off.new.actor)
    (cause.ReadFault c.in-Failed.count) (λ back. inr tt) c.cut_off.result (c.cut_off.ensures.goes low down kept)

pub returns-in-NoMemory-clause-goes : goal.returns-in-NoMemory-clause-goes
returns-in-NoMemory-clause-goes g c = λ low down rises.
    goes-unseen g.D.Shelf.told g.D.Shelf.faults g.W.Actor.between g.met.W.Actor.rows g.W.Actor.meanwhile low c.args.txn.0
    (g.W.Actor.own c.args.actor.now) (g.W.Actor.own c.cut_off-in-NoMemory.new.actor) (g.W.Actor.house c.args.actor.now) (g.W.Actor.house c.cut_off-in-NoMemory.new.actor)
    cause.Memory (λ back. inl refl) c.cut_off-in-NoMemory.result (c.cut_off-in-NoMemory.ensures.goes low down tt)

pub returns-in-Store-clause-goes : goal.returns-in-Store-clause-goes
returns-in-Store-clause-goes g c = λ low down rises.
    let house = g.W.Actor.house c.args.actor.now in
    goes-shut g.D.Shelf.told g.D.Shelf.faults g.W.Actor.between g.met.W.Actor.rows g.W.Actor.meanwhile low c.args.txn.0
    (g.W.Actor.own c.args.actor.now) house (EndsUnseen g.D.Shelf.told house c.args.txn.0)
    (subst (λ f. IsUnseen g.D.Shelf.told g.W.Actor.meanwhile c.args.txn house (row_fault.House f)) c.in-Store.is c.requires.unseen)
