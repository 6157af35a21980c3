use Rattle.std.proofs.Common.{subst}
use Rattle.hv_table_reader.specs.hv_acts.specs.hv_telling.specs.hv_house.specs.declared.fault.HouseFault.TheVariants as fault
use Rattle.hv_steps.specs.Leaving.{IsLeftBy}
use Rattle.hv_steps.specs.Phases.{NoCause}
use Rattle.hv_steps.proofs.Joining.{adds-none}
use Rattle.hv_steps.proofs.Aborts.{failed-goes}
use Rattle.hv_steps.proofs.refusing.end_failed.Goals as goal

pub lack_memory-requires-clause-running : goal.lack_memory-requires-clause-running
lack_memory-requires-clause-running g c =
    subst (IsLeftBy g.D.Shelf.told g.W.Actor.meanwhile c.args.txn.0 (g.W.Actor.house c.args.actor.now)) c.in-NoMemory.is c.requires.left

pub returns-in-Store-clause-goes : goal.returns-in-Store-clause-goes
returns-in-Store-clause-goes g c = λ low.
    let own = g.W.Actor.own c.args.actor.now in
    let house = g.W.Actor.house c.args.actor.now in
    failed-goes g.D.Shelf.told g.D.Shelf.faults g.W.Actor.between g.met.W.Actor.rows g.W.Actor.meanwhile low c.args.txn.0 own own house house NoCause
    fault.Store (adds-none g.D.Shelf.faults g.W.Actor.between g.met.W.Actor.rows own house)
    (subst (IsLeftBy g.D.Shelf.told g.W.Actor.meanwhile c.args.txn.0 house) c.in-Store.is c.requires.left) tt
