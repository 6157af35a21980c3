use Rattle.std.proofs.Common.{◌≡◌}
use Rattle.hv_history.specs.declared.entry.Cause.{Cause}
use Rattle.hv_steps.proofs.Joining.{adds-none}
use Rattle.hv_steps.proofs.Aborts.{behind-goes}
use Rattle.hv_steps.proofs.refusing.refuse.Goals as goal

pub returns-in-Err-clause-goes : goal.returns-in-Err-clause-goes
returns-in-Err-clause-goes g c = λ low below keeps.
    let own = g.W.Actor.own c.args.actor.now in
    let house = g.W.Actor.house c.args.actor.now in
    behind-goes g.D.Shelf.told g.D.Shelf.faults g.W.Actor.between g.met.W.Actor.rows g.W.Actor.meanwhile low c.args.txn.0 own own
    (g.W.Actor.own c.lack_memory.new.actor) house house (g.W.Actor.house c.lack_memory.new.actor) (λ (why : Cause). why ≡ c.args.cause) c.lack_memory.result
    (adds-none g.D.Shelf.faults g.W.Actor.between g.met.W.Actor.rows own house) (c.lack_memory.ensures.goes low)
