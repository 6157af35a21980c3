use Rattle.std.proofs.Common.{inl, sym, subst}
use Rattle.hv_actor.specs.Acting.{among, known}
use Rattle.hv_compact.specs.declared.fault.RunFault.{RunFault}
use Rattle.hv_compact.specs.declared.fault.RunFault.TheVariants as run
use Rattle.hv_compact.specs.Ending.{EndsLess, IsLeftBy}
use Rattle.hv_compact.proofs.Adds.{adds-none}
use Rattle.hv_compact.proofs.Ends.{less-now}
use Rattle.hv_compact.proofs.compacting.give_up_else.Goals as goal

pub returns-in-Broken-clause-less : goal.returns-in-Broken-clause-less
returns-in-Broken-clause-less g c =
    let a = (known (g.W.Actor.own c.args.actor.now) (g.W.Actor.house c.args.actor.now)) in
    less-now g.D.Shelf.told g.D.Shelf.faults g.W.Actor.between g.W.Actor.meanwhile g.met.W.Actor.rows c.args.job a a run.NoMemory (adds-none g.D.Shelf.faults g.W.Actor.between g.met.W.Actor.rows a)
    (inl (subst (IsLeftBy (among g.D.Shelf.told g.D.Shelf.faults g.W.Actor.between g.W.Actor.meanwhile) c.args.job (g.W.Actor.house c.args.actor.now)) c.in-Broken.is c.requires.left))

pub returns-in-Call-clause-less : goal.returns-in-Call-clause-less
returns-in-Call-clause-less g c =
    let a = (known (g.W.Actor.own c.args.actor.now) (g.W.Actor.house c.args.actor.now)) in
    subst (λ (why : RunFault). EndsLess (among g.D.Shelf.told g.D.Shelf.faults g.W.Actor.between g.W.Actor.meanwhile) c.args.job a a why) (sym c.act_run.ensures)
    (less-now g.D.Shelf.told g.D.Shelf.faults g.W.Actor.between g.W.Actor.meanwhile g.met.W.Actor.rows c.args.job a a _ (adds-none g.D.Shelf.faults g.W.Actor.between g.met.W.Actor.rows a)
    (subst (IsLeftBy (among g.D.Shelf.told g.D.Shelf.faults g.W.Actor.between g.W.Actor.meanwhile) c.args.job (g.W.Actor.house c.args.actor.now)) c.in-Call.is c.requires.left))
