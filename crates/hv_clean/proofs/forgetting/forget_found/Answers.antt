use Rattle.hv_actor.specs.Acting.{known}
use Rattle.std.proofs.Common.{Option, refl, sym, subst}
use Rattle.std.specs.Prelude.{IfOk}
use Rattle.std.specs.Global.{Vec}
use Rattle.hv_shelf.specs.declared.place.Place.{Place}
use Rattle.hv_actor.specs.Acting.{among}
use Rattle.hv_clean.specs.Passing.{ids_of}
use Rattle.hv_clean.specs.Removing.{ForgetsFound}
use Rattle.hv_clean.proofs.Moved.{sweeps-none}
use Rattle.hv_clean.proofs.forgetting.forget_found.Goals as goal

pub returns-in-Some-clause-forgets : goal.returns-in-Some-clause-forgets
returns-in-Some-clause-forgets g c =
    subst (λ (found : Option (Vec Place)). IfOk c.forget_listed.result (λ done. ForgetsFound (among g.D.Shelf.told g.D.Shelf.faults g.W.Actor.between g.W.Actor.meanwhile)
    (known (g.W.Actor.own c.args.actor.now) (g.W.Actor.house c.args.actor.now)) (known (g.W.Actor.own c.forget_listed.new.actor) (g.W.Actor.house c.forget_listed.new.actor)) (ids_of c.args.table c.args.ids.now) found c.args.swept.now c.forget_listed.new.swept))
    (sym c.in-Some.is) c.forget_listed.ensures.forgets

pub returns-in-None-clause-forgets : goal.returns-in-None-clause-forgets
returns-in-None-clause-forgets g c =
    subst (λ (found : Option (Vec Place)). ForgetsFound (among g.D.Shelf.told g.D.Shelf.faults g.W.Actor.between g.W.Actor.meanwhile)
    (known (g.W.Actor.own c.args.actor.now) (g.W.Actor.house c.args.actor.now)) (known (g.W.Actor.own c.args.actor.now) (g.W.Actor.house c.args.actor.now)) (ids_of c.args.table c.args.ids.now) found c.args.swept.now c.args.swept.now)
    (sym c.in-None.is) (sweeps-none g.D.Shelf.told g.D.Shelf.faults g.W.Actor.between g.met.W.Actor.rows g.W.Actor.meanwhile (known (g.W.Actor.own c.args.actor.now) (g.W.Actor.house c.args.actor.now)) c.args.swept.now c.requires.running, refl)
