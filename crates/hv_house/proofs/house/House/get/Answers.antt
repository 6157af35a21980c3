use Rattle.std.proofs.Common.{ℕ, Some}
use Rattle.std.specs.Global.{Vec}
use Rattle.hv_trail.specs.declared.trail.Reader.TheVariants.{Txn}
use Rattle.hv_house.proofs.Hards.{still_step}
use Rattle.hv_house.proofs.Listings.{needed-got, needed-found}
use Rattle.hv_house.proofs.Readings.{step-unasked}
use Rattle.hv_house.proofs.house.House.get.Goals as goal

pub returns-in-Some-clause-step : goal.returns-in-Some-clause-step
returns-in-Some-clause-step g c = step-unasked g.D.Shelf.told g.D.Shelf.faults (Some (Txn c.args.by)) c.args.self.now c.requires.1.kept.running

pub returns-in-Some-clause-hard : goal.returns-in-Some-clause-hard
returns-in-Some-clause-hard g c = still_step (g.D.Shelf.hard c.args.self.now.shelf) c.args.self.now.trail.closed

pub returns-in-Ok-Some-clause-needed : goal.returns-in-Ok-Some-clause-needed
returns-in-Ok-Some-clause-needed g c = λ deletes recs is.
    needed-got g.limits g.D.Shelf.told c.args.self.now c.args.by c.args.place.now deletes recs c.requires.1 is (λ (bytes : Vec ℕ). bytes.items) c.in-Ok-Some.field-0
    c.in-Ok-Some.bytes c.in-Ok-Some.field-0-is c.in-Ok-Some.ensures.bytes

pub returns-in-Ok-None-clause-found : goal.returns-in-Ok-None-clause-found
returns-in-Ok-None-clause-found g c = λ deletes recs is missed.
    needed-found g.limits g.D.Shelf.told c.args.self.now c.args.by c.args.place.now deletes recs c.requires.1 is (λ (bytes : Vec ℕ). bytes.items) c.in-Ok-None.field-0
    c.in-Ok-None.field-0-is c.in-Ok-None.ensures.bytes
