use Rattle.hv_actor.specs.Acting.{known}
use Rattle.hv_job_acts.specs.hv_acts.specs.Told.{trail_in}
use Rattle.hv_clean.proofs.Moved.{less-lack}
use Rattle.hv_clean.proofs.Forgets.{all-sweep-if}
use Rattle.hv_clean.proofs.sweeping.sweep_places.Goals as goal

pub sweep_each-requires-clause-can : goal.sweep_each-requires-clause-can
sweep_each-requires-clause-can g c =
    all-sweep-if (trail_in (g.W.Actor.house c.args.actor.now)) c.args.table c.args.live c.in-Ok.dirs.items c.requires.dropped c.in-Ok.ensures.sweepable

pub returns-in-Err-clause-less : goal.returns-in-Err-clause-less
returns-in-Err-clause-less g c = less-lack g.D.Shelf.told g.D.Shelf.faults g.W.Actor.between g.met.W.Actor.rows g.W.Actor.meanwhile (known (g.W.Actor.own c.args.actor.now) (g.W.Actor.house c.args.actor.now)) c.requires.running
