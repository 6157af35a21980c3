use Rattle.hv_actor.specs.Acting.{known}
use Rattle.hv_clean.specs.Stopping.{refusal_of}
use Rattle.hv_clean.proofs.Ended.{note-done, note-behind, note-refused}
use Rattle.hv_clean.proofs.Turns.{refused-less}
use Rattle.hv_clean.proofs.cleaning.note_cleaned.Goals as goal

pub hold-requires-clause-few : goal.hold-requires-clause-few
hold-requires-clause-few g c = g.met.W.Actor.one

pub returns-in-Ok-clause-ends : goal.returns-in-Ok-clause-ends
returns-in-Ok-clause-ends g c =
    note-done g.D.Shelf.told g.D.Shelf.faults g.W.Actor.between g.met.W.Actor.rows g.W.Actor.meanwhile g.met.W.Actor.goes_on c.args.job (g.W.Actor.own c.args.actor.now) (g.W.Actor.own c.hold.new.self) (g.W.Actor.house c.args.actor.now) (g.W.Actor.house c.hold.new.self) c.requires.running c.hold.result c.args.swept.now
    c.count_cleaned.result c.in-Ok.is c.count_cleaned.ensures c.hold.ensures.held c.hold.ensures.went (g.met.W.Actor.kept c.hold.new.self c.hold.ensures.keeps)

pub returns-in-Err-clause-ends : goal.returns-in-Err-clause-ends
returns-in-Err-clause-ends g c =
    note-refused g.D.Shelf.told g.D.Shelf.faults g.W.Actor.between g.met.W.Actor.rows g.W.Actor.meanwhile g.met.W.Actor.goes_on c.args.job (g.W.Actor.own c.args.actor.now) (g.W.Actor.own c.hold.new.self) (g.W.Actor.house c.args.actor.now) (g.W.Actor.house c.hold.new.self) c.requires.running c.hold.result c.in-Err.why
    c.args.swept.now c.counted_held.result c.refusal_of-why.result c.unless_stopped.result c.in-Err.is c.hold.ensures.held c.hold.ensures.went c.refusal_of-why.ensures
    c.counted_held.ensures c.unless_stopped.ensures

pub returns-in-Err-clause-less : goal.returns-in-Err-clause-less
returns-in-Err-clause-less g c =
    refused-less g.D.Shelf.told g.D.Shelf.faults g.W.Actor.between g.W.Actor.meanwhile g.met.W.Actor.goes_on (known (g.W.Actor.own c.args.actor.now) (g.W.Actor.house c.args.actor.now)) (known (g.W.Actor.own c.hold.new.self) (g.W.Actor.house c.hold.new.self))
    c.args.swept.now c.args.swept.now (refusal_of c.in-Err.why) c.refusal_of-why.result c.unless_stopped.result c.refusal_of-why.ensures c.unless_stopped.ensures
    (note-behind g.D.Shelf.told g.D.Shelf.faults g.W.Actor.between g.met.W.Actor.rows g.W.Actor.meanwhile g.met.W.Actor.goes_on c.args.job (g.W.Actor.own c.args.actor.now) (g.W.Actor.own c.hold.new.self) (g.W.Actor.house c.args.actor.now) (g.W.Actor.house c.hold.new.self) c.requires.running c.hold.result c.in-Err.why
    c.args.swept.now c.in-Err.is c.hold.ensures.held c.hold.ensures.went)
