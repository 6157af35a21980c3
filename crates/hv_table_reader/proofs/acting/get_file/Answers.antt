use Rattle.hv_acts.specs.Reading.{GetAnswers}
use Rattle.hv_table_reader.proofs.Holds.{got, ungot}
use Rattle.hv_table_reader.proofs.Acts.{got-then, missed-then}
use Rattle.hv_table_reader.proofs.acting.get_file.Goals as goal

pub hold-requires-clause-few : goal.hold-requires-clause-few
hold-requires-clause-few g c = g.met.W.Actor.one

pub returns-in-Ok-clause-looks : goal.returns-in-Ok-clause-looks
returns-in-Ok-clause-looks g c =
    got g.D.Shelf.told g.D.Shelf.faults g.W.Actor.between g.W.Actor.meanwhile g.met.W.Actor.goes_on (g.W.Actor.own c.args.actor.now) (g.W.Actor.own c.hold.new.self)
    (g.W.Actor.house c.args.actor.now) (g.W.Actor.house c.hold.new.self) c.requires.running c.args.by c.hold.result
    (λ a result. GetAnswers g.D.Shelf.told a c.args.by c.args.place.now result) c.hold.ensures.held c.hold.ensures.went c.in-Ok.bytes _ c.in-Ok.is

pub returns-in-Ok-clause-got : goal.returns-in-Ok-clause-got
returns-in-Ok-clause-got g c = λ o steady.
    got-then g.D.Shelf.told g.D.Shelf.faults g.W.Actor.meanwhile g.met.W.Actor.goes_on (g.W.Actor.house c.args.actor.now) (g.W.Actor.house c.hold.new.self) c.args.by
    c.args.place.now c.hold.result c.hold.ensures.held o steady c.in-Ok.bytes c.in-Ok.is

pub returns-in-Err-clause-looks : goal.returns-in-Err-clause-looks
returns-in-Err-clause-looks g c =
    ungot g.D.Shelf.told g.D.Shelf.faults g.W.Actor.between g.W.Actor.meanwhile g.met.W.Actor.goes_on (g.W.Actor.own c.args.actor.now) (g.W.Actor.own c.hold.new.self)
    (g.W.Actor.house c.args.actor.now) (g.W.Actor.house c.hold.new.self) c.requires.running c.args.by c.hold.result
    (λ a result. GetAnswers g.D.Shelf.told a c.args.by c.args.place.now result) c.hold.ensures.held c.hold.ensures.went c.in-Err.why c.not_got.result c.in-Err.is
    c.not_got.ensures.missed

pub returns-in-Err-clause-got : goal.returns-in-Err-clause-got
returns-in-Err-clause-got g c = λ o steady.
    missed-then g.D.Shelf.told g.D.Shelf.faults g.W.Actor.meanwhile g.met.W.Actor.goes_on (g.W.Actor.house c.args.actor.now) (g.W.Actor.house c.hold.new.self) c.args.by
    c.args.place.now c.hold.result c.hold.ensures.held o steady c.in-Err.why c.not_got.result c.in-Err.is c.not_got.ensures.missed
