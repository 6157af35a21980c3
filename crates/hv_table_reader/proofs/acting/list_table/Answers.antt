use Rattle.hv_acts.specs.Reading.{ListAnswers}
use Rattle.hv_table_reader.proofs.Holds.{listed, unlisted}
use Rattle.hv_table_reader.proofs.Acts.{reads-reached, list-refused, list-now}
use Rattle.hv_table_reader.proofs.acting.list_table.Goals as goal

pub hold-requires-clause-few : goal.hold-requires-clause-few
hold-requires-clause-few g c = g.met.W.Actor.one

pub hold-requires-clause-can : goal.hold-requires-clause-can
hold-requires-clause-can g c = λ house kept reached.
    reads-reached g.D.Shelf.told g.D.Shelf.faults g.W.Actor.meanwhile g.met.W.Actor.goes_on (g.W.Actor.house c.args.actor.now) c.args.by c.args.place
    c.args.info.now.table.0 c.requires.reads house reached

pub of_listing-requires : goal.of_listing-requires
of_listing-requires g c = record {
  lists = list-refused g.D.Shelf.told g.D.Shelf.faults g.W.Actor.meanwhile g.met.W.Actor.goes_on (g.W.Actor.house c.args.actor.now) (g.W.Actor.house c.hold.new.self)
      c.args.by c.args.place c.args.info.now c.hold.result c.hold.ensures.held c.in-Err.why c.in-Err.is;
}

pub returns-in-Ok-clause-looks : goal.returns-in-Ok-clause-looks
returns-in-Ok-clause-looks g c =
    listed g.D.Shelf.told g.D.Shelf.faults g.W.Actor.between g.W.Actor.meanwhile g.met.W.Actor.goes_on (g.W.Actor.own c.args.actor.now) (g.W.Actor.own c.hold.new.self)
    (g.W.Actor.house c.args.actor.now) (g.W.Actor.house c.hold.new.self) c.requires.running c.args.by c.hold.result
    (λ a result. ListAnswers g.D.Shelf.told a c.args.by c.args.place c.args.info.now.table result) c.hold.ensures.held c.hold.ensures.went c.in-Ok.listing c.in-Ok.is

pub returns-in-Ok-clause-listed : goal.returns-in-Ok-clause-listed
returns-in-Ok-clause-listed g c =
    list-now g.D.Shelf.told g.D.Shelf.faults g.W.Actor.meanwhile g.met.W.Actor.goes_on (g.W.Actor.house c.args.actor.now) (g.W.Actor.house c.hold.new.self) c.args.by
    c.args.place c.args.info.now c.hold.result c.hold.ensures.held c.in-Ok.listing c.in-Ok.is c.requires.reads c.requires.named

pub returns-in-Err-clause-looks : goal.returns-in-Err-clause-looks
returns-in-Err-clause-looks g c =
    unlisted g.D.Shelf.told g.D.Shelf.faults g.W.Actor.between g.W.Actor.meanwhile g.met.W.Actor.goes_on (g.W.Actor.own c.args.actor.now) (g.W.Actor.own c.hold.new.self)
    (g.W.Actor.house c.args.actor.now) (g.W.Actor.house c.hold.new.self) c.requires.running c.args.by c.hold.result
    (λ a result. ListAnswers g.D.Shelf.told a c.args.by c.args.place c.args.info.now.table result) c.hold.ensures.held c.hold.ensures.went c.in-Err.why c.of_listing.result
    c.in-Err.is
    (list-refused g.D.Shelf.told g.D.Shelf.faults g.W.Actor.meanwhile g.met.W.Actor.goes_on (g.W.Actor.house c.args.actor.now) (g.W.Actor.house c.hold.new.self)
    c.args.by c.args.place c.args.info.now c.hold.result c.hold.ensures.held c.in-Err.why c.in-Err.is)
    c.of_listing.ensures.fault
