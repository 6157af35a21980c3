use Rattle.hv_acts.specs.Showing.{ShowAnswers}
use Rattle.hv_table_reader.proofs.Holds.{asked-done, asked-failed}
use Rattle.hv_table_reader.proofs.Acts.{place-reached, show-book}
use Rattle.hv_table_reader.proofs.acting.show_book.Goals as goal

pub hold-requires-clause-few : goal.hold-requires-clause-few
hold-requires-clause-few g c = g.met.W.Actor.one

pub hold-requires-clause-can : goal.hold-requires-clause-can
hold-requires-clause-can g c = λ house kept reached.
    place-reached g.D.Shelf.told g.D.Shelf.faults g.W.Actor.meanwhile g.met.W.Actor.goes_on (g.W.Actor.house c.args.actor.now) c.args.place c.requires.place house reached

pub returns-in-Ok-clause-looks : goal.returns-in-Ok-clause-looks
returns-in-Ok-clause-looks g c = λ by.
    asked-done g.D.Shelf.told g.D.Shelf.faults g.W.Actor.between g.W.Actor.meanwhile g.met.W.Actor.goes_on (g.W.Actor.own c.args.actor.now) (g.W.Actor.own c.hold.new.self)
    (g.W.Actor.house c.args.actor.now) (g.W.Actor.house c.hold.new.self) c.requires.running c.hold.result (λ a b result. ShowAnswers a c.args.place c.args.what.now result)
    c.hold.ensures.held c.hold.ensures.went c.in-Ok.shown c.in-Ok.is (λ a b has. has.running) by

pub returns-in-Ok-clause-shown : goal.returns-in-Ok-clause-shown
returns-in-Ok-clause-shown g c =
    show-book g.D.Shelf.told g.D.Shelf.faults g.W.Actor.meanwhile g.met.W.Actor.goes_on (g.W.Actor.house c.args.actor.now) (g.W.Actor.house c.hold.new.self) c.args.place
    c.args.what.now c.hold.result c.hold.ensures.held c.in-Ok.shown c.in-Ok.is

pub returns-in-Err-clause-looks : goal.returns-in-Err-clause-looks
returns-in-Err-clause-looks g c = λ by.
    let fault = c.of_house.ensures.fault in
    asked-failed g.D.Shelf.told g.D.Shelf.faults g.W.Actor.between g.W.Actor.meanwhile g.met.W.Actor.goes_on (g.W.Actor.own c.args.actor.now) (g.W.Actor.own c.hold.new.self)
    (g.W.Actor.house c.args.actor.now) (g.W.Actor.house c.hold.new.self) c.requires.running c.hold.result (λ a b result. ShowAnswers a c.args.place c.args.what.now result)
    c.hold.ensures.held c.hold.ensures.went c.in-Err.why fault.0 c.of_house.result c.in-Err.is fault.1 fault.2 (λ a b why. why) by
