use Rattle.std.proofs.Common.{Some, None, ap, ◌∙◌}
use Rattle.hv_history.specs.State.{state_of}
use Rattle.hv_finals.specs.Finals.{works_at}
use Rattle.hv_finals.proofs.EndLemmas.{ends-as, ends-none}
use Rattle.hv_house.specs.House.{entries_of, book_limit}
use Rattle.hv_house.proofs.EndSteps.{can-name, end-is, room-one, ended-step, idle-step}
use Rattle.hv_house.proofs.house.House.end_job.Goals as goal

pub end_as-requires-clause-named : goal.end_as-requires-clause-named
end_as-requires-clause-named g c = can-name g.D.Shelf.told c.args.self.now c.requires.kept c.requires.fit

pub end_as-requires-clause-works : goal.end_as-requires-clause-works
end_as-requires-clause-works g c =
    let book = entries_of c.args.self.now in
    let how =
    ends-as c.args.whole.now (state_of book) c.args.number c.in-Some.end
    (end-is book c.book.result.now.entries c.args.whole.now c.args.number c.end_of.result (Some c.in-Some.end) c.book.ensures.entries c.in-Some.is
    c.end_of.ensures.end) in
    ap works_at how.is ∙ how.working

pub end_as-requires-clause-room : goal.end_as-requires-clause-room
end_as-requires-clause-room g c =
    let book = entries_of c.args.self.now in
    room-one book c.args.whole.now c.args.number c.in-Some.end book_limit
    (end-is book c.book.result.now.entries c.args.whole.now c.args.number c.end_of.result (Some c.in-Some.end) c.book.ensures.entries c.in-Some.is
    c.end_of.ensures.end) c.requires.room

pub returns-in-Some : goal.returns-in-Some
returns-in-Some g c = record {
  step =
      let book = entries_of c.args.self.now in
      let is =
      end-is book c.book.result.now.entries c.args.whole.now c.args.number c.end_of.result (Some c.in-Some.end) c.book.ensures.entries c.in-Some.is
      c.end_of.ensures.end in
      ended-step g.D.Shelf.told g.D.Shelf.faults g.D.Shelf.hard c.args.whole.now c.args.number c.args.self.now c.in-Some.end c.end_as.new.self c.end_as.result
      (ends-as c.args.whole.now (state_of book) c.args.number c.in-Some.end is) is c.end_as.ensures.step;
}

pub returns-in-None : goal.returns-in-None
returns-in-None g c = record {
  step =
      let book = entries_of c.args.self.now in
      let is =
      end-is book c.book.result.now.entries c.args.whole.now c.args.number c.end_of.result None c.book.ensures.entries c.in-None.is c.end_of.ensures.end in
      idle-step g.D.Shelf.told g.D.Shelf.faults g.D.Shelf.hard c.args.whole.now c.args.number c.args.self.now c.requires.kept
      (ends-none c.args.whole.now (state_of book) c.args.number is) is;
}
