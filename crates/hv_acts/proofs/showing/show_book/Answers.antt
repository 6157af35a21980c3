use Rattle.hv_acts.proofs.Showings.{show-place, show-fit, show-done, show-lacks}
use Rattle.hv_acts.proofs.showing.show_book.Goals as goal

pub show_at-requires-clause-place : goal.show_at-requires-clause-place
show_at-requires-clause-place g c =
    show-place g.D.Shelf.told g.D.Shelf.faults c.args.place c.args.what.now c.args.house.now c.requires.ready c.book.result.now.entries c.book.ensures.entries c.requires.place

pub show_at-requires-clause-fit : goal.show_at-requires-clause-fit
show_at-requires-clause-fit g c =
    show-fit g.D.Shelf.told g.D.Shelf.faults c.args.place c.args.what.now c.args.house.now c.requires.ready c.book.result.now.entries c.book.ensures.entries

pub returns-in-Ok : goal.returns-in-Ok
returns-in-Ok g c = record {
  shown =
      show-done g.D.Shelf.told g.D.Shelf.faults c.args.place c.args.what.now c.args.house.now c.requires.ready c.in-Ok.shown c.book.result.now.entries
      c.book.ensures.entries c.in-Ok.ensures.shown;
}

pub returns-in-Err : goal.returns-in-Err
returns-in-Err g c = record {
  shown = show-lacks g.D.Shelf.told g.D.Shelf.faults c.args.place c.args.what.now c.args.house.now c.requires.ready;
}
