use Rattle.hv_acts.proofs.Countings.{count-done, count-lacks}
use Rattle.hv_acts.proofs.counting.count_dues.Goals as goal

pub returns-in-Ok : goal.returns-in-Ok
returns-in-Ok g c = record {
  counted =
      count-done g.D.Shelf.told g.D.Shelf.faults c.args.place c.args.table c.args.house.now c.requires.ready c.in-Ok.dues c.book.result.now.entries c.book.ensures.entries
      c.in-Ok.ensures.dues;
}

pub returns-in-Err : goal.returns-in-Err
returns-in-Err g c = record { counted = count-lacks g.D.Shelf.told g.D.Shelf.faults c.args.place c.args.table c.args.house.now c.requires.ready }
