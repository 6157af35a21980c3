use Rattle.std.proofs.Common.{rules}
use Rattle.hv_telling.specs.hv_house.specs.Steps.{seen_of}
use Rattle.hv_telling.specs.hv_house.proofs.Hards.{shuts_later}
use Rattle.hv_acts.proofs.ReadSteps.{can-list, list-done, list-failed, list-refused}
use Rattle.hv_acts.proofs.listing.list_table.Goals as goal

pub list-requires : goal.list-requires
list-requires g c κs within = (search rules, (c.requires.whole.ready, can-list c.args.house.now c.args.by c.args.place c.args.table.0 c.requires.reads))

pub returns-in-Ok : goal.returns-in-Ok
returns-in-Ok g c = record {
  listed =
      list-done g.D.Shelf.told g.D.Shelf.faults c.args.by c.args.place c.args.table c.in-Ok.listing c.args.house.now c.list.new.self c.requires.whole c.in-Ok.ensures.ready
      c.in-Ok.ensures.not_open c.in-Ok.ensures.list c.in-Ok.ensures.files c.in-Ok.ensures.step;
  hard = shuts_later g.D.Shelf.told g.D.Shelf.faults g.D.Shelf.hard _ _ (seen_of c.args.house.now) (seen_of c.list.new.self) c.list.ensures.step c.list.ensures.hard c.requires.hard;
}

pub returns-in-Err : goal.returns-in-Err
returns-in-Err g c = record {
  listed =
      list-refused g.D.Shelf.told g.D.Shelf.faults c.args.by c.args.place c.args.table c.in-Err.why c.act_fault.result c.args.house.now c.list.new.self c.act_fault.ensures.fault
      (list-failed g.D.Shelf.told g.D.Shelf.faults c.args.by c.args.place c.args.table c.in-Err.why c.args.house.now c.list.new.self c.requires.whole
      c.in-Err.ensures.asked.book c.in-Err.ensures.stays c.in-Err.ensures.cause.failed c.in-Err.ensures.not_open c.in-Err.ensures.step);
  hard = shuts_later g.D.Shelf.told g.D.Shelf.faults g.D.Shelf.hard _ _ (seen_of c.args.house.now) (seen_of c.list.new.self) c.list.ensures.step c.list.ensures.hard c.requires.hard;
}
