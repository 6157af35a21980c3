use Rattle.hv_acts.proofs.ReadSteps.{find-done, find-lacks}
use Rattle.hv_acts.proofs.finding.find_table.Goals as goal

pub returns-in-Ok : goal.returns-in-Ok
returns-in-Ok g c = record {
  found = find-done g.D.Shelf.told g.D.Shelf.faults c.args.place c.args.name.now c.in-Ok.found c.args.house.now c.requires.ready c.in-Ok.ensures.found;
}

pub returns-in-Err : goal.returns-in-Err
returns-in-Err g c = record { found = find-lacks g.D.Shelf.told g.D.Shelf.faults c.args.place c.args.name.now c.args.house.now c.requires.ready }
