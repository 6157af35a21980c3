use Rattle.hv_trail.proofs.StepLaws.{run-adds, run-goes-on, run-rest}
use Rattle.hv_trail.proofs.steps.steps_add_up.Goals as goal

pub returns : goal.returns
returns g c = record {
  adds = run-adds g.D.Shelf.told g.D.Shelf.faults;
  goes_on = run-goes-on g.D.Shelf.told g.D.Shelf.faults;
  rest = run-rest g.D.Shelf.told g.D.Shelf.faults;
}
