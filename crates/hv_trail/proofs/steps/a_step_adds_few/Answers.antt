use Rattle.hv_trail.proofs.StepLaws.{gains-few, two-at-most, step-goes-on, shut-adds-nothing}
use Rattle.hv_trail.proofs.steps.a_step_adds_few.Goals as goal

pub returns : goal.returns
returns g c = record {
  few = gains-few;
  two = two-at-most;
  goes_on = step-goes-on g.D.Shelf.told g.D.Shelf.faults;
  shut = shut-adds-nothing g.D.Shelf.told g.D.Shelf.faults;
}
