use Rattle.std.proofs.Common.{Option, Some, None, refl, sym, subst}
use Rattle.hv_base.specs.declared.ids.JobId.{JobId}
use Rattle.hv_job_acts.specs.Picking.{PickedIn}
use Rattle.hv_job_acts.proofs.noting.pick_found.Goals as goal

pub returns-in-Some : goal.returns-in-Some
returns-in-Some c = record {
  picked =
      subst (λ (found : Option JobId). PickedIn c.args.book.now.entries found (Some c.picked.result)) (sym c.in-Some.is)
      (c.picked.result, refl, c.picked.ensures.picked);
}

pub returns-in-None : goal.returns-in-None
returns-in-None c = record {
  picked = subst (λ (found : Option JobId). PickedIn c.args.book.now.entries found None) (sym c.in-None.is) refl;
}
