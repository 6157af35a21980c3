use Rattle.hv_actor.specs.Acting.{IsLater}
use Rattle.hv_session.specs.hv_beginning.specs.hv_steps.specs.hv_table_reader.specs.hv_acts.specs.Told.{seen_in}
use Rattle.tests_jobs.specs.Keeping.{IsAsKept}
use Rattle.tests_jobs.proofs.others.come.Given as goal

abbrev pub invariant-loop-next : goal.invariant-loop-next
invariant-loop-next g l =
    IsAsKept g.D.Shelf.told g.D.Shelf.hard l.house × IsLater g.D.Shelf.faults (seen_in l.initial.house) (seen_in l.house)
