use Rattle.hv_actor.specs.Rows.{later_itself}
use Rattle.hv_session.specs.hv_beginning.specs.hv_steps.specs.hv_table_reader.specs.hv_acts.specs.Told.{seen_in}
use Rattle.tests_jobs.proofs.others.come.Goals as goal

pub loop-next-init : goal.loop-next-init
loop-next-init g c = (c.requires.keeps, later_itself g.D.Shelf.faults (seen_in c.args.house.now))
