use Rattle.hv_history.specs.declared.entry.Entry.TheVariants as entry
use Rattle.hv_history.specs.declared.entry.Cause.TheVariants as cause
use Rattle.hv_actor.specs.Acting.{Untouched}
use Rattle.hv_actor.specs.Rows.{untouched_goes_on, one_of_two}
use Rattle.hv_session.specs.hv_beginning.specs.hv_steps.specs.hv_table_reader.specs.hv_acts.specs.Told.{seen_in}
use Rattle.hv_session.specs.hv_beginning.specs.hv_steps.proofs.Shorts.{short_memory}
use Rattle.hv_session.specs.hv_beginning.specs.hv_steps.proofs.Joining.{held-later, note-ends, ends-rise, act-risen}
use Rattle.tests_jobs.proofs.others.abort_now.Goals as goal

pub hold-requires-clause-can : goal.hold-requires-clause-can
hold-requires-clause-can g c = λ house kept reached. (short_memory c.args.txn.0, tt, λ told. tt, tt)

pub hold-requires-clause-few : goal.hold-requires-clause-few
hold-requires-clause-few g c = one_of_two

pub returns-clause-later : goal.returns-clause-later
returns-clause-later g c =
    let held = c.hold.ensures.held in
    let goes = untouched_goes_on g.D.Shelf.faults seen_in in
    held-later g.D.Shelf.told g.D.Shelf.faults Untouched goes c.args.house.now c.hold.new.self _ _ _ held
    (ends-rise c.hold.result _ _ (note-ends (entry.Abort c.args.txn cause.Memory) c.hold.result held.step.may))
    (act-risen g.D.Shelf.told g.D.Shelf.faults Untouched goes c.args.house.now c.hold.new.self _ c.hold.result _ c.args.txn.0 held held.does_it.1)
