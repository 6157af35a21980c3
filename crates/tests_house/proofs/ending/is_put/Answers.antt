use Rattle.std.proofs.Common.{◌≡◌, List, true, subst}
use Rattle.std.specs.Prelude.{IfOk}
use Rattle.hv_route.specs.declared.files.OutFile.{OutFile}
use Rattle.hv_trail.specs.Kept.{trail_of}
use Rattle.hv_session.specs.hv_beginning.specs.hv_steps.specs.hv_table_reader.specs.hv_acts.specs.hv_telling.specs.hv_house.specs.House.{entries_of}
use Rattle.tests_house.specs.Asking.{IsDone}
use Rattle.tests_house.proofs.ending.is_put.Goals as goal

pub returns : goal.returns
returns g c =
    subst
    (λ (files : List OutFile).
    IfOk c.is_done-done.result
    (λ done. done ≡ true → IsDone (entries_of c.args.house.now) (trail_of c.args.house.now.trail) c.args.txn c.args.table.0 c.args.write.0 files))
    c.deref.ensures.value c.is_done-done.ensures
