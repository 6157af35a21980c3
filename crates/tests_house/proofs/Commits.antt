-- What the Commit of a change rests on.
use Rattle.std.proofs.Common.{◌≡◌, ℕ, inr, List, subst}
use Rattle.hv_base.specs.declared.ids.TxnId.{TxnId}
use Rattle.hv_base.specs.declared.ids.Touch.{Touch}
use Rattle.hv_logic.specs.declared.catalog.TableInfo.{TableInfo}
use Rattle.hv_logic.specs.declared.effect.Effect.{Effect}
use Rattle.hv_route.specs.Routes.{files_of}
use Rattle.hv_route.specs.declared.files.OutFile.{OutFile}
use Rattle.hv_history.specs.declared.entry.Entry.{Entry}
use Rattle.hv_trail.specs.declared.trail.TrailItem.{TrailItem}
use Rattle.hv_session.specs.hv_beginning.specs.hv_steps.specs.hv_table_reader.specs.hv_acts.specs.hv_telling.specs.hv_house.specs.Steps.{CanCommit}
use Rattle.tests_house.specs.Asking.{IsTable, AreTouches, AreFilesPut, IsDone}

pub can_commit : (book : List Entry) (trail : List TrailItem) (txn : TxnId) (info : TableInfo) (effect : Effect) (write : ℕ) (wrote : List Touch) (files : List OutFile)
    → IsTable book info → AreTouches info effect wrote → files ≡ files_of info.shape write 0 effect → IsDone book trail txn info.table.0 write files
    → CanCommit book trail txn wrote
can_commit book trail txn info effect write wrote files table touches files_are done = record {
  unbroken = done.unbroken;
  put = inr (record {
    info = info;
    table = table.table;
    here = table.here;
    same = table.same;
    effect = effect;
    write = write;
    touches = touches.is;
    holds = done.holds;
    files = subst (AreFilesPut trail txn info.table.0 write) files_are done.put;
  });
}
