-- Behind the job that a statement asks for it is under way still.
use Rattle.std.proofs.Common.{◌≡◌, ℕ, Some, None, List, [], ◌∷◌, ◌++◌}
use Rattle.hv_base.specs.declared.ids.JobId.{JobId}
use Rattle.hv_base.specs.declared.ids.TableId.{TableId}
use Rattle.hv_ast.specs.declared.statement.Stmt.{Stmt}
use Rattle.hv_history.specs.declared.entry.Entry.{Entry}
use Rattle.hv_history.specs.declared.entry.JobKind.{JobKind}
use Rattle.hv_stands.specs.Running.{Asking, IsNotOf, IsUnderWay}
use Rattle.hv_stands.proofs.Others.{others-leave-it}
use Rattle.hv_beginning.specs.hv_steps.specs.Ending.{job_asked}

-- it changes nobody's record
pub job-apart : (own txn : ℕ) (job : JobId) (table : TableId) (partition : List ℕ) (kind : JobKind) → IsNotOf own (job_asked txn job table partition kind)
job-apart own txn job table partition kind e = let never : None ≡ Some own = e in cc

pub job-under : (book : List Entry) (asking : Asking) (txn place : ℕ) (said : Stmt) (job : JobId) (table : TableId) (partition : List ℕ) (kind : JobKind)
    → IsUnderWay book asking txn place said [] → IsUnderWay (book ++ job_asked txn job table partition kind ∷ []) asking txn place said []
job-under book asking txn place said job table partition kind under =
    others-leave-it book (job_asked txn job table partition kind ∷ []) asking txn place said [] (job-apart txn txn job table partition kind, tt) under
