use Rattle.std.proofs.Common.{◌≡◌, ◌++◌, length}
use Rattle.hv_merge.specs.Steps.{valid_rows, kept_run, gone_after, run_of, rest_of}
use Rattle.hv_merge.proofs.merging.move_run.Given as goal

abbrev pub invariant-loop-rec : goal.invariant-loop-rec
invariant-loop-rec l = record {
  rows : l.rows.items ++ kept_run l.gone (valid_rows l.list (run_of l.others l.head.items))
      ≡ l.fn.rows.items ++ kept_run l.deleted (valid_rows l.list (run_of l.others l.fn.head.items));
  head : rest_of l.others l.head.items ≡ rest_of l.others l.fn.head.items;
  gone : gone_after l.gone (valid_rows l.list (run_of l.others l.head.items))
      ≡ gone_after l.deleted (valid_rows l.list (run_of l.others l.fn.head.items));
}

abbrev pub decreases-loop-rec : goal.decreases-loop-rec
decreases-loop-rec l = length l.head.items
