use Rattle.std.proofs.Common.{◌≡◌, ◌++◌, drop}
use Rattle.hv_merge.specs.Steps.{valid_deletes}
use Rattle.hv_merge.proofs.deletes.push_deleted.Given as goal

abbrev pub invariant-loop-rec : goal.invariant-loop-rec
invariant-loop-rec l =
    l.ids.items ++ valid_deletes l.list (drop l.rec-index l.file) ≡ l.fn.ids.items ++ valid_deletes l.list l.file
