use Rattle.std.proofs.Common.{◌≡◌, drop}
use Rattle.std.specs.List.{list_any}
use Rattle.hv_book.specs.hv_history.specs.Legal.{deletes_in}
use Rattle.hv_meta.proofs.committing.any_deletes.Given as goal

abbrev pub invariant-loop-touch : goal.invariant-loop-touch
invariant-loop-touch l = list_any (deletes_in l.table l.partition) (drop l.touch-index l.wrote) ≡ list_any (deletes_in l.table l.partition) l.wrote
