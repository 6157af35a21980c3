use Rattle.std.proofs.Common.{◌≡◌, drop}
use Rattle.hv_book.specs.Briefs.{held_by}
use Rattle.hv_meta.specs.Committing.{are_own}
use Rattle.hv_meta.proofs.committing.are_own.Given as goal

abbrev pub invariant-loop-touch : goal.invariant-loop-touch
invariant-loop-touch l = are_own (held_by l.txn l.held) (drop l.touch-index l.wrote) ≡ are_own (held_by l.txn l.held) l.wrote
