use Rattle.std.proofs.Common.{◌≡◌, drop}
use Rattle.hv_book.specs.Briefs.{held_by}
use Rattle.hv_meta.specs.Committing.{are_used}
use Rattle.hv_meta.proofs.committing.are_used.Given as goal

abbrev pub invariant-loop-one : goal.invariant-loop-one
invariant-loop-one l = are_used l.wrote (held_by l.txn (drop l.one-index l.held)) ≡ are_used l.wrote (held_by l.txn l.held)
