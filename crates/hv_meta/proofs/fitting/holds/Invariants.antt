use Rattle.std.proofs.Common.{◌≡◌, drop}
use Rattle.hv_book.specs.Briefs.{held_by}
use Rattle.hv_meta.specs.States.{is_held}
use Rattle.hv_meta.proofs.fitting.holds.Given as goal

abbrev pub invariant-loop-one : goal.invariant-loop-one
invariant-loop-one l = is_held l.table (held_by l.txn (drop l.one-index l.held)) ≡ is_held l.table (held_by l.txn l.held)
