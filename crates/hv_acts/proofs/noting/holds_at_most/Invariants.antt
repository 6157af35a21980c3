use Rattle.std.proofs.Common.{◌≡◌, ◌+◌, length, drop}
use Rattle.hv_book.specs.Briefs.{held_by}
use Rattle.hv_acts.proofs.noting.holds_at_most.Given as goal

abbrev pub invariant-loop-one : goal.invariant-loop-one
invariant-loop-one l = length (held_by l.txn l.held) + l.spare ≡ l.most + length (held_by l.txn (drop l.one-index l.held))
