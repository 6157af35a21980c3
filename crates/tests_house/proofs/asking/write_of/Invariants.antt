use Rattle.std.proofs.Common.{◌≡◌, drop}
use Rattle.hv_book.specs.Briefs.{held_by}
use Rattle.hv_history.specs.State.{given_in}
use Rattle.tests_house.proofs.asking.write_of.Given as goal

abbrev pub invariant-loop-one : goal.invariant-loop-one
invariant-loop-one l = given_in l.table (held_by l.txn (drop l.one-index l.held)) ≡ given_in l.table (held_by l.txn l.held)
