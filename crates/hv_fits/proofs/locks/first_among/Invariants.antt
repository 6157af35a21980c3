use Rattle.std.proofs.Common.{◌≡◌, drop}
use Rattle.hv_logic.specs.Names.{names_in}
use Rattle.hv_history.specs.State.{state_of}
use Rattle.hv_fits.specs.Texts.{holds_among, first_among}
use Rattle.hv_fits.proofs.locks.first_among.Given as goal

abbrev pub invariant-loop-txn : goal.invariant-loop-txn
invariant-loop-txn l =
    first_among (holds_among (names_in l.tree) (state_of l.book.entries).transactions) (drop l.txn-index l.numbers)
    ≡ first_among (holds_among (names_in l.tree) (state_of l.book.entries).transactions) l.numbers
