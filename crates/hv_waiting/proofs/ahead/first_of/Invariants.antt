use Rattle.std.proofs.Common.{◌≡◌, drop}
use Rattle.hv_logic.specs.Names.{names_in}
use Rattle.hv_history.specs.State.{state_of}
use Rattle.hv_session.specs.hv_beginning.specs.hv_steps.specs.hv_table_reader.specs.hv_acts.specs.hv_telling.specs.hv_house.specs.hv_recovery.specs.hv_fits.specs.Texts.{first_among}
use Rattle.hv_waiting.specs.Queue.{ahead_among}
use Rattle.hv_waiting.proofs.ahead.first_of.Given as goal

abbrev pub invariant-loop-other : goal.invariant-loop-other
invariant-loop-other l =
    first_among (ahead_among l.own (names_in l.tree) (state_of l.book.entries).transactions) (drop l.other-index l.numbers)
    ≡ first_among (ahead_among l.own (names_in l.tree) (state_of l.book.entries).transactions) l.numbers
