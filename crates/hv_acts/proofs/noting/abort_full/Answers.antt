use Rattle.std.proofs.Common.{ℕ, List, subst}
use Rattle.hv_history.specs.declared.entry.Cause.TheVariants as cause
use Rattle.hv_acts.specs.Answers.{aborted_line}
use Rattle.hv_acts.specs.Aborting.{AbortStep, abort_of}
use Rattle.hv_acts.proofs.Shorts.{short_full}
use Rattle.hv_acts.proofs.Aborts.{abort-lacks}
use Rattle.hv_acts.proofs.noting.abort_full.Goals as goal

pub note_abort-requires-clause-small : goal.note_abort-requires-clause-small
note_abort-requires-clause-small g c = short_full c.args.txn

pub returns-in-Ok : goal.returns-in-Ok
returns-in-Ok g c = record {
  noted =
      subst (λ (line : List ℕ). AbortStep g.D.Shelf.told g.D.Shelf.faults (abort_of c.args.txn cause.Full line) c.args.house.now c.note_abort.new.house
      c.note_abort.result)
      c.in-Ok.ensures.line c.note_abort.ensures.noted;
  hard = c.note_abort.ensures.hard;
}

pub returns-in-Err : goal.returns-in-Err
returns-in-Err g c = record {
  noted = abort-lacks g.D.Shelf.told g.D.Shelf.faults c.args.txn cause.Full (aborted_line cause.Full) c.args.house.now c.requires.whole;
  hard = c.requires.hard;
}
