use Rattle.std.proofs.Common.{ℕ, List, subst}
use Rattle.hv_history.specs.declared.entry.Cause.TheVariants as cause
use Rattle.hv_trail.specs.Kept.{trail_of}
use Rattle.hv_acts.specs.Answers.{aborted_line}
use Rattle.hv_acts.specs.Aborting.{AbortStep, abort_of}
use Rattle.hv_acts.proofs.Shorts.{short_blocked}
use Rattle.hv_acts.proofs.Aborts.{abort-lacks}
use Rattle.hv_acts.proofs.Starts.{held-true}
use Rattle.hv_acts.proofs.starting.abort_blocked.Goals as goal

pub note_abort-requires-clause-small : goal.note_abort-requires-clause-small
note_abort-requires-clause-small g c = short_blocked c.args.txn c.args.holder

pub note_abort-requires-clause-truly : goal.note_abort-requires-clause-truly
note_abort-requires-clause-truly g c told = held-true (trail_of c.args.house.now.trail) c.args.txn c.args.holder c.requires.held

pub returns-in-Ok : goal.returns-in-Ok
returns-in-Ok g c = record {
  noted =
      subst (λ (line : List ℕ). AbortStep g.D.Shelf.told g.D.Shelf.faults (abort_of c.args.txn (cause.Blocked c.args.holder) line) c.args.house.now
      c.note_abort.new.house c.note_abort.result)
      c.in-Ok.ensures.line c.note_abort.ensures.noted;
  hard = c.note_abort.ensures.hard;
}

pub returns-in-Err : goal.returns-in-Err
returns-in-Err g c = record {
  noted = abort-lacks g.D.Shelf.told g.D.Shelf.faults c.args.txn (cause.Blocked c.args.holder) (aborted_line (cause.Blocked c.args.holder)) c.args.house.now c.requires.whole;
  hard = c.requires.hard;
}
