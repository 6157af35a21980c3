use Rattle.hv_trail.specs.Kept.{trail_of}
use Rattle.hv_acts.proofs.Truths.{job-lacks}
use Rattle.hv_acts.proofs.Compactions.{ask-aborted, ask-halted}
use Rattle.hv_acts.proofs.compacting.ask_none.Goals as goal

pub abort_full-requires-clause-truly : goal.abort_full-requires-clause-truly
abort_full-requires-clause-truly g c told = job-lacks (trail_of c.args.house.now.trail) c.args.asked c.requires.runs.0 (c.requires.truly told) c.requires.idle

pub returns-in-Ok : goal.returns-in-Ok
returns-in-Ok g c = record {
  asked =
      ask-aborted g.D.Shelf.told g.D.Shelf.faults c.args.asked c.in-Ok.aborted c.args.house.now c.abort_full.new.house c.requires.idle c.requires.runs c.requires.full
      c.in-Ok.ensures.noted;
  hard = c.abort_full.ensures.hard;
}

pub returns-in-Err : goal.returns-in-Err
returns-in-Err g c = record {
  asked = ask-halted g.D.Shelf.told g.D.Shelf.faults c.args.asked c.in-Err.fault c.args.house.now c.abort_full.new.house c.requires.full c.in-Err.ensures.noted;
  hard = c.abort_full.ensures.hard;
}
