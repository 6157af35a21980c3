use Rattle.hv_acts.proofs.Notes.{no-true}
use Rattle.hv_acts.proofs.Gives.{give-late}
use Rattle.hv_acts.proofs.giving.give_id.Goals as goal

pub returns-then-not-runs_with : goal.returns-then-not-runs_with
returns-then-not-runs_with g c = record {
  given =
      give-late g.D.Shelf.told g.D.Shelf.faults c.args.txn c.args.table c.late.result c.args.house.now c.requires.whole c.late.ensures.late
      (λ runs. no-true c.runs_with.result c.if-not-runs_with.true (c.runs_with.ensures.runs.1 runs));
  hard = c.requires.hard;
}

pub give_none-requires-clause-runs : goal.give_none-requires-clause-runs
give_none-requires-clause-runs g c = c.runs_with.ensures.runs.0 c.if-not-runs_with.false

pub give_none-requires-clause-full : goal.give_none-requires-clause-full
give_none-requires-clause-full g c = c.is_full.ensures.full.0 c.if-is_full.true

pub give_next-requires-clause-runs : goal.give_next-requires-clause-runs
give_next-requires-clause-runs g c = c.runs_with.ensures.runs.0 c.if-not-runs_with.false

pub give_next-requires-clause-room : goal.give_next-requires-clause-room
give_next-requires-clause-room g c full = no-true c.is_full.result c.if-is_full.false (c.is_full.ensures.full.1 full)
