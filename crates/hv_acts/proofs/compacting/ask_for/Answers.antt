use Rattle.std.proofs.Common.{sym, ◌∙◌}
use Rattle.hv_acts.proofs.Notes.{no-true}
use Rattle.hv_acts.proofs.Compactions.{ask-late, ask-stands}
use Rattle.hv_acts.proofs.compacting.ask_for.Goals as goal

pub returns-then-not-runs_with : goal.returns-then-not-runs_with
returns-then-not-runs_with g c = record {
  asked =
      ask-late g.D.Shelf.told g.D.Shelf.faults c.args.asked c.late.result c.args.house.now c.requires.whole c.late.ensures.late
      (λ runs. no-true c.runs_with.result c.if-not-runs_with.true (c.runs_with.ensures.runs.1 runs));
  hard = c.requires.hard;
}

pub returns-then-is_busy_then : goal.returns-then-is_busy_then
returns-then-is_busy_then g c = record {
  asked =
      ask-stands g.D.Shelf.told g.D.Shelf.faults c.args.asked c.args.house.now c.requires.whole (c.runs_with.ensures.runs.0 c.if-not-runs_with.false)
      (sym c.is_busy_then.ensures.busy ∙ c.if-is_busy_then.true);
  hard = c.requires.hard;
}

pub ask_none-requires-clause-runs : goal.ask_none-requires-clause-runs
ask_none-requires-clause-runs g c = c.runs_with.ensures.runs.0 c.if-not-runs_with.false

pub ask_none-requires-clause-full : goal.ask_none-requires-clause-full
ask_none-requires-clause-full g c = c.is_full.ensures.full.0 c.if-is_full.true

pub ask_none-requires-clause-idle : goal.ask_none-requires-clause-idle
ask_none-requires-clause-idle g c = sym c.is_busy_then.ensures.busy ∙ c.if-is_busy_then.false

pub ask_next-requires-clause-runs : goal.ask_next-requires-clause-runs
ask_next-requires-clause-runs g c = c.runs_with.ensures.runs.0 c.if-not-runs_with.false

pub ask_next-requires-clause-room : goal.ask_next-requires-clause-room
ask_next-requires-clause-room g c full = no-true c.is_full.result c.if-is_full.false (c.is_full.ensures.full.1 full)

pub ask_next-requires-clause-idle : goal.ask_next-requires-clause-idle
ask_next-requires-clause-idle g c = sym c.is_busy_then.ensures.busy ∙ c.if-is_busy_then.false
