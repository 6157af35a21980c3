use Rattle.std.proofs.Common.{sym, ◌∙◌}
use Rattle.hv_acts.proofs.Notes.{no-true}
use Rattle.hv_acts.proofs.Commits.{commit-not-running, commit-broken}
use Rattle.hv_acts.proofs.committing.commit_writes.Goals as goal

pub returns-then-not-runs_with : goal.returns-then-not-runs_with
returns-then-not-runs_with g c = record {
  committed =
      commit-not-running g.D.Shelf.told g.D.Shelf.faults c.args.due.txn c.args.due.wrote c.args.due.name c.args.due.put c.late.result c.args.house.now
      c.requires.whole c.late.ensures.late (λ runs. no-true c.runs_with.result c.if-not-runs_with.true (c.runs_with.ensures.runs.1 runs));
  hard = c.requires.hard;
}

pub returns-in-Some : goal.returns-in-Some
returns-in-Some g c = record {
  committed =
      commit-broken g.D.Shelf.told g.D.Shelf.faults c.args.due.txn c.args.due.wrote c.args.due.name c.args.due.put c.in-Some.put c.in-Some.count
      c.args.house.now c.requires.whole (sym c.broken.ensures.broken ∙ c.in-Some.is);
  hard = c.requires.hard;
}

pub end_running-requires-clause-running : goal.end_running-requires-clause-running
end_running-requires-clause-running g c = c.runs_with.ensures.runs.0 c.if-not-runs_with.false
