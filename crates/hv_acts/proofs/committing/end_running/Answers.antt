use Rattle.std.proofs.Common.{List, sym, subst}
use Rattle.hv_history.specs.declared.entry.Entry.{Entry}
use Rattle.hv_history.specs.State.{state_of}
use Rattle.hv_history.specs.Legal.{Of, IsRunning}
use Rattle.hv_acts.proofs.Notes.{no-true}
use Rattle.hv_acts.proofs.Puts.{runs-book}
use Rattle.hv_acts.proofs.Commits.{clash-trail, clear-trail, commit-late}
use Rattle.hv_acts.proofs.committing.end_running.Goals as goal

pub returns-then-not-is_put : goal.returns-then-not-is_put
returns-then-not-is_put g c = record {
  committed =
      commit-late g.D.Shelf.told g.D.Shelf.faults c.args.due.txn c.args.due.wrote c.args.due.name c.args.due.put c.late.result c.args.house.now
      c.requires.whole c.late.ensures.late (λ is. no-true c.is_put.result c.if-not-is_put.true (c.is_put.ensures.put.1 is.put));
  hard = c.requires.hard;
}

pub clash-requires : goal.clash-requires
clash-requires g c = record {
  running =
      subst (λ (book : List Entry). Of (state_of book) c.args.due.txn.0 IsRunning) (sym c.book.ensures.entries)
      (runs-book c.args.house.now c.args.due.txn c.requires.running.0);
}

pub end_by_conflict-requires-clause-clash : goal.end_by_conflict-requires-clause-clash
end_by_conflict-requires-clause-clash g c =
    clash-trail c.args.house.now c.args.due.txn c.book.result.now.entries c.as_slice.result.now c.args.due.wrote c.in-Some.found c.book.ensures.entries
    c.as_slice.ensures c.in-Some.ensures.found

pub end_by_commit-requires-clause-clear : goal.end_by_commit-requires-clause-clear
end_by_commit-requires-clause-clear g c =
    clear-trail c.args.house.now c.args.due.txn c.book.result.now.entries c.as_slice.result.now c.args.due.wrote c.book.ensures.entries
    c.as_slice.ensures c.in-None.ensures.none
