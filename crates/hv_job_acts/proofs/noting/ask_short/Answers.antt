use Rattle.std.proofs.Common.{◌≡◌, ◌≤◌, ℕ, Some, List, length, sym, subst}
use Rattle.hv_history.specs.State.{state_of}
use Rattle.hv_history.specs.Jobs.{due}
use Rattle.hv_trail.specs.Kept.{trail_of}
use Rattle.hv_trail.specs.Trail.{book_of}
use Rattle.hv_acts.specs.hv_telling.specs.hv_house.specs.House.{entries_of}
use Rattle.hv_job_acts.specs.Answers.{ActStep}
use Rattle.hv_job_acts.specs.Asking.{most_text, call_to_ask, DuesSo}
use Rattle.hv_job_acts.proofs.AskedLess.{too-long, lacked}
use Rattle.hv_job_acts.proofs.noting.ask_short.Goals as goal

pub ask_kind-requires-clause-short : goal.ask_kind-requires-clause-short
ask_kind-requires-clause-short g c =
    subst (λ (text : List ℕ). length text ≤ most_text) (sym c.in-Ok.ensures.same) (c.is_long.ensures.short c.if-is_long.false)

pub ask_kind-requires-clause-due : goal.ask_kind-requires-clause-due
ask_kind-requires-clause-due g c =
    subst (λ (text : List ℕ). due (state_of (entries_of c.args.house.now)) c.args.table.0 text ≡ Some c.args.kind) (sym c.in-Ok.ensures.same) c.requires.due

pub returns-in-Ok : goal.returns-in-Ok
returns-in-Ok g c = record {
  asked =
      subst (λ (text : List ℕ). ActStep g.D.Shelf.told g.D.Shelf.faults
      (call_to_ask (book_of (trail_of c.args.house.now.trail)) c.args.table text c.ask_kind.result) c.args.house.now c.ask_kind.new.house
      (DuesSo (book_of (trail_of c.args.house.now.trail)) c.args.table text) c.ask_kind.result) c.in-Ok.ensures.same c.ask_kind.ensures.asked;
  hard = c.ask_kind.ensures.hard;
}

pub returns-then-is_long : goal.returns-then-is_long
returns-then-is_long g c = record {
  asked = too-long g.D.Shelf.told g.D.Shelf.faults c.args.house.now c.requires.whole c.args.table c.args.partition.now (c.is_long.ensures.long c.if-is_long.true);
  hard = c.requires.hard;
}

pub returns-in-Err : goal.returns-in-Err
returns-in-Err g c = record {
  asked = lacked g.D.Shelf.told g.D.Shelf.faults c.args.house.now c.requires.whole c.args.table c.args.partition.now;
  hard = c.requires.hard;
}
