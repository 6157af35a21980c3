use Rattle.std.proofs.Common.{sym, subst, ◌≡◌, List}
use Rattle.hv_history.specs.declared.entry.Entry.{Entry}
use Rattle.hv_history.specs.State.{state_of}
use Rattle.hv_history.specs.Jobs.{due}
use Rattle.hv_job_acts.proofs.AskedLess.{lacked}
use Rattle.hv_job_acts.proofs.noting.ask_due.Goals as goal

pub ask_found-requires-clause-due : goal.ask_found-requires-clause-due
ask_found-requires-clause-due g c =
    subst (λ (book : List Entry). due (state_of book) c.args.table.0 c.args.partition.now ≡ c.in-Ok.found) c.book.ensures.entries
    (sym c.in-Ok.ensures.due)

pub returns-in-Err : goal.returns-in-Err
returns-in-Err g c = record {
  asked = lacked g.D.Shelf.told g.D.Shelf.faults c.args.house.now c.requires.whole c.args.table c.args.partition.now;
  hard = c.requires.hard;
}
