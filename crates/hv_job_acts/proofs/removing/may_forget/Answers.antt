use Rattle.hv_history.specs.State.{state_of, numbered}
use Rattle.hv_job_acts.proofs.Aborted.{lost-may, dead-may}
use Rattle.hv_job_acts.proofs.removing.may_forget.Goals as goal

pub returns-then-is_live : goal.returns-then-is_live
returns-then-is_live c = record {
  may =
      lost-may (state_of c.args.book.now.entries) c.args.write.0 (numbered (state_of c.args.book.now.entries).tables c.args.table.0) c.is_live.result
      c.is_lost.result c.is_live.ensures c.if-is_live.true c.is_lost.ensures;
}

pub returns-else-is_live : goal.returns-else-is_live
returns-else-is_live c = record {
  may = dead-may (state_of c.args.book.now.entries) c.args.table.0 c.args.write.0 c.is_live.result c.is_live.ensures c.if-is_live.false;
}
