use Rattle.hv_history.specs.State.{state_of, numbered}
use Rattle.hv_tallies.proofs.CoveredLemmas.{then-ok}
use Rattle.hv_job_acts.specs.Work.{is_lost_at, id_at}
use Rattle.hv_job_acts.proofs.Each.{one-more, none-more}
use Rattle.hv_job_acts.proofs.asking.put_lost.Goals as goal

pub returns-then-is_lost : goal.returns-then-is_lost
returns-then-is_lost c =
    let state = state_of c.args.book.now.entries in
    then-ok c.put_id.result c.put_id.ensures
    (one-more c.is_lost.result (is_lost_at state c.args.write (numbered state.tables c.args.table)) (id_at c.args.table c.args.write) c.args.ids.now.items
    c.is_lost.ensures c.put_id.new.ids.items c.if-is_lost.true)

pub returns-else-is_lost : goal.returns-else-is_lost
returns-else-is_lost c =
    let state = state_of c.args.book.now.entries in
    none-more c.is_lost.result (is_lost_at state c.args.write (numbered state.tables c.args.table)) (id_at c.args.table c.args.write) c.args.ids.now.items
    c.is_lost.ensures c.if-is_lost.false
