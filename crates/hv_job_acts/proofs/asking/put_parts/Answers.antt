use Rattle.hv_tallies.proofs.CoveredLemmas.{then-ok}
use Rattle.hv_job_acts.proofs.Each.{parts-live, parts-dead}
use Rattle.hv_job_acts.proofs.asking.put_parts.Goals as goal

pub returns-then-is_live : goal.returns-then-is_live
returns-then-is_live c =
    then-ok c.put_touched.result c.put_touched.ensures
    (parts-live c.args.book.now.entries c.args.table c.is_live.result c.args.parts.now.items c.put_touched.new.parts.items c.is_live.ensures c.if-is_live.true)

pub returns-else-is_live : goal.returns-else-is_live
returns-else-is_live c =
    parts-dead c.args.book.now.entries c.args.table c.is_live.result c.args.parts.now.items c.is_live.ensures c.if-is_live.false
