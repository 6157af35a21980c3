use Rattle.hv_jobs.specs.hv_history.specs.State.{state_of}
use Rattle.hv_tallies.proofs.CoveredLemmas.{then-ok, put-as, put-none, names-some, names-none}
use Rattle.hv_tallies.proofs.covering.put_id.Goals as goal

pub returns-in-Some : goal.returns-in-Some
returns-in-Some c =
    then-ok c.put_own.result c.put_own.ensures
    (λ put. put-as _ _ _ _ put
    (names-some (state_of c.args.book.now.entries) c.args.table c.args.partition.now c.as_str.result.now c.args.note.now c.args.id c.in-Some.touch.now c.as_str.ensures c.in-Some.ensures))

pub returns-in-None : goal.returns-in-None
returns-in-None c =
    put-none _ _
    (names-none (state_of c.args.book.now.entries) c.args.table c.args.partition.now c.as_str.result.now c.args.note.now c.args.id c.as_str.ensures c.in-None.ensures)
