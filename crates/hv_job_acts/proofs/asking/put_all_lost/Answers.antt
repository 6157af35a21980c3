use Rattle.std.proofs.Common.{◌≡◌, ◌≤◌, ◌++◌, length, arith, rules}
use Rattle.hv_history.specs.State.{state_of, numbered}
use Rattle.hv_history.specs.Jobs.{ids_of}
use Rattle.hv_job_acts.specs.Work.{lost_at, lost_of}
use Rattle.hv_job_acts.proofs.Each.{each-next, each-end}
use Rattle.hv_job_acts.proofs.Notes.{no-id}
use Rattle.hv_job_acts.proofs.asking.put_all_lost.Goals as goal

pub loop-i-preserved : goal.loop-i-preserved
loop-i-preserved c =
    let state = state_of c.args.book.now.entries in
    each-next (lost_at state c.args.table) (ids_of (numbered state.tables c.args.table)) c.loop-i.i c.loop-i.ids.items c.put_lost.new.ids.items
    (c.args.ids.now.items ++ lost_of state c.args.table) (no-id state c.args.table c.loop-i.i) c.in_ok-put_lost.ensures c.loop-i.invariant

pub returns : goal.returns
returns c =
    let state = state_of c.args.book.now.entries in
    let whole : c.given-i-end.result ≡ length (ids_of (numbered state.tables c.args.table)) = c.given-i-end.ensures in
    let past : c.given-i-end.result ≤ c.loop-i.i = search rules in
    each-end (lost_at state c.args.table) (ids_of (numbered state.tables c.args.table)) c.loop-i.i c.loop-i.ids.items
    (c.args.ids.now.items ++ lost_of state c.args.table) (omega (arith, whole, past)) c.loop-i.invariant
