use Rattle.std.proofs.Common.{◌≤◌, length, ap, ◌∙◌, arith, rules}
use Rattle.std.proofs.lemmas.List.{length-map}
use Rattle.hv_history.specs.State.{state_of}
use Rattle.hv_book.specs.Briefs.{brief_job}
use Rattle.hv_job_acts.specs.Work.{ready_at, ready_in}
use Rattle.hv_job_acts.proofs.Each.{each-init, each-next, each-end, no-ready}
use Rattle.hv_job_acts.proofs.asking.list_ready.Goals as goal

pub loop-i-init : goal.loop-i-init
loop-i-init c = each-init (ready_at (state_of c.args.book.now.entries)) (state_of c.args.book.now.entries).jobs c.new-jobs.result.items c.new-jobs.ensures.items

pub loop-i-preserved : goal.loop-i-preserved
loop-i-preserved c =
    let state = state_of c.args.book.now.entries in
    each-next (ready_at state) state.jobs c.loop-i.i c.loop-i.jobs.items c.put_ready.new.jobs.items (ready_in state) (no-ready state c.loop-i.i)
    c.in_ok-put_ready.ensures c.loop-i.invariant

pub returns : goal.returns
returns c =
    let state = state_of c.args.book.now.entries in
    let whole = ap length c.jobs-i-end.ensures.jobs ∙ length-map state.jobs brief_job in
    let past : length c.jobs-i-end.result.now ≤ c.loop-i.i = search rules in
    each-end (ready_at state) state.jobs c.loop-i.i c.loop-i.jobs.items (ready_in state) (omega (arith, whole, past)) c.loop-i.invariant
