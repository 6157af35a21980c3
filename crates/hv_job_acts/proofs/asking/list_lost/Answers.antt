use Rattle.std.proofs.Common.{◌≤◌, length, ap, ◌∙◌, arith, rules}
use Rattle.std.proofs.lemmas.List.{length-map}
use Rattle.hv_history.specs.State.{state_of}
use Rattle.hv_book.specs.Briefs.{brief_table}
use Rattle.hv_job_acts.specs.Work.{lost_of, lost_in}
use Rattle.hv_job_acts.proofs.Each.{each-init, each-next, each-end, no-lost}
use Rattle.hv_job_acts.proofs.asking.list_lost.Goals as goal

pub loop-i-init : goal.loop-i-init
loop-i-init c = each-init (lost_of (state_of c.args.book.now.entries)) (state_of c.args.book.now.entries).tables c.new-ids.result.items c.new-ids.ensures.items

pub loop-i-preserved : goal.loop-i-preserved
loop-i-preserved c =
    let state = state_of c.args.book.now.entries in
    each-next (lost_of state) state.tables c.loop-i.i c.loop-i.ids.items c.put_all_lost.new.ids.items (lost_in state) (no-lost state c.loop-i.i)
    c.in_ok-put_all_lost.ensures c.loop-i.invariant

pub returns : goal.returns
returns c =
    let state = state_of c.args.book.now.entries in
    let whole = ap length c.tables-i-end.ensures.tables ∙ length-map state.tables brief_table in
    let past : length c.tables-i-end.result.now ≤ c.loop-i.i = search rules in
    each-end (lost_of state) state.tables c.loop-i.i c.loop-i.ids.items (lost_in state) (omega (arith, whole, past)) c.loop-i.invariant
