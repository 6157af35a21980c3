use Rattle.std.proofs.Common.{◌+◌, ◌≤◌, length, ap, sym, ◌∙◌, arith, rules}
use Rattle.std.proofs.lemmas.List.{length-map}
use Rattle.hv_history.specs.State.{state_of}
use Rattle.hv_book.specs.Briefs.{brief_job}
use Rattle.hv_job_calls.proofs.Notes.{waits-init, waits-next, waits-found, waits-never}
use Rattle.hv_job_calls.proofs.picking.first_waiting.Goals as goal

pub loop-i-init : goal.loop-i-init
loop-i-init c = waits-init (state_of c.args.book.now.entries)

pub loop-i-preserved : goal.loop-i-preserved
loop-i-preserved c =
    waits-next (state_of c.args.book.now.entries) c.loop-i.i c.loop-i.invariant (sym c.is_waiting.ensures ∙ c.if-is_waiting.false)

pub returns-then-is_waiting : goal.returns-then-is_waiting
returns-then-is_waiting c =
    waits-found (state_of c.args.book.now.entries) c.loop-i.i (c.loop-i.i + 1) c.loop-i.invariant (search rules) (sym c.is_waiting.ensures ∙ c.if-is_waiting.true)

pub returns : goal.returns
returns c =
    let state = state_of c.args.book.now.entries in
    let whole = ap length c.jobs-i-end.ensures.jobs ∙ length-map state.jobs brief_job in
    let past : length c.jobs-i-end.result.now ≤ c.loop-i.i = search rules in
    waits-never state c.loop-i.i c.loop-i.invariant (omega (arith, whole, past))
