use Rattle.std.proofs.lemmas.Result.{err_from_is_err_and}
use Rattle.std.proofs.lemmas.List.{length-map}
use Rattle.std.proofs.Common.{◌≡◌, ◌≤◌, length, ap, ◌∙◌, arith, rules}
use Rattle.hv_history.specs.State.{state_of}
use Rattle.hv_book.specs.Briefs.{brief_job}
use Rattle.hv_finals.proofs.CallLemmas.{calls-kept, calls-raised}
use Rattle.hv_finals.proofs.LookLemmas.{looking-init, looking-next, looking-done}
use Rattle.hv_finals.proofs.looking.find_whole.Goals as goal

pub loop-i-init : goal.loop-i-init
loop-i-init g c =
    looking-init g.D.Shelf.told g.D.Shelf.faults g.D.Shelf.hard (state_of c.args.book.now.entries) c.args.shelf.now c.new-whole.result.items c.new-whole.ensures.items

pub loop-i-preserved : goal.loop-i-preserved
loop-i-preserved g c =
    looking-next g.D.Shelf.told g.D.Shelf.faults g.D.Shelf.hard (state_of c.args.book.now.entries) c.args.shelf.now _ c.loop-i.shelf c.look_at.new.shelf c.loop-i.i
    c.loop-i.whole.items c.look_at.new.whole.items c.loop-i.invariant c.in_ok-look_at.ensures.looked c.in_ok-look_at.ensures.same c.in_ok-look_at.ensures.cause

pub returns-in_err-look_at-clause-same : goal.returns-in_err-look_at-clause-same
returns-in_err-look_at-clause-same g c = c.in_err-look_at.ensures.same ∙ c.loop-i.invariant.same

pub returns-in_err-look_at-clause-cause : goal.returns-in_err-look_at-clause-cause
returns-in_err-look_at-clause-cause g c =
    let left = err_from_is_err_and c.from_residual.result c.from_residual.ensures.1 in
    let same : left.0 ≡ c.in_err-look_at.field-0.0 = cc (left.2) in
    calls-raised c.from_residual.result c.in_err-look_at.field-0.0 left.0 _ _ _ _ _ _ left.1 same c.loop-i.invariant.cause c.in_err-look_at.ensures.cause

pub returns-clause-whole : goal.returns-clause-whole
returns-clause-whole g c =
    let state = state_of c.args.book.now.entries in
    let whole = ap length c.jobs-i-end.ensures.jobs ∙ length-map state.jobs brief_job in
    let past : length c.jobs-i-end.result.now ≤ c.loop-i.i = search rules in
    looking-done g.D.Shelf.told g.D.Shelf.faults g.D.Shelf.hard state c.args.shelf.now c.loop-i.shelf c.loop-i.i c.loop-i.whole.items (omega (arith, whole, past))
    c.loop-i.invariant

pub returns-clause-same : goal.returns-clause-same
returns-clause-same g c = c.loop-i.invariant.same

pub returns-clause-cause : goal.returns-clause-cause
returns-clause-cause g c = calls-kept _ _ _ _ _ c.loop-i.invariant.cause
