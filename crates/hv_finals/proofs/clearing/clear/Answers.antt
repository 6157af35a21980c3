use Rattle.std.proofs.Common.{◌≡◌, true, false, true≢false, refl, sym}
use Rattle.hv_finals.proofs.CallLemmas.{calls-as}
use Rattle.hv_finals.proofs.ClearLemmas.{on-err, clearing-init, cleared-cause, clearing-next, clearing-stops, clearing-done}
use Rattle.hv_finals.proofs.clearing.clear.Goals as goal

pub loop-dir-init : goal.loop-dir-init
loop-dir-init g c = clearing-init g.D.Shelf.told g.D.Shelf.faults g.D.Shelf.hard c.args.dirs.now c.args.shelf.now

pub loop-dir-preserved : goal.loop-dir-preserved
loop-dir-preserved g c =
    clearing-next g.D.Shelf.told g.D.Shelf.faults g.D.Shelf.hard c.args.dirs.now c.args.shelf.now c.loop-dir.shelf c.remove.new.self c.loop-dir.dir-index
    c.dir-item.result c.loop-dir-test.true c.dir-item.is c.loop-dir.invariant _ c.in_ok-remove.ensures.done c.in_ok-remove.ensures.cause

pub returns-in_err-remove-clause-some : goal.returns-in_err-remove-clause-some
returns-in_err-remove-clause-some g c =
    on-err c.from_residual.result _
    (clearing-stops g.D.Shelf.told g.D.Shelf.faults g.D.Shelf.hard c.args.dirs.now c.args.shelf.now c.loop-dir.shelf c.remove.new.self c.loop-dir.dir-index
    c.dir-item.result c.loop-dir-test.true c.dir-item.is c.loop-dir.invariant c.in_err-remove.ensures.torn)

pub returns-in_err-remove-clause-cause : goal.returns-in_err-remove-clause-cause
returns-in_err-remove-clause-cause g c =
    cleared-cause g.D.Shelf.told g.D.Shelf.faults g.D.Shelf.hard c.args.dirs.now c.args.shelf.now c.loop-dir.shelf c.remove.new.self c.loop-dir.dir-index
    c.dir-item.result c.loop-dir-test.true c.dir-item.is c.loop-dir.invariant _ _ c.in_err-remove.ensures.cause (λ _. refl)

pub returns-clause-gone : goal.returns-clause-gone
returns-clause-gone g c =
    clearing-done g.D.Shelf.told g.D.Shelf.faults g.D.Shelf.hard c.args.dirs.now c.args.shelf.now c.loop-dir.shelf c.loop-dir.dir-index c.loop-dir-test.false
    c.loop-dir.auto.dir-index-end c.loop-dir.invariant

pub returns-clause-cause : goal.returns-clause-cause
returns-clause-cause g c = calls-as ⊥ (false ≡ true) _ _ _ _ (λ is. absurd (true≢false (sym is))) c.loop-dir.invariant.cause
