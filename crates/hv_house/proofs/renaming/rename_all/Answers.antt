use Rattle.hv_house.proofs.Renamed.{renaming-init, renaming-next, renaming-cut, renaming-cause, renaming-done, renaming-fine}
use Rattle.hv_house.proofs.renaming.rename_all.Goals as goal

pub loop-renaming-init : goal.loop-renaming-init
loop-renaming-init g c = renaming-init g.D.Shelf.told g.D.Shelf.faults g.D.Shelf.hard c.args.renamings.now c.args.shelf.now

pub loop-renaming-preserved : goal.loop-renaming-preserved
loop-renaming-preserved g c =
    renaming-next g.D.Shelf.told g.D.Shelf.faults g.D.Shelf.hard c.args.renamings.now c.args.shelf.now c.loop-renaming.shelf c.rename.new.self
    c.loop-renaming.renaming-index c.renaming-item.result c.loop-renaming.begun c.loop-renaming-test.true c.renaming-item.is c.loop-renaming.invariant _
    c.in-Ok.ensures.done c.rename.ensures.cause

pub returns-in-Err-clause-cut : goal.returns-in-Err-clause-cut
returns-in-Err-clause-cut g c =
    renaming-cut g.D.Shelf.told g.D.Shelf.faults g.D.Shelf.hard c.args.renamings.now c.args.shelf.now c.loop-renaming.shelf c.rename.new.self
    c.loop-renaming.renaming-index c.renaming-item.result c.loop-renaming.begun c.loop-renaming-test.true c.renaming-item.is c.loop-renaming.invariant
    c.rename.result c.in-Err.why c.in-Err.is c.rename.ensures.torn c.rename.ensures.no_memory

pub returns-in-Err-clause-cause : goal.returns-in-Err-clause-cause
returns-in-Err-clause-cause g c =
    renaming-cause g.D.Shelf.told g.D.Shelf.faults g.D.Shelf.hard c.args.renamings.now c.args.shelf.now c.loop-renaming.shelf c.rename.new.self
    c.loop-renaming.renaming-index c.renaming-item.result c.loop-renaming.begun c.loop-renaming-test.true c.renaming-item.is c.loop-renaming.invariant
    c.rename.result c.in-Err.why c.in-Err.is c.rename.ensures.cause

pub returns-clause-moved : goal.returns-clause-moved
returns-clause-moved g c =
    renaming-done g.D.Shelf.told g.D.Shelf.faults g.D.Shelf.hard c.args.renamings.now c.args.shelf.now c.loop-renaming.shelf c.loop-renaming.renaming-index
    c.loop-renaming.begun c.loop-renaming-test.false c.loop-renaming.auto.renaming-index-end c.loop-renaming.invariant

pub returns-clause-cause : goal.returns-clause-cause
returns-clause-cause g c =
    renaming-fine g.D.Shelf.told g.D.Shelf.faults g.D.Shelf.hard c.args.renamings.now c.args.shelf.now c.loop-renaming.shelf _ c.loop-renaming.begun tt
    c.loop-renaming.invariant
