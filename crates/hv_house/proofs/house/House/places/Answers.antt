use Rattle.std.proofs.Common.{ap}
use Rattle.hv_house.proofs.Hards.{failed_step, fine_step, left_step}
use Rattle.hv_house.proofs.house.House.places.Goals as goal

pub returns-in_err-reserve_mark-clause-hard : goal.returns-in_err-reserve_mark-clause-hard
returns-in_err-reserve_mark-clause-hard g c = left_step (g.D.Shelf.hard c.args.self.now.shelf) _ _ c.reserve_mark.ensures.closed

pub returns-in-Ok-clause-hard : goal.returns-in-Ok-clause-hard
returns-in-Ok-clause-hard g c = fine_step _ _ _ _ _ _ _ c.reserve_mark.ensures.closed c.list.ensures.cause

pub returns-in-Err-clause-hard : goal.returns-in-Err-clause-hard
returns-in-Err-clause-hard g c =
    failed_step c.list.result c.in-Err.fault _ _ _ _ _ _ _ _ c.in-Err.is c.reserve_mark.ensures.closed (ap g.D.Shelf.hard c.fail_get.ensures.shelf) c.list.ensures.cause
    c.fail_get.ensures.last
