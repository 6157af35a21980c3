use Rattle.hv_house.proofs.Raising.{looked-cause, unlooked-ends, unlooked-cause}
use Rattle.hv_house.proofs.house.House.look.Goals as goal

pub returns-in-Ok-clause-cause : goal.returns-in-Ok-clause-cause
returns-in-Ok-clause-cause g c = looked-cause c.find_whole.result c.in-Ok.whole _ _ _ _ c.find_whole.ensures.cause

pub returns-in-Err-clause-ends : goal.returns-in-Err-clause-ends
returns-in-Err-clause-ends g c = unlooked-ends c.in-Err.fault c.unlooked.result c.unlooked.ensures

pub returns-in-Err-clause-cause : goal.returns-in-Err-clause-cause
returns-in-Err-clause-cause g c =
    unlooked-cause c.find_whole.result c.in-Err.fault c.unlooked.result _ _ _ _ c.in-Err.is c.unlooked.ensures c.find_whole.ensures.cause
