use Rattle.hv_house.proofs.EndSteps.{fine-calls, failed-calls}
use Rattle.hv_house.proofs.house.House.clear_dirs.Goals as goal

pub returns-in-Ok-clause-cause : goal.returns-in-Ok-clause-cause
returns-in-Ok-clause-cause g c = fine-calls _ _ _ _ _ c.clear.ensures.cause

pub returns-in-Err-clause-cause : goal.returns-in-Err-clause-cause
returns-in-Err-clause-cause g c = failed-calls c.clear.result _ _ _ _ _ c.in-Err.is c.clear.ensures.cause
