use Rattle.hv_house.proofs.Hards.{last_same, last_failed}
use Rattle.hv_house.proofs.house.House.keep_put.Goals as goal

pub returns-in-Err-clause-gains : goal.returns-in-Err-clause-gains
returns-in-Err-clause-gains g c = λ bytes. c.fail_put.ensures.gains c.args.place bytes

pub returns-in-Ok-clause-last : goal.returns-in-Ok-clause-last
returns-in-Ok-clause-last g c = last_same _ _ _ _ c.mark.ensures.closed

pub returns-in-Err-clause-last : goal.returns-in-Err-clause-last
returns-in-Err-clause-last g c = last_failed _ _ _ _ _ c.in-Err.is c.fail_put.ensures.last
