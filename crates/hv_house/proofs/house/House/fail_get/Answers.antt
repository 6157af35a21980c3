use Rattle.std.proofs.Common.{refl}
use Rattle.hv_house.proofs.Hards.{last_same, last_says}
use Rattle.hv_house.proofs.house.House.fail_get.Goals as goal

pub returns-in-Failed-clause-last : goal.returns-in-Failed-clause-last
returns-in-Failed-clause-last g c = last_says _ _ _ _ c.in-Failed.is c.fail.ensures.last

pub returns-in-NoMemory-clause-last : goal.returns-in-NoMemory-clause-last
returns-in-NoMemory-clause-last g c = last_same _ _ _ _ refl
