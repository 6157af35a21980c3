use Rattle.tests_house.proofs.Facts.{touches_are}
use Rattle.tests_house.proofs.ending.commit_change.Goals as goal

pub commit_put-requires-clause-touches : goal.commit_put-requires-clause-touches
commit_put-requires-clause-touches g c = touches_are c.args.info.now c.args.effect c.in-Ok.wrote c.in-Ok.ensures
