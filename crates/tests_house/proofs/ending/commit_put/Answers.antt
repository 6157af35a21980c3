use Rattle.hv_trail.specs.Kept.{trail_of}
use Rattle.hv_session.specs.hv_beginning.specs.hv_steps.specs.hv_table_reader.specs.hv_acts.specs.hv_telling.specs.hv_house.specs.House.{entries_of}
use Rattle.tests_house.proofs.Facts.{short_change}
use Rattle.tests_house.proofs.Commits.{can_commit}
use Rattle.tests_house.proofs.ending.commit_put.Goals as goal

pub commit-requires-clause-small : goal.commit-requires-clause-small
commit-requires-clause-small g c = short_change c.args.txn c.args.info.now c.args.effect c.args.wrote c.requires.touches

pub commit-requires-clause-can : goal.commit-requires-clause-can
commit-requires-clause-can g c =
    can_commit (entries_of c.args.house.now) (trail_of c.args.house.now.trail) c.args.txn c.args.info.now c.args.effect c.args.write.0 c.args.wrote
    c.in_ok-files.files.items c.requires.table c.requires.touches c.in_ok-files.ensures.files (c.in_ok-done.ensures c.if-not-done.false)
