use Rattle.hv_acts.specs.hv_telling.specs.hv_house.specs.Steps.{seen_of}
use Rattle.hv_acts.specs.hv_telling.specs.hv_house.proofs.Hards.{shuts_later}
use Rattle.hv_job_acts.proofs.Stagings.{final-of, file-of, staged, unstaged}
use Rattle.hv_job_acts.proofs.staging.stage_at.Goals as goal

pub stage_put-requires-clause-among : goal.stage_put-requires-clause-among
stage_put-requires-clause-among g c = final-of c.args.house.now c.args.job c.args.name.now c.requires.works c.requires.among

pub stage_put-requires-clause-truly : goal.stage_put-requires-clause-truly
stage_put-requires-clause-truly g c = λ is_told.
    file-of c.args.house.now c.args.job c.args.name.now c.args.bucket c.args.bytes.now c.requires.works c.requires.among (c.requires.truly is_told)

pub returns-in-Some : goal.returns-in-Some
returns-in-Some g c = record {
  staged =
      staged g.D.Shelf.told g.D.Shelf.faults c.args.house.now c.stage_put.new.house c.requires.whole c.args.job c.args.name.now c.args.bucket c.args.bytes.now
      c.requires.works c.in-Some.place c.args.place c.in-Some.is c.requires.place c.stage_put.result c.with_place.result c.with_place.ensures
      c.stage_put.ensures.step c.stage_put.ensures.gone c.stage_put.ensures.others;
  hard =
      shuts_later g.D.Shelf.told g.D.Shelf.faults g.D.Shelf.hard _ _ (seen_of c.args.house.now) (seen_of c.stage_put.new.house) c.stage_put.ensures.step.step
      c.stage_put.ensures.hard c.requires.hard;
}

pub returns-in-None : goal.returns-in-None
returns-in-None g c = record {
  staged =
      unstaged g.D.Shelf.told g.D.Shelf.faults c.args.house.now c.args.house.now c.requires.whole c.args.job c.args.name.now c.args.bucket c.args.bytes.now;
  hard = c.requires.hard;
}
