use Rattle.std.proofs.Common.{refl, ap}
use Rattle.std.specs.Prelude.{IsErr}
use Rattle.hv_house.specs.declared.house.House.{House}
use Rattle.hv_house.proofs.Hards.{soft_remove, fine_step}
use Rattle.hv_house.proofs.Removals.{removal-failed, removed-ends, torn-ends, kept-gains, removed-gains}
use Rattle.hv_house.proofs.house.House.take_in_room.Goals as goal

pub returns-in-Ok-clause-removed : goal.returns-in-Ok-clause-removed
returns-in-Ok-clause-removed g c =
    let now : House g.row.D.Denot = record {
      start = c.args.self.now.start;
      shelf = c.remove.new.self;
      place = c.args.self.now.place;
      buffer = c.args.self.now.buffer;
      trail = c.mark.new.self;
      limits = c.args.self.now.limits;
    } in
    removed-ends g.limits g.D.Shelf.told g.D.Shelf.faults c.args.dir c.args.self.now now c.requires.1.0 tt c.in-Ok.ensures.done c.remove.ensures.cause.later
    (removed-gains g.limits g.D.Shelf.told g.D.Shelf.faults c.args.dir c.args.self.now now c.requires.1.0 refl refl c.mark.ensures.entries c.mark.ensures.opened refl
    c.mark.ensures.trail c.mark.ensures.closed c.mark.ensures.starved)

pub returns-in-Err-clause-removed : goal.returns-in-Err-clause-removed
returns-in-Err-clause-removed g c =
    let mid : House g.row.D.Denot = record {
      start = c.args.self.now.start;
      shelf = c.remove.new.self;
      place = c.args.self.now.place;
      buffer = c.args.self.now.buffer;
      trail = c.args.self.now.trail;
      limits = c.args.self.now.limits;
    } in
    torn-ends g.limits g.D.Shelf.told g.D.Shelf.faults c.args.dir c.args.self.now c.fail.new.self c.requires.1.0 c.remove.new.self c.fail.result
    c.fail.ensures.kept.shelf c.fail.ensures.fault c.in-Err.ensures.torn c.remove.ensures.cause.later (c.remove.ensures.cause.failed (removal-failed c.remove.result c.in-Err.is))
    (kept-gains g.limits g.D.Shelf.told g.D.Shelf.faults c.args.dir c.args.self.now c.fail.new.self c.requires.1.0 c.fail.result mid
    refl refl refl refl refl refl refl refl c.fail.ensures.kept)

pub returns-in-Ok-clause-hard : goal.returns-in-Ok-clause-hard
returns-in-Ok-clause-hard g c = fine_step _ _ _ _ _ _ _ c.mark.ensures.closed c.remove.ensures.cause

pub returns-in-Err-clause-hard : goal.returns-in-Err-clause-hard
returns-in-Err-clause-hard g c =
    soft_remove (IsErr c.remove.result) _ _ _ _ _ _ _ (removal-failed c.remove.result c.in-Err.is) (ap g.D.Shelf.hard c.fail.ensures.kept.shelf) c.remove.ensures.cause c.fail.ensures.last
