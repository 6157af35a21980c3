use Rattle.std.proofs.Common.{refl, ap, IsErrOf}
use Rattle.hv_shelf.specs.declared.fault.ShelfFault.TheVariants as shelf
use Rattle.hv_trail.specs.Steps.{Put}
use Rattle.hv_house.specs.Steps.{outcome_of}
use Rattle.hv_house.proofs.Readings.{gains-behind}
use Rattle.hv_house.proofs.Putting.{put-ends, idle-ends, soft-store}
use Rattle.hv_house.proofs.Hards.{soft_step, left_step}
use Rattle.hv_house.proofs.house.House.put_bytes.Goals as goal

pub returns-in-Ok-clause-put : goal.returns-in-Ok-clause-put
returns-in-Ok-clause-put g c =
    put-ends g.limits g.D.Shelf.told g.D.Shelf.faults c.args.by c.args.place c.args.bytes.now c.args.self.now c.keep_put.new.self c.requires.1
    c.put-done.new.self c.put-done.result c.keep_put.result c.keep_put.ensures.shelf c.keep_put.ensures.result
    c.put-done.ensures.done c.put-done.ensures.torn c.put-done.ensures.no_memory
    (soft-store (IsErrOf c.put-done.result shelf.Failed) _ _ _ _ c.put-done.ensures.cause)
    (gains-behind (Put c.args.by c.args.place c.args.bytes.now) (outcome_of c.keep_put.result) c.args.self.now
    (record {
      start = c.args.self.now.start;
      shelf = c.put-done.new.self;
      place = c.args.self.now.place;
      buffer = c.args.self.now.buffer;
      trail = c.reserve_mark.new.self;
      limits = c.args.self.now.limits;
    })
    c.keep_put.new.self refl refl c.reserve_mark.ensures.entries c.reserve_mark.ensures.marks c.reserve_mark.ensures.opened refl c.reserve_mark.ensures.closed
    c.reserve_mark.ensures.starved (c.keep_put.ensures.gains c.args.bytes.now))

pub returns-in-Err-clause-put : goal.returns-in-Err-clause-put
returns-in-Err-clause-put g c =
    idle-ends g.limits g.D.Shelf.told g.D.Shelf.faults c.args.by c.args.place c.args.bytes.now c.args.self.now
    (record {
      start = c.args.self.now.start;
      shelf = c.args.self.now.shelf;
      place = c.args.self.now.place;
      buffer = c.args.self.now.buffer;
      trail = c.reserve_mark.new.self;
      limits = c.args.self.now.limits;
    })
    c.requires.1 refl refl refl c.reserve_mark.ensures.entries c.reserve_mark.ensures.marks c.reserve_mark.ensures.opened refl c.reserve_mark.ensures.closed
    c.reserve_mark.ensures.starved

pub returns-in-Ok-clause-hard : goal.returns-in-Ok-clause-hard
returns-in-Ok-clause-hard g c =
    soft_step (IsErrOf c.put-done.result shelf.Failed) (IsErrOf c.put-done.result shelf.Failed) _ _ _ _ _ _ _ _ (λ failed. failed) c.reserve_mark.ensures.closed
    (ap g.D.Shelf.hard c.keep_put.ensures.shelf) c.put-done.ensures.cause c.keep_put.ensures.last

pub returns-in-Err-clause-hard : goal.returns-in-Err-clause-hard
returns-in-Err-clause-hard g c = left_step (g.D.Shelf.hard c.args.self.now.shelf) _ _ c.reserve_mark.ensures.closed
