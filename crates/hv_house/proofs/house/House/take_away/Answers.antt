use Rattle.std.proofs.Common.{rules, refl}
use Rattle.hv_house.proofs.Hards.{left_step, roomy_step}
use Rattle.hv_house.proofs.Removals.{idle-ends}
use Rattle.hv_house.proofs.Rooms.{marked-roomy, roomy-ready, remove-behind}
use Rattle.hv_house.proofs.house.House.take_away.Goals as goal

pub take_in_room-requires : goal.take_in_room-requires
take_in_room-requires g c κs within = (
  search rules,
  (
    roomy-ready g.limits g.D.Shelf.told c.args.self.now _
        (marked-roomy c.args.self.now c.reserve_mark.new.self c.reserve_mark.ensures.entries c.reserve_mark.ensures.marks c.reserve_mark.ensures.opened
        c.reserve_mark.ensures.closed c.reserve_mark.ensures.starved)
        c.requires.1,
    c.in-Ok.ensures.room,
  ),
)

pub returns-in-Ok-clause-removed : goal.returns-in-Ok-clause-removed
returns-in-Ok-clause-removed g c =
    remove-behind g.limits g.D.Shelf.told g.D.Shelf.faults c.args.dir c.args.self.now _ c.take_in_room.new.self
    (marked-roomy c.args.self.now c.reserve_mark.new.self c.reserve_mark.ensures.entries c.reserve_mark.ensures.marks c.reserve_mark.ensures.opened
    c.reserve_mark.ensures.closed c.reserve_mark.ensures.starved)
    c.take_in_room.result c.take_in_room.ensures.removed

pub returns-in-Ok-clause-hard : goal.returns-in-Ok-clause-hard
returns-in-Ok-clause-hard g c = roomy_step _ _ _ _ _ c.reserve_mark.ensures.closed c.take_in_room.ensures.hard

pub returns-in-Err-clause-removed : goal.returns-in-Err-clause-removed
returns-in-Err-clause-removed g c =
    idle-ends g.limits g.D.Shelf.told g.D.Shelf.faults c.args.dir c.args.self.now
    (record {
      start = c.args.self.now.start;
      shelf = c.args.self.now.shelf;
      place = c.args.self.now.place;
      buffer = c.args.self.now.buffer;
      trail = c.reserve_mark.new.self;
      limits = c.args.self.now.limits;
    })
    c.requires.1 refl refl refl c.reserve_mark.ensures.entries c.reserve_mark.ensures.marks c.reserve_mark.ensures.opened refl c.reserve_mark.ensures.closed
    c.reserve_mark.ensures.starved

pub returns-in-Err-clause-hard : goal.returns-in-Err-clause-hard
returns-in-Err-clause-hard g c = left_step (g.D.Shelf.hard c.args.self.now.shelf) _ _ c.reserve_mark.ensures.closed
