use Rattle.std.proofs.Common.{rules}
use Rattle.hv_house.proofs.Publications.{roomless, roomless-hard}
use Rattle.hv_house.proofs.Rooms.{publish-behind, roomy-ready, roomy-fits, roomy-marked, publish-hard}
use Rattle.hv_house.proofs.house.House.publish.Goals as goal

pub publish_in_room-requires : goal.publish_in_room-requires
publish_in_room-requires g c κs within = (
  search rules,
  (
    roomy-ready g.limits g.D.Shelf.told c.args.self.now c.make_room.new.self c.make_room.ensures.same c.requires.1.0,
    (
      c.requires.1.1.0,
      (
        c.requires.1.1.1.0,
        (
          roomy-fits g.limits c.args.self.now c.make_room.new.self c.make_room.ensures.same c.args.entry c.requires.1.1.1.1.0,
          roomy-marked c.args.self.now c.make_room.new.self c.make_room.ensures.same c.args.entry c.requires.1.1.1.1.1,
        ),
      ),
    ),
  ),
)

pub returns-in-Ok-clause-published : goal.returns-in-Ok-clause-published
returns-in-Ok-clause-published g c =
    publish-behind g.limits g.D.Shelf.told g.D.Shelf.faults c.args.renamings.now c.args.entry c.args.self.now c.make_room.new.self c.publish_in_room.new.self
    c.make_room.ensures.same c.publish_in_room.result c.publish_in_room.ensures.published

pub returns-in-Err-clause-published : goal.returns-in-Err-clause-published
returns-in-Err-clause-published g c =
    roomless g.limits g.D.Shelf.told g.D.Shelf.faults c.args.renamings.now c.args.entry c.args.self.now c.make_room.new.self c.requires.1.0
    c.make_room.ensures.same

pub returns-in-Ok-clause-hard : goal.returns-in-Ok-clause-hard
returns-in-Ok-clause-hard g c =
    publish-hard g.D.Shelf.hard c.args.self.now c.make_room.new.self c.publish_in_room.new.self c.make_room.ensures.same c.publish_in_room.ensures.hard

pub returns-in-Err-clause-hard : goal.returns-in-Err-clause-hard
returns-in-Err-clause-hard g c =
    roomless-hard g.D.Shelf.hard c.args.self.now c.make_room.new.self c.make_room.ensures.same
