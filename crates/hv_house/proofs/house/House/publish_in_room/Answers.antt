use Rattle.std.proofs.Common.{rules}
use Rattle.hv_house.proofs.Publications.{moved-ready, published-by, stopped-by, over-hard, stop-hard}
use Rattle.hv_house.proofs.house.House.publish_in_room.Goals as goal

pub tell-requires : goal.tell-requires
tell-requires g c κs within = (
  search rules,
  (
    moved-ready g.limits g.D.Shelf.told g.D.Shelf.faults c.args.renamings.now c.args.entry c.args.self.now c.rename_all.new.shelf c.requires.1.0
        c.in-Ok.ensures.moved,
    (c.requires.1.1.0, (c.requires.1.1.1.0, (c.requires.1.1.1.1.0, c.requires.1.1.1.1.1))),
  ),
)

pub returns-in-Ok-clause-published : goal.returns-in-Ok-clause-published
returns-in-Ok-clause-published g c =
    published-by g.limits g.D.Shelf.told g.D.Shelf.faults c.args.renamings.now c.args.entry c.args.self.now c.rename_all.new.shelf c.requires.1.0
    c.in-Ok.ensures.moved c.tell.new.self c.rename_all.ensures.cause.later c.tell.result c.tell.ensures.told

pub returns-in-Err-clause-published : goal.returns-in-Err-clause-published
returns-in-Err-clause-published g c =
    stopped-by g.limits g.D.Shelf.told g.D.Shelf.faults c.args.renamings.now c.args.entry c.args.self.now c.stop_renaming.new.self
    c.rename_all.new.shelf c.requires.1.0 (Unit {0}) c.in-Err.fault g.D.Shelf.hard c.stop_renaming.result c.stop_renaming.ensures.fault c.in-Err.ensures.cut
    c.in-Err.ensures.cause c.stop_renaming.ensures.stops

pub returns-in-Ok-clause-hard : goal.returns-in-Ok-clause-hard
returns-in-Ok-clause-hard g c = over-hard _ _ _ _ _ c.rename_all.ensures.cause.hard_later c.tell.ensures.hard

pub returns-in-Err-clause-hard : goal.returns-in-Err-clause-hard
returns-in-Err-clause-hard g c =
    stop-hard (Unit {0}) g.D.Shelf.hard g.D.Shelf.faults c.in-Err.fault c.args.self.now _ c.stop_renaming.new.self c.rename_all.new.shelf
    c.requires.1.0.kept.running c.requires.1.0.kept.running c.stop_renaming.ensures.stops c.in-Err.ensures.cause c.stop_renaming.ensures.stops.shelf
