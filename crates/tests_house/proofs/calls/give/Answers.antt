use Rattle.std.proofs.Common.{rules}
use Rattle.hv_session.specs.hv_beginning.specs.hv_steps.specs.hv_table_reader.specs.hv_acts.specs.hv_telling.specs.hv_house.specs.House.{entries_of}
use Rattle.tests_house.proofs.Rooms.{can_be_given, refused_open}
use Rattle.tests_house.proofs.calls.give.Goals as goal

pub write_id-requires : goal.write_id-requires
write_id-requires g c κs within =
    let can =
    can_be_given _ c.book.result.now.entries (entries_of c.args.house.now) c.args.txn.0 c.args.table.0 c.in-Some.write.0 c.book.ensures.entries
    (c.given_fits.ensures.fits.0 c.if-not-given_fits.false) in
    (search rules, (c.requires.ready, can))

pub returns-in-Ok : goal.returns-in-Ok
returns-in-Ok g c = record { ready = c.in-Ok.ensures.step.ready }

pub returns-in-Err : goal.returns-in-Err
returns-in-Err g c = record {
  ready = refused_open c.args.house.now.limits g.D.Shelf.told c.in-Err.why c.write_id.new.self c.refusal.result c.in-Err.ensures.step.stays c.refusal.ensures.refused;
}
