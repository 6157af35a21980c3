use Rattle.std.proofs.Common.{rules}
use Rattle.hv_session.specs.hv_beginning.specs.hv_steps.specs.hv_table_reader.specs.hv_acts.specs.hv_telling.specs.hv_house.specs.House.{entries_of}
use Rattle.tests_house.proofs.Rooms.{can_drop_late, refused_open}
use Rattle.tests_house.proofs.calls.drop_table.Goals as goal

pub drop_table-requires : goal.drop_table-requires
drop_table-requires g c κs within =
    let can =
    can_drop_late c.book-book.result.now.entries (entries_of c.args.house.now) c.args.txn.0 c.args.table.0 c.in-Some.field-0 c.is_unended.result c.book-book.ensures.entries
    c.in-Some.ensures.note c.is_unended.ensures.unended c.if-is_unended.false in
    (search rules, (c.requires.ready, can))

pub returns-in-Ok : goal.returns-in-Ok
returns-in-Ok g c = record { ready = c.in-Ok.ensures.step.ready }

pub returns-in-Err : goal.returns-in-Err
returns-in-Err g c = record {
  ready = refused_open c.args.house.now.limits g.D.Shelf.told c.in-Err.why c.drop_table.new.self c.refusal.result c.in-Err.ensures.step.stays c.refusal.ensures.refused;
}
