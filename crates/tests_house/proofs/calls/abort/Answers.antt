use Rattle.std.proofs.Common.{rules}
use Rattle.hv_session.specs.hv_beginning.specs.hv_steps.specs.hv_table_reader.specs.hv_acts.specs.hv_telling.specs.hv_house.specs.House.{entries_of}
use Rattle.tests_house.proofs.Facts.{short_memory}
use Rattle.tests_house.proofs.Rooms.{can_abort, refused_open}
use Rattle.tests_house.proofs.calls.abort.Goals as goal

pub abort-requires : goal.abort-requires
abort-requires g c κs within =
    let can = can_abort c.book.result.now.entries (entries_of c.args.house.now) c.args.txn.0 c.in-Some.field-0 c.book.ensures.entries c.in-Some.ensures.note in
    (search rules, (c.requires.ready, (short_memory c.args.txn, (can, tt))))

pub returns-in-Ok : goal.returns-in-Ok
returns-in-Ok g c = record { ready = c.in-Ok.ensures.step.ready }

pub returns-in-Err : goal.returns-in-Err
returns-in-Err g c = record {
  ready = refused_open c.args.house.now.limits g.D.Shelf.told c.in-Err.why c.abort.new.self c.refusal.result c.in-Err.ensures.step.stays c.refusal.ensures.refused;
}
