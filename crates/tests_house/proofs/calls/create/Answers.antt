use Rattle.std.proofs.Common.{rules, List, length, ap, ◌∙◌}
use Rattle.std.proofs.lemmas.List.{length-map}
use Rattle.hv_history.specs.State.{state_of}
use Rattle.hv_book.specs.Briefs.{brief_table}
use Rattle.hv_session.specs.hv_beginning.specs.hv_steps.specs.hv_table_reader.specs.hv_acts.specs.hv_telling.specs.hv_house.specs.House.{entries_of}
use Rattle.tests_house.proofs.Rooms.{can_create, refused_open}
use Rattle.tests_house.proofs.calls.create.Goals as goal

pub create-requires : goal.create-requires
create-requires g c κs within =
    let count = ap length c.tables.ensures.tables ∙ length-map (state_of c.book-book.result.now.entries).tables brief_table in
    let can =
    can_create c.book-book.result.now.entries (entries_of c.args.house.now) c.args.txn.0 (length c.tables.result.now) c.book-book.ensures.entries count
    (c.create_fits.ensures.fits.0 c.if-not-create_fits.false) in
    (search rules, (c.requires.ready, can))

pub returns-in-Ok : goal.returns-in-Ok
returns-in-Ok g c = record { ready = c.in-Ok.ensures.step.ready }

pub returns-in-Err : goal.returns-in-Err
returns-in-Err g c = record {
  ready = refused_open c.args.house.now.limits g.D.Shelf.told c.in-Err.why c.create.new.self c.refusal.result c.in-Err.ensures.step.stays c.refusal.ensures.refused;
}
