use Rattle.std.proofs.Common.{rules, refl}
use Rattle.hv_history.specs.Legal.{FullFits}
use Rattle.hv_session.specs.hv_beginning.specs.hv_steps.specs.hv_table_reader.specs.hv_acts.specs.hv_telling.specs.hv_house.specs.House.{entries_of}
use Rattle.tests_house.proofs.Facts.{short_full}
use Rattle.tests_house.proofs.Rooms.{if_open, refused_open}
use Rattle.tests_house.proofs.calls.abort_full.Goals as goal

pub abort-requires : goal.abort-requires
abort-requires g c κs within =
    let book = entries_of c.args.house.now in
    let can = if_open (FullFits c.args.house.now.limits) book book c.args.txn.0 refl (c.fits.ensures.fits.0 c.if-not-fits.false) in
    (search rules, (c.requires.ready, (short_full c.args.txn, (can, tt))))

pub returns-in-Ok : goal.returns-in-Ok
returns-in-Ok g c = record { ready = c.in-Ok.ensures.step.ready }

pub returns-in-Err : goal.returns-in-Err
returns-in-Err g c = record {
  ready = refused_open c.args.house.now.limits g.D.Shelf.told c.in-Err.why c.abort.new.self c.refusal.result c.in-Err.ensures.step.stays c.refusal.ensures.refused;
}
