use Rattle.std.proofs.Common.{rules, List, sym, subst}
use Rattle.hv_history.specs.declared.entry.Entry.{Entry}
use Rattle.hv_history.specs.State.{state_of}
use Rattle.hv_fits.specs.Texts.{TextsRun}
use Rattle.hv_fits.proofs.LockLemmas.{texts-run}
use Rattle.hv_session.specs.hv_beginning.specs.hv_steps.specs.hv_table_reader.specs.hv_acts.specs.hv_telling.specs.hv_house.specs.House.{entries_of}
use Rattle.tests_house.proofs.Rooms.{can_start, refused_open}
use Rattle.tests_house.proofs.calls.start.Goals as goal

pub start_fits-requires : goal.start_fits-requires
start_fits-requires g c = record {
  texts = subst (λ (book : List Entry). TextsRun (state_of book)) (sym c.book.ensures.entries)
      (texts-run c.args.house.now.limits (entries_of c.args.house.now) c.requires.ready.fit);
}

pub start-requires : goal.start-requires
start-requires g c κs within =
    let can =
    can_start _ c.book.result.now.entries (entries_of c.args.house.now) c.args.txn.0 0 c.book.ensures.entries
    (c.start_fits.ensures.fits.0 c.if-not-start_fits.false) in
    (search rules, (c.requires.ready, can))

pub returns-in-Ok : goal.returns-in-Ok
returns-in-Ok g c = record { ready = c.in-Ok.ensures.step.ready }

pub returns-in-Err : goal.returns-in-Err
returns-in-Err g c = record {
  ready = refused_open c.args.house.now.limits g.D.Shelf.told c.in-Err.why c.start.new.self c.refusal.result c.in-Err.ensures.step.stays c.refusal.ensures.refused;
}
