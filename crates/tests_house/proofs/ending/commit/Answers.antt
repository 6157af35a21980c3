use Rattle.std.proofs.Common.{rules, List, subst}
use Rattle.hv_base.specs.declared.ids.Touch.{Touch}
use Rattle.hv_history.specs.State.{state_of}
use Rattle.hv_history.specs.Legal.{Of, CommitFits}
use Rattle.hv_session.specs.hv_beginning.specs.hv_steps.specs.hv_table_reader.specs.hv_acts.specs.hv_telling.specs.hv_house.specs.House.{entries_of}
use Rattle.tests_house.proofs.Rooms.{if_open, refused_open}
use Rattle.tests_house.proofs.ending.commit.Goals as goal

pub commit-requires : goal.commit-requires
commit-requires g c κs within =
    let book = c.book-book.result.now.entries in
    let fits =
    subst (λ (wrote : List Touch). Of (state_of book) c.args.txn.0 (CommitFits (state_of book) wrote)) c.as_slice-2.ensures
    (c.commit_fits.ensures.fits.0 c.if-not-commit_fits.false) in
    let can = if_open (λ s. CommitFits s c.args.wrote) book (entries_of c.args.house.now) c.args.txn.0 c.book-book.ensures.entries fits in
    (search rules, (c.requires.ready, (c.requires.small, (can, c.requires.can))))

pub returns-in-Ok : goal.returns-in-Ok
returns-in-Ok g c = record { ready = c.in-Ok.ensures.step.ready }

pub returns-in-Err : goal.returns-in-Err
returns-in-Err g c = record {
  ready = refused_open c.args.house.now.limits g.D.Shelf.told c.in-Err.why c.commit.new.self c.refusal.result c.in-Err.ensures.step.stays c.refusal.ensures.refused;
}
