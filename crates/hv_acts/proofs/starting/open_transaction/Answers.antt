use Rattle.std.proofs.Common.{rules, sym}
use Rattle.hv_telling.specs.hv_house.specs.Steps.{seen_of}
use Rattle.hv_telling.specs.hv_house.proofs.Lengths.{short_opened}
use Rattle.hv_telling.specs.hv_house.proofs.Hards.{shuts_later}
use Rattle.hv_acts.proofs.Notes.{no-true}
use Rattle.hv_acts.proofs.Opens.{next-of, open-done, open-full, open-failed}
use Rattle.hv_acts.proofs.starting.open_transaction.Goals as goal

pub fits-requires : goal.fits-requires
fits-requires g c κs within = (search rules, (c.requires.whole.ready, (c.args.tree, c.requires.runs)))

pub returns-then-not-fits-clause-opened : goal.returns-then-not-fits-clause-opened
returns-then-not-fits-clause-opened g c =
    open-full g.D.Shelf.told g.D.Shelf.faults c.args.session c.args.number c.args.text c.next_txn-txn.result c.args.tree c.next_place-entries.result c.args.house.now c.requires.whole
    c.requires.runs c.next_txn-txn.ensures.next c.next_place-entries.ensures.place
    (λ fits. no-true c.fits.result c.if-not-fits.true (c.fits.ensures.fits.1 fits))

pub note-requires-clause-small : goal.note-requires-clause-small
note-requires-clause-small g c = short_opened c.next_txn-txn.result c.args.session c.args.number c.args.text c.requires.named c.requires.short

pub note-requires-clause-fits : goal.note-requires-clause-fits
note-requires-clause-fits g c = c.fits.ensures.fits.0 c.if-not-fits.false

pub note-requires-clause-tree : goal.note-requires-clause-tree
note-requires-clause-tree g c = sym c.requires.runs.read

pub returns-in-Ok-clause-opened : goal.returns-in-Ok-clause-opened
returns-in-Ok-clause-opened g c =
    open-done g.D.Shelf.told g.D.Shelf.faults c.args.session c.args.number c.args.text c.next_txn-txn.result c.args.house.now c.note.new.house
    c.requires.whole c.in-Ok.ensures.whole c.next_txn-txn.ensures.next (c.fits.ensures.fits.0 c.if-not-fits.false) c.in-Ok.ensures.step

pub returns-in-Ok-clause-next : goal.returns-in-Ok-clause-next
returns-in-Ok-clause-next g c = next-of c.args.house.now c.next_txn-txn.result c.next_txn-txn.ensures.next

pub returns-in-Err-clause-opened : goal.returns-in-Err-clause-opened
returns-in-Err-clause-opened g c =
    open-failed g.D.Shelf.told g.D.Shelf.faults c.args.session c.args.number c.args.text c.next_txn-txn.result c.in-Err.fault c.args.house.now c.note.new.house
    c.requires.whole c.next_txn-txn.ensures.next (c.fits.ensures.fits.0 c.if-not-fits.false) c.in-Err.ensures.stays c.in-Err.ensures.halted
    c.in-Err.ensures.cause.failed c.in-Err.ensures.opens c.in-Err.ensures.start c.in-Err.ensures.step

pub returns-in-Ok-clause-hard : goal.returns-in-Ok-clause-hard
returns-in-Ok-clause-hard g c =
    shuts_later g.D.Shelf.told g.D.Shelf.faults g.D.Shelf.hard _ _ (seen_of c.args.house.now) (seen_of c.note.new.house) c.note.ensures.step c.note.ensures.hard c.requires.hard

pub returns-in-Err-clause-hard : goal.returns-in-Err-clause-hard
returns-in-Err-clause-hard g c =
    shuts_later g.D.Shelf.told g.D.Shelf.faults g.D.Shelf.hard _ _ (seen_of c.args.house.now) (seen_of c.note.new.house) c.note.ensures.step c.note.ensures.hard c.requires.hard
