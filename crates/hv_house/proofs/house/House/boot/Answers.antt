use Rattle.std.proofs.Common.{Option, Err, IsErrOf, sym, ap, ◌∙◌, subst}
use Rattle.hv_base.specs.Told.{Tells}
use Rattle.hv_shelf.specs.Disk.{Store}
use Rattle.hv_history.specs.Journal.{IsJournal}
use Rattle.hv_recovery.specs.declared.fault.OpenFault.{OpenFault}
use Rattle.hv_recovery.specs.declared.fault.OpenFault.TheVariants as opening
use Rattle.hv_recovery.specs.Recovery.{IsJournalOf}
use Rattle.hv_house.proofs.EndSteps.{tells-also}
use Rattle.hv_house.proofs.Raising.{ok-map, err-map, err-both, all-ready, all-later, all-hard_later}
use Rattle.hv_house.proofs.BootClauses.{boot-opened, boot-whole, boot-tree, boot-stopped, boot-still, boot-same_tree, boot-tells, boot-cause, boot-hard, boot-roomy, boot-bad, unread-bad, unread-stopped, unread-still, unread-tree, unread-tells, unread-roomy, unread-cause, unread-hard}
use Rattle.hv_house.proofs.house.House.boot.Goals as goal

pub raise-requires-clause-journal : goal.raise-requires-clause-journal
raise-requires-clause-journal g c =
    subst (λ (o : Option Store). Tells o (λ s. IsJournal c.in-Ok.book.entries s.journal)) (sym c.read_journal.ensures.same)
    (tells-also (λ s. IsJournalOf c.args.limits c.in-Ok.book.entries s.journal) (λ s. IsJournal c.in-Ok.book.entries s.journal) (λ s reads. reads.journal)
    (g.D.Shelf.told c.args.shelf) c.in-Ok.ensures.found)

pub returns-in-Ok-clause-ready : goal.returns-in-Ok-clause-ready
returns-in-Ok-clause-ready g c =
    all-ready g.D.Shelf.told g.D.Shelf.faults g.D.Shelf.hard c.args.limits _ c.read_journal.new.shelf c.in-Ok.book.entries c.raise.result c.raise.ensures.raised

pub returns-in-Ok-clause-opened : goal.returns-in-Ok-clause-opened
returns-in-Ok-clause-opened g c =
    ok-map c.raise.result _ _
    (λ now raised.
    boot-opened g.D.Shelf.told g.D.Shelf.faults g.D.Shelf.hard c.args.limits _ c.in-Ok.book.entries c.args.shelf c.read_journal.new.shelf c.read_journal.ensures.same
    c.requires.most c.in-Ok.ensures.found now raised c.in-Ok.ensures.fit)
    c.raise.ensures.raised

pub returns-in-Ok-clause-whole : goal.returns-in-Ok-clause-whole
returns-in-Ok-clause-whole g c =
    ok-map c.raise.result _ _
    (λ now raised.
    boot-whole g.D.Shelf.told g.D.Shelf.faults g.D.Shelf.hard c.args.limits _ c.in-Ok.book.entries c.args.shelf c.read_journal.new.shelf c.read_journal.ensures.same
    c.requires.most c.in-Ok.ensures.found now raised)
    c.raise.ensures.raised

pub returns-in-Ok-clause-tree : goal.returns-in-Ok-clause-tree
returns-in-Ok-clause-tree g c =
    ok-map c.raise.result _ _
    (λ now raised.
    boot-tree g.D.Shelf.told g.D.Shelf.faults g.D.Shelf.hard c.args.limits _ c.in-Ok.book.entries c.args.shelf c.read_journal.new.shelf c.read_journal.ensures.same
    c.requires.most c.in-Ok.ensures.found now raised)
    c.raise.ensures.raised

pub returns-in-Ok-clause-bad : goal.returns-in-Ok-clause-bad
returns-in-Ok-clause-bad g c =
    err-map c.raise.result _ _
    (λ x full.
    boot-bad c.args.limits c.in-Ok.book.entries (g.D.Shelf.told c.args.shelf) c.in-Ok.ensures.found (g.D.Shelf.told c.read_journal.new.shelf)
    (g.D.Shelf.told x.1) x.0 c.read_journal.ensures.same full)
    c.raise.ensures.full

pub returns-in-Ok-clause-stopped : goal.returns-in-Ok-clause-stopped
returns-in-Ok-clause-stopped g c =
    err-map c.raise.result _ _
    (λ x stopped.
    boot-stopped g.D.Shelf.told g.D.Shelf.faults g.D.Shelf.hard c.args.limits c.in-Ok.book.entries c.args.shelf c.read_journal.new.shelf c.read_journal.ensures.same c.requires.most
    c.in-Ok.ensures.found x stopped)
    c.raise.ensures.stopped

pub returns-in-Ok-clause-still : goal.returns-in-Ok-clause-still
returns-in-Ok-clause-still g c =
    err-both c.raise.result _ _ _
    (λ x stopped room.
    boot-still g.D.Shelf.told g.D.Shelf.faults g.D.Shelf.hard c.args.limits c.in-Ok.book.entries c.args.shelf c.read_journal.new.shelf c.read_journal.ensures.same c.requires.most
    c.in-Ok.ensures.found x stopped room)
    c.raise.ensures.stopped c.raise.ensures.room

pub returns-in-Ok-clause-same_tree : goal.returns-in-Ok-clause-same_tree
returns-in-Ok-clause-same_tree g c =
    err-map c.raise.result _ _
    (λ x stopped.
    boot-same_tree g.D.Shelf.told g.D.Shelf.faults g.D.Shelf.hard c.args.limits c.in-Ok.book.entries c.args.shelf c.read_journal.new.shelf c.read_journal.ensures.same c.requires.most
    c.in-Ok.ensures.found x stopped)
    c.raise.ensures.stopped

pub returns-in-Ok-clause-tells : goal.returns-in-Ok-clause-tells
returns-in-Ok-clause-tells g c =
    err-map c.raise.result _ _
    (λ x stopped.
    boot-tells g.D.Shelf.told g.D.Shelf.faults g.D.Shelf.hard c.args.limits c.in-Ok.book.entries c.args.shelf c.read_journal.new.shelf c.read_journal.ensures.same c.requires.most
    c.in-Ok.ensures.found x stopped)
    c.raise.ensures.stopped

pub returns-in-Ok-clause-later : goal.returns-in-Ok-clause-later
returns-in-Ok-clause-later g c =
    all-later g.D.Shelf.told g.D.Shelf.faults g.D.Shelf.hard c.args.limits _ c.read_journal.new.shelf c.in-Ok.book.entries c.raise.result
    (g.D.Shelf.faults c.args.shelf) c.read_journal.ensures.cause.later c.raise.ensures.raised

pub returns-in-Ok-clause-cause : goal.returns-in-Ok-clause-cause
returns-in-Ok-clause-cause g c =
    err-map c.raise.result _ _
    (λ x stopped.
    boot-cause g.D.Shelf.told g.D.Shelf.faults g.D.Shelf.hard c.args.limits c.in-Ok.book.entries c.args.shelf c.read_journal.new.shelf c.read_journal.ensures.same c.requires.most
    c.in-Ok.ensures.found x stopped c.read_journal.ensures.cause.later)
    c.raise.ensures.stopped

pub returns-in-Ok-clause-hard_later : goal.returns-in-Ok-clause-hard_later
returns-in-Ok-clause-hard_later g c =
    all-hard_later g.D.Shelf.told g.D.Shelf.faults g.D.Shelf.hard c.args.limits _ c.read_journal.new.shelf c.in-Ok.book.entries c.raise.result
    (g.D.Shelf.hard c.args.shelf) c.read_journal.ensures.cause.hard_later c.raise.ensures.raised

pub returns-in-Ok-clause-hard : goal.returns-in-Ok-clause-hard
returns-in-Ok-clause-hard g c =
    err-map c.raise.result _ _
    (λ x stopped.
    boot-hard g.D.Shelf.told g.D.Shelf.faults g.D.Shelf.hard c.args.limits c.in-Ok.book.entries c.args.shelf c.read_journal.new.shelf c.read_journal.ensures.same c.requires.most
    c.in-Ok.ensures.found x stopped c.read_journal.ensures.cause.hard_later)
    c.raise.ensures.stopped

pub returns-in-Ok-clause-roomy : goal.returns-in-Ok-clause-roomy
returns-in-Ok-clause-roomy g c =
    err-both c.raise.result _ _ _
    (λ x stopped roomy.
    boot-roomy g.D.Shelf.told g.D.Shelf.faults g.D.Shelf.hard c.args.limits c.in-Ok.book.entries c.args.shelf c.read_journal.new.shelf c.read_journal.ensures.same c.requires.most
    c.in-Ok.ensures.found x stopped roomy)
    c.raise.ensures.stopped c.raise.ensures.roomy

pub returns-in-Err-clause-bad : goal.returns-in-Err-clause-bad
returns-in-Err-clause-bad g c =
    unread-bad c.args.limits (g.D.Shelf.told c.args.shelf) (g.D.Shelf.told c.read_journal.new.shelf) c.read_journal.ensures.same c.in-Err.fault c.unread.result
    c.unread.ensures c.in-Err.ensures.bad

pub returns-in-Err-clause-stopped : goal.returns-in-Err-clause-stopped
returns-in-Err-clause-stopped g c =
    unread-stopped c.args.limits (g.D.Shelf.told c.args.shelf) (g.D.Shelf.told c.read_journal.new.shelf) c.read_journal.ensures.same c.in-Err.fault c.unread.result
    c.unread.ensures

pub returns-in-Err-clause-still : goal.returns-in-Err-clause-still
returns-in-Err-clause-still g c =
    unread-still c.args.limits (g.D.Shelf.told c.args.shelf) (g.D.Shelf.told c.read_journal.new.shelf) c.read_journal.ensures.same c.in-Err.fault c.unread.result
    c.unread.ensures

pub returns-in-Err-clause-same_tree : goal.returns-in-Err-clause-same_tree
returns-in-Err-clause-same_tree g c =
    unread-tree c.args.limits (g.D.Shelf.told c.args.shelf) (g.D.Shelf.told c.read_journal.new.shelf) c.read_journal.ensures.same c.in-Err.fault c.unread.result
    c.unread.ensures

pub returns-in-Err-clause-tells : goal.returns-in-Err-clause-tells
returns-in-Err-clause-tells g c =
    unread-tells c.args.limits (g.D.Shelf.told c.args.shelf) (g.D.Shelf.told c.read_journal.new.shelf) c.read_journal.ensures.same c.in-Err.fault c.unread.result
    c.unread.ensures

pub returns-in-Err-clause-cause : goal.returns-in-Err-clause-cause
returns-in-Err-clause-cause g c =
    unread-cause c.args.limits (g.D.Shelf.told c.args.shelf) (g.D.Shelf.told c.read_journal.new.shelf) c.read_journal.ensures.same c.in-Err.fault c.unread.result
    c.unread.ensures (IsErrOf c.read_journal.result opening.Failed)
    (λ is. c.in-Err.is ∙ ap (λ (f : OpenFault). Err f) is) _ _ _ _ c.read_journal.ensures.cause

pub returns-in-Err-clause-hard : goal.returns-in-Err-clause-hard
returns-in-Err-clause-hard g c =
    unread-hard c.args.limits (g.D.Shelf.told c.args.shelf) (g.D.Shelf.told c.read_journal.new.shelf) c.read_journal.ensures.same c.in-Err.fault c.unread.result
    c.unread.ensures (IsErrOf c.read_journal.result opening.Failed)
    (λ is. c.in-Err.is ∙ ap (λ (f : OpenFault). Err f) is) _ _ _ _ c.read_journal.ensures.cause

pub returns-in-Err-clause-roomy : goal.returns-in-Err-clause-roomy
returns-in-Err-clause-roomy g c =
    unread-roomy c.args.limits (g.D.Shelf.told c.args.shelf) (g.D.Shelf.told c.read_journal.new.shelf) c.read_journal.ensures.same c.in-Err.fault c.unread.result
    c.unread.ensures
