use Rattle.std.proofs.Common.{Option, Err, IsErrOf, ap, ◌∙◌, sym, subst}
use Rattle.hv_base.specs.Told.{Tells}
use Rattle.hv_shelf.specs.Disk.{Store}
use Rattle.hv_history.specs.Journal.{IsJournal}
use Rattle.hv_house.specs.declared.boot.BootFault.{BootFault}
use Rattle.hv_house.specs.declared.boot.BootFault.TheVariants as fault
use Rattle.hv_house.proofs.Raising.{can-name-book, raised-over, stopped-over, unlooked, ok-map, err-map, all-ends}
use Rattle.hv_house.proofs.house.House.open_over.Goals as goal

pub look-requires : goal.look-requires
look-requires g c = record { named = can-name-book c.args.limits c.args.book.entries c.requires.most c.requires.fit c.requires.room }

pub open_with-requires-clause-journal : goal.open_with-requires-clause-journal
open_with-requires-clause-journal g c =
    subst (λ (o : Option Store). Tells o (λ s. IsJournal c.args.book.entries s.journal)) (sym c.look.ensures.same) c.requires.journal

pub returns-in-Ok-clause-raised : goal.returns-in-Ok-clause-raised
returns-in-Ok-clause-raised g c =
    ok-map c.open_with.result _ _
    (λ now raised.
    raised-over g.D.Shelf.told g.D.Shelf.faults g.D.Shelf.hard c.args.book.entries c.args.shelf c.look.new.shelf c.look.ensures.same c.args.limits
    c.args.start.value c.in-Ok.whole.items c.deref.result.now now c.deref.ensures.value c.in-Ok.ensures.whole c.requires.room c.look.ensures.cause.later
    c.look.ensures.cause.hard_later raised)
    c.open_with.ensures.raised

pub returns-in-Ok-clause-ends : goal.returns-in-Ok-clause-ends
returns-in-Ok-clause-ends g c =
    all-ends g.D.Shelf.told g.D.Shelf.faults g.D.Shelf.hard c.look.new.shelf c.args.book.entries c.deref.result.now c.open_with.result
    c.open_with.ensures.stopped

pub returns-in-Ok-clause-stopped : goal.returns-in-Ok-clause-stopped
returns-in-Ok-clause-stopped g c =
    err-map c.open_with.result _ _
    (λ x stopped.
    stopped-over g.D.Shelf.told g.D.Shelf.faults g.D.Shelf.hard c.args.book.entries c.args.shelf c.look.new.shelf c.look.ensures.same c.in-Ok.whole.items
    c.deref.result.now x c.deref.ensures.value c.in-Ok.ensures.whole c.look.ensures.cause.later c.look.ensures.cause.hard_later stopped)
    c.open_with.ensures.stopped

pub returns-in-Err-clause-stopped : goal.returns-in-Err-clause-stopped
returns-in-Err-clause-stopped g c =
    unlooked g.D.Shelf.told g.D.Shelf.faults g.D.Shelf.hard c.args.book.entries c.args.shelf c.look.new.shelf c.in-Err.fault
    (IsErrOf c.look.result fault.Store) (λ is. c.in-Err.is ∙ ap (λ (f : BootFault). Err f) is) c.look.ensures.same c.requires.journal c.look.ensures.cause
