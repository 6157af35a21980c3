use Rattle.std.proofs.Common.{List, IfOk, IfErr, ap, ◌∙◌, sym, subst}
use Rattle.hv_base.specs.Told.{Tells}
use Rattle.hv_history.specs.declared.entry.Entry.{Entry}
use Rattle.hv_history.specs.Journal.{place_of, IsJournal}
use Rattle.hv_history.specs.State.{state_of, nothing_yet}
use Rattle.hv_history.specs.Legal.{AllFit, HasRoom}
use Rattle.hv_house.specs.declared.boot.BootFault.TheVariants as fault
use Rattle.hv_house.specs.Ending.{gauged}
use Rattle.hv_house.specs.Booting.{IsLearned, read_to, IsRaisedOver, StopsOver}
use Rattle.hv_house.proofs.Raising.{unopened, lacks-memory}
use Rattle.hv_house.proofs.house.House.open_read.Goals as goal

pub open_over-requires-clause-fit : goal.open_over-requires-clause-fit
open_over-requires-clause-fit g c = subst (AllFit c.args.limits nothing_yet) (sym c.learn.ensures.entries) c.requires.fit

pub open_over-requires-clause-place : goal.open_over-requires-clause-place
open_over-requires-clause-place g c = c.requires.place ∙ ap place_of (sym c.learn.ensures.entries)

pub open_over-requires-clause-journal : goal.open_over-requires-clause-journal
open_over-requires-clause-journal g c =
    subst (λ (es : List Entry). Tells (g.D.Shelf.told c.args.shelf) (λ s. IsJournal es s.journal)) (sym c.learn.ensures.entries) c.requires.journal

pub open_over-requires-clause-room : goal.open_over-requires-clause-room
open_over-requires-clause-room g c =
    subst (λ (es : List Entry). HasRoom c.args.limits (state_of es) 1) (sym c.learn.ensures.entries) c.requires.room

pub open_over-requires-clause-learned : goal.open_over-requires-clause-learned
open_over-requires-clause-learned g c = subst (λ (es : List Entry). IsLearned es c.in-Ok.found) (sym c.learn.ensures.entries) c.in-Ok.ensures.learned

pub returns-in-Ok-clause-raised : goal.returns-in-Ok-clause-raised
returns-in-Ok-clause-raised g c =
    subst
    (λ (es : List Entry).
    IfOk c.open_over.result
    (IsRaisedOver (gauged g.D.Shelf.told g.D.Shelf.faults g.D.Shelf.hard) c.args.limits c.args.start.value (read_to c.args.shelf es)))
    c.learn.ensures.entries c.open_over.ensures.raised

pub returns-in-Ok-clause-stopped : goal.returns-in-Ok-clause-stopped
returns-in-Ok-clause-stopped g c =
    subst (λ (es : List Entry). IfErr c.open_over.result (StopsOver (gauged g.D.Shelf.told g.D.Shelf.faults g.D.Shelf.hard) c.args.shelf es))
    c.learn.ensures.entries c.open_over.ensures.stopped

pub returns-in-Err-clause-stopped : goal.returns-in-Err-clause-stopped
returns-in-Err-clause-stopped g c =
    unopened g.D.Shelf.told g.D.Shelf.faults g.D.Shelf.hard c.args.book.entries c.args.shelf fault.NoMemory lacks-memory c.requires.journal
