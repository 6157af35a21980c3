use Rattle.std.proofs.Common.{refl, sym, ap, ◌∙◌, subst, List}
use Rattle.hv_base.specs.Told.{Tells}
use Rattle.hv_history.specs.declared.entry.Entry.{Entry}
use Rattle.hv_history.specs.Journal.{place_of, IsJournal}
use Rattle.hv_history.specs.State.{state_of, nothing_yet}
use Rattle.hv_history.specs.Legal.{AllFit, HasRoom}
use Rattle.hv_house.specs.Booting.{open_numbers}
use Rattle.hv_house.proofs.Raising.{opened-raised, opened-stopped}
use Rattle.hv_house.proofs.house.House.open_with.Goals as goal

pub note_opening-requires-clause-place : goal.note_opening-requires-clause-place
note_opening-requires-clause-place g c = c.requires.place ∙ ap place_of (sym c.over.ensures.entries)

pub note_opening-requires-clause-journal : goal.note_opening-requires-clause-journal
note_opening-requires-clause-journal g c =
    subst (λ (es : List Entry). Tells (g.D.Shelf.told c.args.shelf) (λ s. IsJournal es s.journal)) (sym c.over.ensures.entries) c.requires.journal

pub note_opening-requires-clause-fit : goal.note_opening-requires-clause-fit
note_opening-requires-clause-fit g c = subst (AllFit c.args.limits nothing_yet) (sym c.over.ensures.entries) c.requires.fit

pub note_opening-requires-clause-room : goal.note_opening-requires-clause-room
note_opening-requires-clause-room g c =
    subst (λ (es : List Entry). HasRoom c.args.limits (state_of es) 1) (sym c.over.ensures.entries) c.requires.room

pub note_opening-requires-clause-runs : goal.note_opening-requires-clause-runs
note_opening-requires-clause-runs g c =
    c.requires.learned.runs ∙ ap (λ (es : List Entry). (state_of es).openings.count) (sym c.over.ensures.entries)

pub note_opening-requires-clause-open_are : goal.note_opening-requires-clause-open_are
note_opening-requires-clause-open_are g c =
    c.deref.ensures.value ∙ c.requires.learned.open_are ∙ ap (λ (es : List Entry). open_numbers (state_of es)) (sym c.over.ensures.entries)

pub returns-in-Ok-clause-raised : goal.returns-in-Ok-clause-raised
returns-in-Ok-clause-raised g c =
    opened-raised g.D.Shelf.told g.D.Shelf.faults g.D.Shelf.hard c.args.book.entries c.args.whole.now c.args.shelf _ c.note_opening.new.self c.args.limits
    c.args.start.value _ c.in-Ok.ensures.step c.over.ensures.entries refl refl c.over.ensures.marks refl c.requires.most c.requires.fit c.requires.room refl refl
    c.settle.ensures.entries refl c.settle.ensures.closed c.settle.ensures.starved refl c.settle.ensures.marks c.settle.ensures.opened

pub returns-clause-stopped : goal.returns-clause-stopped
returns-clause-stopped g c =
    opened-stopped g.D.Shelf.told g.D.Shelf.faults g.D.Shelf.hard c.args.book.entries c.args.whole.now c.args.shelf _ c.note_opening.new.self c.close.result
    c.in-Err.fault c.in-Err.ensures.step c.over.ensures.entries refl c.close.ensures
