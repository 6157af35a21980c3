use Rattle.std.proofs.lemmas.Result.{err_from_is_err_and}
use Rattle.std.proofs.Common.{◌≡◌, [], ◌∷◌, ◌++◌, map, ap, ◌∙◌}
use Rattle.hv_history.specs.declared.entry.Entry.TheVariants.{Boot}
use Rattle.hv_house.specs.House.{entries_of}
use Rattle.hv_house.specs.Booting.{lost_entry}
use Rattle.hv_house.proofs.Lengths.{short_boot}
use Rattle.hv_house.proofs.Hards.{noting_cause, later_both, journal_behind}
use Rattle.hv_house.proofs.Boots.{stops-unmade, stops-boot, stops-lost}
use Rattle.hv_house.proofs.house.House.note_lost.Goals as goal

pub returns-in_err-make_journal-clause-halted : goal.returns-in_err-make_journal-clause-halted
returns-in_err-make_journal-clause-halted g c =
    let left = err_from_is_err_and c.from_residual.result c.from_residual.ensures.1 in
    let same : left.0 ≡ c.in_err-make_journal.field-0.0 = cc (left.2) in
    stops-unmade c.in_err-make_journal.field-0.0 left.0 c.from_residual.result left.1 same (g.D.Shelf.told c.make_journal.new.self.shelf) (entries_of c.args.self.now) _
    c.in_err-make_journal.ensures.journal

pub add-requires-clause-short : goal.add-requires-clause-short
add-requires-clause-short g c = short_boot c.args.runs

pub returns-in_err-add-clause-halted : goal.returns-in_err-add-clause-halted
returns-in_err-add-clause-halted g c =
    let left = err_from_is_err_and c.from_residual-in_err-add.result c.from_residual-in_err-add.ensures.1 in
    let same : left.0 ≡ c.in_err-add.field-0.0 = cc (left.2) in
    stops-boot c.in_err-add.field-0.0 left.0 c.from_residual-in_err-add.result left.1 same g.D.Shelf.told c.make_journal.new.self c.add.new.self
    (entries_of c.args.self.now) c.args.runs (map lost_entry c.args.unended.now) (ap (λ b. b.entries) c.in_ok-make_journal.ensures.beside.book) c.in_err-add.ensures.halted

pub returns-clause-halted : goal.returns-clause-halted
returns-clause-halted g c =
    stops-lost g.D.Shelf.told c.lose.result (entries_of c.args.self.now) c.args.runs c.args.unended.now c.add.new.self c.lose.new.self
    (c.in_ok-add.ensures.noted.entries ∙ ap (λ b. b.entries ++ Boot c.args.runs ∷ []) c.in_ok-make_journal.ensures.beside.book)
    c.lose.ensures.halted

pub returns-in_err-add-clause-hard : goal.returns-in_err-add-clause-hard
returns-in_err-add-clause-hard g c =
    let left = err_from_is_err_and c.from_residual-in_err-add.result c.from_residual-in_err-add.ensures.1 in
    let same : left.0 ≡ c.in_err-add.field-0.0 = cc (left.2) in
    noting_cause c.in_err-add.field-0.0 left.0 c.from_residual-in_err-add.result left.1 same (g.D.Shelf.hard c.args.self.now.shelf)
    (g.D.Shelf.hard c.make_journal.new.self.shelf) (g.D.Shelf.hard c.add.new.self.shelf) c.make_journal.new.self.trail.closed c.add.new.self.trail.closed
    c.in_ok-make_journal.ensures.hard.later c.in_err-add.ensures.hard
    (ap (λ b. b.closed) c.in_ok-make_journal.ensures.beside.book ∙ c.requires.running) c.in_err-add.ensures.closed c.in_err-add.ensures.ends

pub returns-clause-hard : goal.returns-clause-hard
returns-clause-hard g c =
    journal_behind c.lose.result (g.D.Shelf.hard c.args.self.now.shelf) (g.D.Shelf.hard c.add.new.self.shelf) (g.D.Shelf.hard c.lose.new.self.shelf)
    (later_both _ _ _ c.in_ok-make_journal.ensures.hard.later c.in_ok-add.ensures.hard.later) c.lose.ensures.hard
