use Rattle.std.proofs.Common.{◌≡◌, ◌≤◌, ◌+◌, length, ap, arith}
use Rattle.std.proofs.lemmas.Result.{err_from_is_err_and}
use Rattle.hv_house.specs.House.{entries_of, book_limit}
use Rattle.hv_house.specs.Booting.{boot_fault}
use Rattle.hv_house.proofs.Boots.{lost-room}
use Rattle.hv_house.proofs.Raising.{noted-book, lost-cuts, lost-fit, ends-small, lost-stops, then-ended, opening-raised}
use Rattle.hv_house.proofs.house.House.note_opening.Goals as goal

pub note_lost-requires-clause-room : goal.note_lost-requires-clause-room
note_lost-requires-clause-room g c =
    let all = lost-room c.args.self.now.limits (entries_of c.args.self.now) book_limit c.requires.within c.requires.room in
    omega (arith, all, ap length c.requires.open_are)

pub end_jobs-requires-clause-fit : goal.end_jobs-requires-clause-fit
end_jobs-requires-clause-fit g c =
    lost-fit c.args.self.now.limits c.note_lost.new.self.limits (entries_of c.args.self.now) (entries_of c.note_lost.new.self)
    (noted-book (entries_of c.args.self.now) (entries_of c.note_lost.new.self) c.args.runs c.args.unended.now c.in_ok-note_lost.ensures.entries c.requires.runs
    c.requires.open_are)
    c.in_ok-note_lost.ensures.marks.limits c.requires.fit c.requires.room

pub end_jobs-requires-clause-room : goal.end_jobs-requires-clause-room
end_jobs-requires-clause-room g c =
    ends-small c.args.self.now.limits (entries_of c.args.self.now) (entries_of c.note_lost.new.self) book_limit
    (noted-book (entries_of c.args.self.now) (entries_of c.note_lost.new.self) c.args.runs c.args.unended.now c.in_ok-note_lost.ensures.entries c.requires.runs
    c.requires.open_are)
    c.requires.within c.requires.room

pub returns-in_err-note_lost : goal.returns-in_err-note_lost
returns-in_err-note_lost g c = record {
  step =
      let left = err_from_is_err_and c.from_residual.result c.from_residual.ensures.1 in
      let same : left.0 ≡ boot_fault c.in_err-note_lost.field-0.0 = cc (left.2) in
      opening-raised g.D.Shelf.told g.D.Shelf.faults g.D.Shelf.hard c.args.whole.now c.args.self.now c.note_lost.new.self
      (boot_fault c.in_err-note_lost.field-0.0) left.0 c.from_residual.result left.1 same
      (lost-stops g.D.Shelf.told g.D.Shelf.faults g.D.Shelf.hard c.args.whole.now c.args.self.now c.note_lost.new.self c.in_err-note_lost.field-0.0
      c.in_err-note_lost.ensures.tree
      (lost-cuts c.in_err-note_lost.field-0.0 (g.D.Shelf.told c.note_lost.new.self.shelf) (entries_of c.args.self.now) c.args.runs c.args.unended.now
      c.requires.runs c.requires.open_are c.in_err-note_lost.ensures.halted)
      c.in_err-note_lost.ensures.marks c.in_err-note_lost.ensures.cause.later c.in_err-note_lost.ensures.cause.failed c.in_err-note_lost.ensures.hard.later
      c.in_err-note_lost.ensures.hard.failed);
}

pub returns : goal.returns
returns g c = record {
  step =
      then-ended g.D.Shelf.told g.D.Shelf.faults g.D.Shelf.hard c.args.whole.now c.args.self.now c.note_lost.new.self c.end_jobs.new.self c.end_jobs.result
      (noted-book (entries_of c.args.self.now) (entries_of c.note_lost.new.self) c.args.runs c.args.unended.now c.in_ok-note_lost.ensures.entries
      c.requires.runs c.requires.open_are)
      c.in_ok-note_lost.ensures.tree c.in_ok-note_lost.ensures.marks c.in_ok-note_lost.ensures.cause.later c.in_ok-note_lost.ensures.hard.later
      c.end_jobs.ensures.step;
}
