use Rattle.std.proofs.Common.{◌≡◌, [], ◌∷◌, sym}
use Rattle.std.proofs.lemmas.Result.{err_from_is_err_and}
use Rattle.hv_house.specs.Booting.{boot_fault}
use Rattle.hv_house.specs.Ending.{IsSame}
use Rattle.hv_house.proofs.EndSteps.{noted-step, halted-step, raised-step}
use Rattle.hv_house.proofs.house.House.note_end.Goals as goal

pub add-requires-clause-tree : goal.add-requires-clause-tree
add-requires-clause-tree g c = sym c.requires.bare

pub returns-in_err-add : goal.returns-in_err-add
returns-in_err-add g c = record {
  step =
      let left = err_from_is_err_and c.from_residual.result c.from_residual.ensures.1 in
      let same : left.0 ≡ boot_fault c.in_err-add.field-0.0 = cc (left.2) in
      raised-step g.D.Shelf.told g.D.Shelf.faults g.D.Shelf.hard IsSame IsSame (c.args.entry ∷ []) c.args.self.now c.add.new.self
      (boot_fault c.in_err-add.field-0.0) left.0 c.from_residual.result left.1 same
      (halted-step g.D.Shelf.told g.D.Shelf.faults g.D.Shelf.hard c.args.entry c.args.self.now c.add.new.self c.in_err-add.field-0.0 c.in_err-add.ensures.halted
      c.in_err-add.ensures.marks c.in_err-add.ensures.closed c.in_err-add.ensures.ends c.in_err-add.ensures.cause.later c.in_err-add.ensures.cause.failed
      c.in_err-add.ensures.hard c.requires.kept.running);
}

pub returns : goal.returns
returns g c = record {
  step =
      noted-step g.D.Shelf.told g.D.Shelf.faults g.D.Shelf.hard c.args.entry c.args.self.now c.add.new.self c.in_ok-add.ensures.noted c.in_ok-add.ensures.marks
      c.in_ok-add.ensures.cause.later c.in_ok-add.ensures.hard.later;
}
