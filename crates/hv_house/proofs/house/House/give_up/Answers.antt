use Rattle.std.proofs.Common.{◌≡◌, ◌<◌, List, [], ◌∷◌, length, sym, ap, subst, arith}
use Rattle.std.proofs.lemmas.Result.{err_from_is_err_and}
use Rattle.hv_history.specs.declared.entry.Entry.{Entry}
use Rattle.hv_finals.specs.declared.ending.JobEnd.TheVariants as its_end
use Rattle.hv_finals.specs.Finals.{entry_of}
use Rattle.hv_house.specs.House.{entries_of, book_limit}
use Rattle.hv_house.specs.Ending.{IsSame, JobGoes, SomeJobGoes, gauged, ends_by, EndStep}
use Rattle.hv_house.proofs.EndSteps.{raised-step, failed-bare, failed-short, kept-beside, cleared-stops, gone-then}
use Rattle.hv_house.proofs.house.House.give_up.Goals as goal

pub note_end-requires-clause-kept : goal.note_end-requires-clause-kept
note_end-requires-clause-kept g c =
    kept-beside g.D.Shelf.told c.args.number c.args.self.now c.clear_job.new.self c.in_ok-clear_job.ensures.beside c.in_ok-clear_job.ensures.gone c.requires.kept

pub note_end-requires-clause-bare : goal.note_end-requires-clause-bare
note_end-requires-clause-bare g c = failed-bare c.args.number c.args.gone c.failed_entry.result c.failed_entry.ensures

pub note_end-requires-clause-short : goal.note_end-requires-clause-short
note_end-requires-clause-short g c = failed-short c.args.number c.args.gone c.failed_entry.result c.failed_entry.ensures

pub note_end-requires-clause-room : goal.note_end-requires-clause-room
note_end-requires-clause-room g c =
    subst (λ (b : List Entry). length b < book_limit) (sym (ap (λ b. b.entries) c.in_ok-clear_job.ensures.beside.book)) c.requires.room

pub returns-in_err-clear_job : goal.returns-in_err-clear_job
returns-in_err-clear_job g c = record {
  step =
      let left = err_from_is_err_and c.from_residual.result c.from_residual.ensures.1 in
      let same : left.0 ≡ c.in_err-clear_job.field-0.0 = cc (left.2) in
      let event = entry_of c.args.number (its_end.Failed c.args.gone) in
      raised-step g.D.Shelf.told g.D.Shelf.faults g.D.Shelf.hard (SomeJobGoes (entries_of c.args.self.now) c.args.number)
      (JobGoes (entries_of c.args.self.now) c.args.number) (event ∷ []) c.args.self.now c.clear_job.new.self c.in_err-clear_job.field-0.0 left.0
      c.from_residual.result left.1 same
      (cleared-stops g.D.Shelf.told g.D.Shelf.faults g.D.Shelf.hard c.args.number event c.args.self.now c.clear_job.new.self c.in_err-clear_job.field-0.0
      c.requires.kept c.in_err-clear_job.ensures.some c.in_err-clear_job.ensures.marks c.in_err-clear_job.ensures.cause c.in_err-clear_job.ensures.ends);
}

pub returns : goal.returns
returns g c = record {
  step =
      let event = entry_of c.args.number (its_end.Failed c.args.gone) in
      gone-then g.D.Shelf.told g.D.Shelf.faults g.D.Shelf.hard c.args.number (event ∷ []) c.args.self.now c.clear_job.new.self c.note_end.new.self
      c.note_end.result c.in_ok-clear_job.ensures.beside c.in_ok-clear_job.ensures.gone c.in_ok-clear_job.ensures.marks c.in_ok-clear_job.ensures.cause
      (subst
      (λ (x : Entry).
      EndStep (gauged g.D.Shelf.told g.D.Shelf.faults g.D.Shelf.hard) (ends_by IsSame IsSame (x ∷ [])) c.clear_job.new.self c.note_end.new.self
      c.note_end.result)
      c.failed_entry.ensures c.note_end.ensures.step);
}
