use Rattle.std.proofs.Common.{List, sym, subst, ◌∙◌}
use Rattle.hv_history.specs.declared.entry.Entry.{Entry}
use Rattle.hv_history.specs.State.{nothing_yet}
use Rattle.hv_history.specs.Legal.{profile, AllFit}
use Rattle.hv_trail.specs.Kept.{trail_of}
use Rattle.hv_trail.specs.Trail.{book_of}
use Rattle.hv_acts.proofs.Steps.{book-is}
use Rattle.hv_job_acts.specs.Questions.{AnswersSo}
use Rattle.hv_job_acts.proofs.Passed.{asked-done, lacked-step}
use Rattle.hv_job_acts.proofs.questions.ask_book.Goals as goal

pub ask-requires : goal.ask-requires
ask-requires g c = record {
  fit = subst (λ (book : List Entry). AllFit profile nothing_yet book) (sym c.book.ensures.entries) c.requires.whole.ready.fit;
}

pub returns-in-Ok : goal.returns-in-Ok
returns-in-Ok g c = record {
  asked =
      asked-done g.D.Shelf.told g.D.Shelf.faults c.in-Ok.answer (AnswersSo (g.Q.Question.says c.args.question.now) (book_of (trail_of c.args.house.now.trail)))
      c.args.house.now c.requires.whole
      (subst (λ (book : List Entry). g.Q.Question.says c.args.question.now book c.in-Ok.answer)
      (c.book.ensures.entries ∙ sym (book-is c.args.house.now)) c.in-Ok.ensures.says);
}

pub returns-in-Err : goal.returns-in-Err
returns-in-Err g c = record {
  asked =
      lacked-step g.D.Shelf.told g.D.Shelf.faults (AnswersSo (g.Q.Question.says c.args.question.now) (book_of (trail_of c.args.house.now.trail)))
      c.args.house.now c.requires.whole tt;
}
