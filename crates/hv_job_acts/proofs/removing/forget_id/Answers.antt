use Rattle.std.proofs.Common.{List, sym, subst}
use Rattle.hv_history.specs.declared.entry.Entry.{Entry}
use Rattle.hv_history.specs.State.{nothing_yet}
use Rattle.hv_history.specs.Legal.{profile, AllFit}
use Rattle.hv_acts.specs.hv_telling.specs.hv_house.specs.Steps.{seen_of}
use Rattle.hv_acts.specs.hv_telling.specs.hv_house.proofs.Hards.{shuts_later}
use Rattle.hv_job_acts.proofs.Forgettings.{may-now, may-not, forgotten, unforgotten}
use Rattle.hv_job_acts.proofs.removing.forget_id.Goals as goal

pub may_forget-requires : goal.may_forget-requires
may_forget-requires g c = record {
  fit = subst (λ (book : List Entry). AllFit profile nothing_yet book) (sym c.book.ensures.entries) c.requires.whole.ready.fit;
}

pub forget-requires-clause-can : goal.forget-requires-clause-can
forget-requires-clause-can g c =
    may-now c.args.house.now c.args.table c.args.write c.book.result.now.entries c.may_forget.result c.book.ensures.entries c.may_forget.ensures.may
    c.if-may_forget.true

pub returns-then-may_forget : goal.returns-then-may_forget
returns-then-may_forget g c = record {
  forgotten =
      forgotten g.D.Shelf.told g.D.Shelf.faults c.args.house.now c.forget.new.house c.requires.whole c.args.table c.args.write c.forget.result c.passed.result
      c.passed.ensures c.forget.ensures.step c.forget.ensures.gone c.forget.ensures.full c.forget.ensures.others;
  hard =
      shuts_later g.D.Shelf.told g.D.Shelf.faults g.D.Shelf.hard _ _ (seen_of c.args.house.now) (seen_of c.forget.new.house) c.forget.ensures.step.step
      c.forget.ensures.hard c.requires.hard;
}

pub returns-else-may_forget : goal.returns-else-may_forget
returns-else-may_forget g c = record {
  forgotten =
      unforgotten g.D.Shelf.told g.D.Shelf.faults c.args.house.now c.args.house.now c.requires.whole c.args.table c.args.write
      (may-not c.args.house.now c.args.table c.args.write c.book.result.now.entries c.may_forget.result c.book.ensures.entries c.may_forget.ensures.may
      c.if-may_forget.false);
  hard = c.requires.hard;
}
