use Rattle.std.proofs.Common.{◌≡◌, true, List, sym, subst}
use Rattle.hv_history.specs.declared.entry.Entry.{Entry}
use Rattle.hv_history.specs.State.{state_of, numbered}
use Rattle.hv_finals.specs.Finals.{CanName, works_at}
use Rattle.hv_house.specs.House.{entries_of}
use Rattle.hv_house.proofs.EndSteps.{ok-also, err-also, dirs-of, job-goes, some-job-goes, no-job-goes, lacking-calls}
use Rattle.hv_house.proofs.house.House.clear_job.Goals as goal

pub failing_dirs-requires-clause-named : goal.failing_dirs-requires-clause-named
failing_dirs-requires-clause-named g c = subst CanName (sym c.book.ensures.entries) c.requires.named

pub failing_dirs-requires-clause-works : goal.failing_dirs-requires-clause-works
failing_dirs-requires-clause-works g c =
    subst (λ (b : List Entry). works_at (numbered (state_of b).jobs c.args.number) ≡ true) (sym c.book.ensures.entries) c.requires.works

pub returns-in-Ok-clause-gone : goal.returns-in-Ok-clause-gone
returns-in-Ok-clause-gone g c =
    let book = entries_of c.args.self.now in
    ok-also c.clear_dirs.result _ _
    (job-goes book c.args.number c.deref.result.now (g.D.Shelf.told c.args.self.now.shelf) (g.D.Shelf.told c.clear_dirs.new.self.shelf)
    (dirs-of book c.book.result.now.entries c.args.number c.in-Ok.dirs.items c.deref.result.now c.book.ensures.entries c.deref.ensures.value c.in-Ok.ensures.dirs))
    c.clear_dirs.ensures.gone

pub returns-in-Ok-clause-some : goal.returns-in-Ok-clause-some
returns-in-Ok-clause-some g c =
    let book = entries_of c.args.self.now in
    err-also c.clear_dirs.result _ _
    (some-job-goes book c.args.number c.deref.result.now (g.D.Shelf.told c.args.self.now.shelf) (g.D.Shelf.told c.clear_dirs.new.self.shelf)
    (dirs-of book c.book.result.now.entries c.args.number c.in-Ok.dirs.items c.deref.result.now c.book.ensures.entries c.deref.ensures.value c.in-Ok.ensures.dirs))
    c.clear_dirs.ensures.some

pub returns-in-Err-clause-some : goal.returns-in-Err-clause-some
returns-in-Err-clause-some g c = no-job-goes (entries_of c.args.self.now) c.args.number (g.D.Shelf.told c.args.self.now.shelf)

pub returns-in-Err-clause-cause : goal.returns-in-Err-clause-cause
returns-in-Err-clause-cause g c = lacking-calls _ _
