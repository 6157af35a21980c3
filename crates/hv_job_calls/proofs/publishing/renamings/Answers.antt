use Rattle.std.proofs.Common.{◌≡◌, true, Some, List, map, sym, ap, ◌∙◌, subst}
use Rattle.hv_history.specs.declared.entry.Entry.{Entry}
use Rattle.hv_history.specs.State.{state_of, numbered}
use Rattle.hv_jobs.specs.Finals.{finals_of}
use Rattle.hv_finals.specs.Finals.{CanName, works_at, dirs_in}
use Rattle.hv_telling.specs.hv_house.specs.House.{entries_of}
use Rattle.hv_job_calls.specs.Staging.{AreStageable, renamed}
use Rattle.hv_job_calls.proofs.OnOk.{ok-weaker}
use Rattle.hv_job_calls.proofs.Renaming.{can-name, works-true, are-stageable, renamings-are}
use Rattle.hv_job_calls.proofs.publishing.renamings.Goals as goal

pub final_dirs-requires-clause-named : goal.final_dirs-requires-clause-named
final_dirs-requires-clause-named g c =
    subst CanName (sym c.book.ensures.entries)
    (can-name (entries_of c.args.house.now) c.requires.whole.ready.fit c.args.job.0 c.requires.works c.requires.live)

pub final_dirs-requires-clause-works : goal.final_dirs-requires-clause-works
final_dirs-requires-clause-works g c =
    subst (λ (book : List Entry). works_at (numbered (state_of book).jobs c.args.job.0) ≡ true) (sym c.book.ensures.entries)
    (works-true (entries_of c.args.house.now) c.requires.whole.ready.fit c.args.job.0 c.requires.works c.requires.live)

pub rename_from-requires : goal.rename_from-requires
rename_from-requires g c = record {
  named =
      subst (AreStageable c.args.job.0) (sym c.deref.ensures.value)
      (are-stageable (entries_of c.args.house.now) c.requires.whole.ready.fit c.args.job.0 c.requires.works c.requires.live c.in_ok-dirs.dirs.items
      (λ j at. (subst (λ (book : List Entry). numbered (state_of book).jobs c.args.job.0 ≡ Some j → c.in_ok-dirs.dirs.items ≡ dirs_in j.table j.partition (finals_of (state_of book) j))
      c.book.ensures.entries (c.in_ok-dirs.ensures.dirs j)) at));
}

pub returns : goal.returns
returns g c = record {
  renamings =
      ok-weaker c.rename_from.result _ _
      (λ rs is.
      renamings-are (entries_of c.args.house.now) c.requires.whole.ready.fit c.args.job.0 c.requires.works c.requires.live c.in_ok-dirs.dirs.items
      (λ j at. (subst (λ (book : List Entry). numbered (state_of book).jobs c.args.job.0 ≡ Some j → c.in_ok-dirs.dirs.items ≡ dirs_in j.table j.partition (finals_of (state_of book) j))
      c.book.ensures.entries (c.in_ok-dirs.ensures.dirs j)) at)
      rs.items (is ∙ ap (map (renamed c.args.job.0)) c.deref.ensures.value))
      c.rename_from.ensures.renamings;
}
