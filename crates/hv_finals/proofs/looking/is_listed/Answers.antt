use Rattle.std.proofs.Common.{sym, ◌∙◌}
use Rattle.hv_history.specs.State.{state_of}
use Rattle.hv_jobs.specs.Finals.{finals_of}
use Rattle.hv_finals.proofs.CallLemmas.{if-ok, calls-still}
use Rattle.hv_finals.proofs.RangeLemmas.{merge-table}
use Rattle.hv_finals.proofs.DirLemmas.{none-made}
use Rattle.hv_finals.proofs.LookLemmas.{none-listed}
use Rattle.hv_finals.proofs.looking.is_listed.Goals as goal

pub returns-in-Some-clause-listed : goal.returns-in-Some-clause-listed
returns-in-Some-clause-listed g c =
    let state = state_of c.args.book.now.entries in
    if-ok c.list_finals.result _ _ c.list_finals.ensures.listed
    (λ listed told j at. told j at (merge-table state j c.in-Some.merge (sym c.in-Some.is ∙ c.merge_of.ensures.merge j at)))

pub returns-in-None-clause-listed : goal.returns-in-None-clause-listed
returns-in-None-clause-listed g c =
    let state = state_of c.args.book.now.entries in
    λ j at. none-listed (g.D.Shelf.told c.args.shelf.now) j (finals_of state j) (none-made state j (sym c.in-None.is ∙ c.merge_of.ensures.merge j at))

pub returns-in-None-clause-cause : goal.returns-in-None-clause-cause
returns-in-None-clause-cause g c = calls-still _ _ _
