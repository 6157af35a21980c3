use Rattle.std.proofs.Common.{◌∙◌}
use Rattle.hv_history.specs.State.{state_of}
use Rattle.hv_jobs.specs.Finals.{finals_of}
use Rattle.hv_finals.proofs.CallLemmas.{if-ok, calls-lacking}
use Rattle.hv_finals.proofs.LookLemmas.{finals-listed}
use Rattle.hv_finals.proofs.looking.list_finals.Goals as goal

pub returns-in-Ok-clause-listed : goal.returns-in-Ok-clause-listed
returns-in-Ok-clause-listed g c =
    let state = state_of c.args.book.now.entries in
    if-ok c.list_dirs.result _ _ c.list_dirs.ensures.listed
    (λ listed told j at same.
    finals-listed (g.D.Shelf.told c.args.shelf.now) c.args.merge.table j c.deref.result.now (finals_of state j) listed same
    (c.deref.ensures.value ∙ c.in-Ok.ensures.dirs j at) told)

pub returns-in-Err-clause-cause : goal.returns-in-Err-clause-cause
returns-in-Err-clause-cause g c = calls-lacking _ _
