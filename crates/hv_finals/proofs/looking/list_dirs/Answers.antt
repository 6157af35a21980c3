use Rattle.std.proofs.Common.{ap, ◌∙◌, List}
use Rattle.hv_shelf.specs.declared.place.Place.{Place}
use Rattle.hv_finals.specs.Finals.{have_places}
use Rattle.hv_finals.proofs.CallLemmas.{calls-fine, calls-passed}
use Rattle.hv_finals.proofs.LookLemmas.{told-listed}
use Rattle.hv_finals.proofs.looking.list_dirs.Goals as goal

pub returns-in-Ok-clause-listed : goal.returns-in-Ok-clause-listed
returns-in-Ok-clause-listed g c =
    told-listed (g.D.Shelf.told c.args.shelf.now) c.args.table c.in-Ok.places.items c.args.dirs.now c.have_places.result
    (c.have_places.ensures ∙ ap (λ (ps : List Place). have_places ps c.args.dirs.now) c.deref.ensures.value) c.in-Ok.ensures.done

pub returns-in-Ok-clause-cause : goal.returns-in-Ok-clause-cause
returns-in-Ok-clause-cause g c = calls-fine c.list.result c.have_places.result _ _ _ _ c.list.ensures.cause

pub returns-in-Err-clause-cause : goal.returns-in-Err-clause-cause
returns-in-Err-clause-cause g c = calls-passed c.list.result c.in-Err.fault _ _ _ _ c.in-Err.is c.list.ensures.cause
