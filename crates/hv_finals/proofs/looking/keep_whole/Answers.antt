use Rattle.std.proofs.Common.{IsErrOf}
use Rattle.hv_shelf.specs.declared.fault.ShelfFault.TheVariants as shelf
use Rattle.hv_history.specs.State.{state_of}
use Rattle.hv_finals.proofs.CallLemmas.{on-ok, calls-as, calls-up}
use Rattle.hv_finals.proofs.LookLemmas.{looked-at}
use Rattle.hv_finals.proofs.looking.keep_whole.Goals as goal

pub returns-in-Ok-clause-looked : goal.returns-in-Ok-clause-looked
returns-in-Ok-clause-looked g c =
    on-ok c.keep_if.result _ _ c.keep_if.ensures.kept
    (λ kept.
    looked-at (g.D.Shelf.told c.args.shelf.now) (state_of c.args.book.now.entries) c.args.number c.in-Ok.listed c.args.whole.now.items c.keep_if.new.whole.items
    c.requires.works c.in-Ok.ensures.listed kept)

pub returns-in-Ok-clause-cause : goal.returns-in-Ok-clause-cause
returns-in-Ok-clause-cause g c =
    calls-as (IsErrOf c.is_listed.result shelf.Failed) (IsErrOf c.keep_if.result shelf.Failed) _ _ _ _ (λ is. absurd (c.keep_if.ensures.unfailed is))
    c.is_listed.ensures.cause

pub returns-in-Err-clause-cause : goal.returns-in-Err-clause-cause
returns-in-Err-clause-cause g c = calls-up c.is_listed.result c.in-Err.fault _ _ _ _ c.in-Err.is c.is_listed.ensures.cause
