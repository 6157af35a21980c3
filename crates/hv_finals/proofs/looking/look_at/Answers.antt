use Rattle.std.proofs.Common.{refl, sym, ◌∙◌}
use Rattle.hv_history.specs.State.{state_of}
use Rattle.hv_finals.proofs.CallLemmas.{calls-still}
use Rattle.hv_finals.proofs.LookLemmas.{idle-looked}
use Rattle.hv_finals.proofs.looking.look_at.Goals as goal

pub keep_whole-requires-clause-works : goal.keep_whole-requires-clause-works
keep_whole-requires-clause-works g c = sym c.is_at_work.ensures.works ∙ c.if-is_at_work.true

pub returns-else-is_at_work-clause-looked : goal.returns-else-is_at_work-clause-looked
returns-else-is_at_work-clause-looked g c =
    idle-looked (g.D.Shelf.told c.args.shelf.now) (state_of c.args.book.now.entries) c.args.number c.args.whole.now.items c.args.whole.now.items
    (sym c.is_at_work.ensures.works ∙ c.if-is_at_work.false) refl

pub returns-else-is_at_work-clause-cause : goal.returns-else-is_at_work-clause-cause
returns-else-is_at_work-clause-cause g c = calls-still _ _ _
