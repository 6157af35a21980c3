use Rattle.std.proofs.Common.{true, false, refl, sym, ◌∙◌}
use Rattle.hv_history.specs.State.{state_of}
use Rattle.hv_waiting.proofs.Walks.{ahead-some, ahead-none}
use Rattle.hv_waiting.proofs.ahead.goes_ahead.Goals as goal

pub returns-then-goes_first : goal.returns-then-goes_first
returns-then-goes_first c =
    ahead-some (state_of c.args.book.now.entries) c.args.own c.args.other c.args.tree.now c.in-Some.that.now c.requires.texts c.in-Some.ensures.tree true c.locks_conflict.result
    (sym c.if-goes_first.true ∙ c.goes_first.ensures) c.locks_conflict.ensures

pub returns-else-goes_first : goal.returns-else-goes_first
returns-else-goes_first c =
    c.if-goes_first.false
    ∙ ahead-some (state_of c.args.book.now.entries) c.args.own c.args.other c.args.tree.now c.in-Some.that.now c.requires.texts c.in-Some.ensures.tree false _
    (sym c.if-goes_first.false ∙ c.goes_first.ensures) refl

pub returns-in-None : goal.returns-in-None
returns-in-None c = ahead-none (state_of c.args.book.now.entries) c.args.own c.args.other c.args.tree.now c.requires.texts c.in-None.ensures.tree
