use Rattle.std.proofs.Common.{ap, ◌∙◌}
use Rattle.std.specs.Prelude.{not, is_none}
use Rattle.hv_history.specs.State.{Transaction}
use Rattle.hv_history.proofs.NumberLemmas.{open-some, open-ended}
use Rattle.hv_history.proofs.numbers.open_place_of.Goals as goal

pub returns-then-is_none : goal.returns-then-is_none
returns-then-is_none c =
    open-some c.args.transactions.now c.args.number c.in_ok-place.place c.index-transactions-place.result
    c.in_ok-place.ensures c.index-transactions-place.is
    (ap (λ (t : Transaction). is_none t.ending) c.index-transactions-place.is ∙ ap not (c.is_none.ensures ∙ ap not c.if-is_none.true))

pub returns-else-is_none : goal.returns-else-is_none
returns-else-is_none c =
    open-ended c.args.transactions.now c.args.number c.in_ok-place.place c.index-transactions-place.result
    c.in_ok-place.ensures c.index-transactions-place.is
    (ap (λ (t : Transaction). is_none t.ending) c.index-transactions-place.is ∙ ap not (c.is_none.ensures ∙ ap not c.if-is_none.false))
