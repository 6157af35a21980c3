use Rattle.std.proofs.Common.{[], ◌∷◌, length, inl, inr, ap, arith, length-append}
use Rattle.tests_turn.proofs.log.Log.count_added.Goals as goal

pub returns-in-Ok-clause-history : goal.returns-in-Ok-clause-history
returns-in-Ok-clause-history c = inr (c.args.item, c.in-Ok.ensures.added)

pub returns-in-Ok-clause-count : goal.returns-in-Ok-clause-count
returns-in-Ok-clause-count c =
    let more = ap length c.in-Ok.ensures.added in
    let both = length-append c.args.self.now.items.items (c.args.item ∷ []) in
    omega (arith, more, both)

pub returns-in-Err-clause-history : goal.returns-in-Err-clause-history
returns-in-Err-clause-history c = inl c.in-Err.ensures.same

pub returns-in-Err-clause-count : goal.returns-in-Err-clause-count
returns-in-Err-clause-count c =
    let same = ap length c.in-Err.ensures.same in
    omega (arith, same)
