use Rattle.std.proofs.Common.{rules, tests, sym, ap, ◌∙◌, filter, subst}
use Rattle.std.specs.List.Sorted.{IsNonDecreasingBy}
use Rattle.std.proofs.lemmas.Fn.{filter_same}
use Rattle.std.proofs.lemmas.List.Kept.{IsNonDecreasingBy-filter}
use Rattle.hv_ids.specs.Ids.{Pending, note_table, is_of_other}
use Rattle.hv_ids.proofs.pending.PendingIds.take_out.Goals as goal

pub invariant_of-self : goal.invariant_of-self
invariant_of-self c =
    subst (IsNonDecreasingBy note_table) (sym (filter_same _ (is_of_other c.args.txn) _ (λ x b f k. search (rules, tests)) _ _ c.retain.ensures.filtered))
    (IsNonDecreasingBy-filter note_table (is_of_other c.args.txn) c.self.inside.ids.items c.self.invariant)

pub returns-clause-ids : goal.returns-clause-ids
returns-clause-ids c =
    filter_same _ (is_of_other c.args.txn) _ (λ x b f k. search (rules, tests)) _ _ c.retain.ensures.filtered
    ∙ ap (λ (p : Pending). filter (is_of_other c.args.txn) p.ids) c.self.view_is
