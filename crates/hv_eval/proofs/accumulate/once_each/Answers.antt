use Rattle.std.proofs.Common.{rules, arith, ◌≡◌, [], ◌∷◌, reverse, sym, ap, ◌∙◌}
use Rattle.std.proofs.lemmas.Grind.{common_steps}
use Rattle.std.specs.Ordering.{eq_by_cmp}
use Rattle.indexmap.specs.IndexSet.{insert_key}
use Rattle.hv_value.specs.Order.{value_cmp}
use Rattle.hv_eval.proofs.Once.{with_rest, begins, goes_on}
use Rattle.hv_eval.proofs.accumulate.once_each.Goals as goal

pub loop-value-init : goal.loop-value-init
loop-value-init c =
    let keys : c.new-kept.result.keys ≡ [] = search rules in
    let all : reverse c.reverse.new.self.items ≡ c.args.values.items = grind (arith, common_steps) in
    (λ i. with_rest (keys i) (all i)) ∙ begins c.args.values.items

pub loop-value-preserved : goal.loop-value-preserved
loop-value-preserved c =
    let kept = c.loop-value.kept.keys in
    let rest = reverse c.pop.new.self.items in
    let keys : c.insert.new.self.keys ≡ insert_key (eq_by_cmp value_cmp) kept c.in-Some.value = search rules in
    let left : reverse c.loop-value.rest.items ≡ c.in-Some.value ∷ rest = grind (arith, common_steps) in
    ap (λ k. with_rest k rest) keys ∙ goes_on kept c.in-Some.value rest ∙ ap (with_rest kept) (sym left) ∙ c.loop-value.invariant
