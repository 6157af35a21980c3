use Rattle.std.proofs.Common.{◌≡◌, ◌∙◌, List, sym, subst, IsPermutation}
use Rattle.std.proofs.lemmas.List.{with_items_is}
use Rattle.std.proofs.lemmas.List.Sorted.{IsPermutation-trans, length_permutation}
use Rattle.std.specs.Vec.{with_items}
use Rattle.hv_value.specs.declared.row.Row.{Row}
use Rattle.hv_order.proofs.arrange.Goals as goal

pub returns : goal.returns
returns c =
    let moved = c.sort_by_cached_key.new.self in
    let sorted = c.sort_ties.new.rows in
    let lent = c.as_mut_slice.ensures in
    let back : (with_items moved sorted).items ≡ sorted = with_items_is moved sorted (length_permutation _ _ c.sort_ties.ensures ∙ lent.len) in
    subst (IsPermutation c.args.rows.now.items) (sym back)
    (IsPermutation-trans c.args.rows.now.items moved.items sorted c.sort_by_cached_key.ensures.permutation
    (subst (λ (rows : List Row). IsPermutation rows sorted) lent.value c.sort_ties.ensures))
