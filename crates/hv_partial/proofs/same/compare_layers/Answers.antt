use Rattle.std.proofs.Common.{sym, ◌∙◌}
use Rattle.std.specs.Ordering.{ordering_then}
use Rattle.std.specs.Cmp.Lexicographic.{slice_cmp}
use Rattle.hv_value.specs.Order.{layer_cmp, value_cmp}
use Rattle.hv_partial.proofs.KeyLaws.{seen_cmp}
use Rattle.hv_partial.proofs.same.compare_layers.Goals as goal

pub returns : goal.returns
unfolding layer_cmp
returns c =
    c.then.ensures
    ∙ (λ i. ordering_then (c.compare_scalars.ensures i)
    ((c.cmp.ensures ∙ (λ j. slice_cmp value_cmp (c.items.ensures j) (c.items-2.ensures j))) i))
    ∙ sym (seen_cmp c.args.left.now c.args.right.now)
