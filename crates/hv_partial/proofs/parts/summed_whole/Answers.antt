use Rattle.std.proofs.Common.{◌≡◌, ◌+◌, ◌≤◌, ◌∷◌, [], ◌++◌, fold, take, length, sym, ap, ◌∙◌}
use Rattle.std.proofs.lemmas.List.{take_all, take_more}
use Rattle.std.proofs.lemmas.List.Sums.{fold-append}
use Rattle.hv_partial.specs.Kept.{summed}
use Rattle.hv_partial.specs.Merged.{summed_merged}
use Rattle.hv_partial.proofs.parts.summed_whole.Goals as goal

pub loop-part-preserved : goal.loop-part-preserved
loop-part-preserved c =
    let sums = c.args.sums.now in
    let parts = c.args.parts.now in
    let i = c.loop-part.part-index in
    let part = c.part-item.result in
    let more : take (i + 1) parts ≡ take i parts ++ part ∷ [] =
    take_more parts i part c.loop-part-test.true ∙ ap (λ p. take i parts ++ p ∷ []) (sym c.part-item.is) in
    c.in_ok-merge.ensures ∙ ap (λ whole. summed_merged sums whole part) c.loop-part.invariant
    ∙ sym (ap (fold (summed_merged sums) (summed sums [])) more ∙ fold-append (summed_merged sums) (summed sums []) (take i parts) (part ∷ []))

pub returns : goal.returns
returns c = λ rows are.
    let sums = c.args.sums.now in
    let parts = c.args.parts.now in
    let done : length parts ≤ c.loop-part.part-index = c.loop-part-test.false in
    let whole : c.loop-part.whole ≡ summed sums rows =
    c.loop-part.invariant ∙ ap (fold (summed_merged sums) (summed sums [])) (take_all c.loop-part.part-index parts done) ∙ are [] in
    c.in_ok-push.ensures.items ∙ (λ i. c.new-kept.ensures.items i ++ whole i ∷ [])
