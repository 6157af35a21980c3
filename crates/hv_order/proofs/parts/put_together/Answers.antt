use Rattle.std.proofs.Common.{◌≡◌, ◌-◌, length, slice_get, ◌∙◌}
use Rattle.hv_shuffle.proofs.ShuffleLemmas.{joins_more}
use Rattle.hv_order.specs.Parts.{seam_holds}
use Rattle.hv_order.proofs.Seams.{together_more}
use Rattle.hv_order.proofs.parts.put_together.Goals as goal

pub loop-answer-preserved : goal.loop-answer-preserved
loop-answer-preserved c =
    let keys = c.args.keys.now in
    let rows = c.loop-answer.rows.items in
    let list = c.in_ok-list.list in
    let answers = c.loop-answer.yielded in
    let seam : c.follows-in_order.result ≡ seam_holds keys (slice_get rows (length rows - 1)) (slice_get list.items 0) =
    c.follows-in_order.ensures ∙ (λ i. seam_holds keys (slice_get (c.as_slice.ensures.value i) (length (c.as_slice.ensures.value i) - 1)) (slice_get (c.as_slice-in-loop-answer.ensures.value i) 0)) in
    record {
      joined = rw c.in_ok-append.ensures.items (joins_more answers rows c.in-Some.answer list c.loop-answer.invariant.joined c.in_ok-list.was);
      sorted = λ now all.
          rw c.in_ok-append.ensures.items
          (together_more keys answers rows c.in-Some.answer list c.loop-answer.in_order c.follows-in_order.result c.in_ok-list.was seam c.loop-answer.invariant.sorted now all);
    }
