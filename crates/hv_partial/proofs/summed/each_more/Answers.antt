use Rattle.std.proofs.Common.{arith, ◌<◌, ◌≤◌, min, length, map, length-set, ◌∙◌}
use Rattle.hv_seen.specs.Seen.{seen_value}
use Rattle.hv_eval.specs.Frames.{frame_values}
use Rattle.hv_partial.specs.Kept.{each_more}
use Rattle.hv_partial.proofs.KeptLaws.{each_turn, each_done}
use Rattle.hv_partial.proofs.summed.each_more.Goals as goal

pub loop-place-preserved : goal.loop-place-preserved
loop-place-preserved c =
    let sums = c.args.sums.now in
    let kept = c.loop-place.kept.items in
    let place = c.loop-place.place in
    let row = frame_values c.args.row.now in
    let next = c.in_ok-next.next in
    let within : place < length sums = omega arith in
    let long : place < length kept = omega arith in
    record {
      same_length = length-set kept place next ∙ c.loop-place.invariant.same_length;
      so_far = each_turn sums kept (each_more sums (map seen_value c.args.kept.now.items) row) row place c.index-sums-place.result c.index.result.now next within long
          c.index-sums-place.is c.index.ensures c.in_ok-next.ensures c.loop-place.invariant.so_far;
    }

pub returns : goal.returns
returns c =
    let sums = c.args.sums.now in
    let kept = c.loop-place.kept.items in
    let row = frame_values c.args.row.now in
    let done : min (length sums) (length kept) ≤ c.loop-place.place = omega arith in
    each_done sums kept (each_more sums (map seen_value c.args.kept.now.items) row) row c.loop-place.place done c.loop-place.invariant.so_far
