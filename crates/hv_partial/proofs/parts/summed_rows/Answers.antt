use Rattle.std.proofs.Common.{◌≡◌, ◌+◌, ◌∷◌, [], ◌++◌, take, sym, ap, ◌∙◌}
use Rattle.std.proofs.lemmas.List.{map-append, take_more}
use Rattle.hv_eval.specs.Frames.{frame_values, frames_values}
use Rattle.hv_partial.specs.Kept.{summed, summed_more}
use Rattle.hv_partial.proofs.KeptLaws.{row_more}
use Rattle.hv_partial.proofs.parts.summed_rows.Goals as goal

pub loop-row-preserved : goal.loop-row-preserved
loop-row-preserved c =
    let sums = c.args.sums.now in
    let rows = c.args.rows.now in
    let i = c.loop-row.row-index in
    let row = c.row-item.result in
    let more : take (i + 1) rows ≡ take i rows ++ row ∷ [] =
    take_more rows i row c.loop-row-test.true ∙ ap (λ r. take i rows ++ r ∷ []) (sym c.row-item.is) in
    c.in_ok-add.ensures ∙ ap (λ kept. summed_more sums kept (frame_values row)) c.loop-row.invariant ∙ row_more sums (frames_values (take i rows)) (frame_values row)
    ∙ ap (summed sums) (sym (ap frames_values more ∙ map-append frame_values (take i rows) (row ∷ [])))
