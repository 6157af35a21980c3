use Rattle.std.proofs.Common.{◌≡◌, ◌+◌, ◌∷◌, [], ◌++◌, take, sym, ap, ◌∙◌}
use Rattle.std.proofs.lemmas.List.{map-append, take_more}
use Rattle.hv_eval.specs.Frames.{frame_values, frames_values}
use Rattle.hv_chunks.specs.Chunks.{chunks_seen}
use Rattle.hv_joins.specs.Lines.{lines_seen}
use Rattle.hv_chunks.proofs.ChunkLaws.{chunks_more}
use Rattle.hv_workers.proofs.standing.frames_of_chunks.Goals as goal

pub loop-chunk-preserved : goal.loop-chunk-preserved
loop-chunk-preserved c =
    let chunks = c.args.chunks.now in
    let i = c.loop-chunk.chunk-index in
    let chunk = c.chunk-item.result in
    let next : take (i + 1) chunks ≡ take i chunks ++ chunk ∷ [] =
    take_more chunks i chunk c.loop-chunk-test.true ∙ ap (λ x. take i chunks ++ x ∷ []) (sym c.chunk-item.is) in
    ap frames_values c.in_ok-append.ensures.items ∙ map-append frame_values c.loop-chunk.frames.items c.in_ok-more.more.items
    ∙ (λ j. c.loop-chunk.invariant j ++ (c.in_ok-more.ensures ∙ ap lines_seen c.as_slice.ensures.value) j)
    ∙ sym (ap chunks_seen next ∙ chunks_more (take i chunks) chunk)
