use Rattle.std.proofs.Common.{◌≡◌, take}
use Rattle.hv_eval.specs.Frames.{frames_values}
use Rattle.hv_chunks.specs.Chunks.{chunks_seen}
use Rattle.hv_workers.proofs.standing.frames_of_chunks.Given as goal

abbrev pub invariant-loop-chunk : goal.invariant-loop-chunk
invariant-loop-chunk l = frames_values l.frames.items ≡ chunks_seen (take l.chunk-index l.chunks)
