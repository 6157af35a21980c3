use Rattle.std.proofs.Common.{◌≡◌, ◌≤◌, ◌^◌, take}
use Rattle.hv_compact.specs.Gathering.{buckets_of}
use Rattle.hv_compact.proofs.writing.buckets_of.Given as goal

abbrev pub invariant-loop-file : goal.invariant-loop-file
invariant-loop-file l = (l.count ≡ buckets_of (take l.file-index l.files)) × (l.count ≤ 2 ^ 32)
