use Rattle.std.proofs.Common.{◌≡◌, ◌+◌, ◌-◌, ◌≤◌, length, vec_len}
use Rattle.hv_base.specs.Source.{GivesFront}
use Rattle.hv_base.specs.Told.{Moves}
use Rattle.hv_base.proofs.source.read_all.Given as goal

abbrev pub invariant-loop-bytes : goal.invariant-loop-bytes
invariant-loop-bytes g l = record {
  chunk : length l.chunk ≡ 65536;
  within : vec_len l.bytes ≤ l.limit;
  given : Moves (GivesFront l.bytes.items) (g.S.Source.left l.initial.source) (g.S.Source.left l.source);
  later : g.S.Source.faults l.initial.source ≤ g.S.Source.faults l.source;
  reads : g.S.Source.reads l.source ≤ g.S.Source.reads l.initial.source + vec_len l.bytes;
}

abbrev pub decreases-loop-bytes : goal.decreases-loop-bytes
decreases-loop-bytes g l = l.limit - vec_len l.bytes
