use Rattle.std.proofs.Common.{◌≡◌, ◌-◌, ◌≤◌, length, vec_len}
use Rattle.hv_base.specs.Source.{GivesFront}
use Rattle.hv_base.specs.Told.{Moves}
use Rattle.hv_program.proofs.reading.read_front.Given as goal

abbrev pub invariant-loop-chunk : goal.invariant-loop-chunk
invariant-loop-chunk g l = record {
  chunk : length l.chunk ≡ 65536;
  within : vec_len l.bytes ≤ l.most;
  later : g.S.Source.faults l.initial.source ≤ g.S.Source.faults l.source;
  given : Moves (GivesFront l.bytes.items) (g.S.Source.left l.initial.source) (g.S.Source.left l.source);
}

abbrev pub decreases-loop-chunk : goal.decreases-loop-chunk
decreases-loop-chunk g l = l.most - vec_len l.bytes
