use Rattle.std.proofs.Common.{◌-◌, ◌≤◌, length, take}
use Rattle.hv_base.specs.Sink.{Gains}
use Rattle.hv_base.specs.Told.{Moves}
use Rattle.hv_base.proofs.sink.write_all.Given as goal

abbrev pub invariant-loop-done : goal.invariant-loop-done
invariant-loop-done g l = record {
  within : l.done ≤ length l.bytes;
  gained : Moves (Gains (take l.done l.bytes)) (g.K.Sink.written l.initial.sink) (g.K.Sink.written l.sink);
  later : g.K.Sink.faults l.initial.sink ≤ g.K.Sink.faults l.sink;
}

abbrev pub decreases-loop-done : goal.decreases-loop-done
decreases-loop-done g l = length l.bytes - l.done
