-- A write that was interrupted has written nothing.
use Rattle.std.specs.Io.KnownBytes.{Keeps}
use Rattle.hv_streams.proofs.std_sink.write_once.Given as goal

abbrev pub invariant-loop : goal.invariant-loop
invariant-loop g l = Keeps (g.W.Write.contents l.initial.writer) (g.W.Write.contents l.writer)
