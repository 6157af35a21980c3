-- A read that was interrupted has taken nothing.
use Rattle.std.proofs.Common.{◌≡◌, length}
use Rattle.std.specs.Io.KnownBytes.{Keeps}
use Rattle.hv_streams.proofs.std_source.read_once.Given as goal

abbrev pub invariant-loop : goal.invariant-loop
invariant-loop g l =
    (length l.out ≡ length l.initial.out)
    × Keeps (g.R.Read.remaining l.initial.reader) (g.R.Read.remaining l.reader)
