use Rattle.std.proofs.Common.{◌≡◌, map, take}
use Rattle.hv_earlier.specs.Places.{write_of}
use Rattle.hv_earlier.proofs.earlier.writes_of.Given as goal

abbrev pub invariant-loop-exception : goal.invariant-loop-exception
invariant-loop-exception l = l.writes.items ≡ map write_of (take l.exception-index l.exceptions)
