use Rattle.std.proofs.Common.{◌≡◌, map}
use Rattle.hv_compact.specs.Gathering.{inserted}
use Rattle.hv_compact.proofs.writing.insert_all.Given as goal

abbrev pub invariant-loop-shown : goal.invariant-loop-shown
invariant-loop-shown l = l.recs.items ≡ map inserted l.yielded
