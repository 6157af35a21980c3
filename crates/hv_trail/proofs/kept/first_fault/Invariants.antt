use Rattle.std.proofs.Common.{◌≡◌, drop}
use Rattle.hv_trail.specs.Kept.{broken_in}
use Rattle.hv_trail.proofs.kept.first_fault.Given as goal

abbrev pub invariant-loop-kept : goal.invariant-loop-kept
invariant-loop-kept l = broken_in l.reader (drop l.kept-index l.marks) ≡ broken_in l.reader l.marks
