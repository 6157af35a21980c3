use Rattle.std.proofs.Common.{map, None}
use Rattle.std.specs.List.{AllByRecursion}
use Rattle.hv_rowfile.specs.Layout.{RisesFrom}
use Rattle.tests_low.proofs.merges.answer.Given as goal

abbrev pub invariant-loop-part : goal.invariant-loop-part
invariant-loop-part l = AllByRecursion (RisesFrom None) (map (λ file. file.items) l.files.items)
