use Rattle.std.proofs.Common.{◌≡◌, ◌++◌, take, map}
use Rattle.std.specs.List.{join_with_byte}
use Rattle.hv_value.specs.Printing.{printed}
use Rattle.hv_history.specs.Answers.{tab}
use Rattle.hv_history.proofs.answers.put_values.Given as goal

abbrev pub invariant-loop-i : goal.invariant-loop-i
invariant-loop-i l = l.out.items ≡ l.initial.out.items ++ join_with_byte tab (take l.i (map printed l.values))
