use Rattle.std.proofs.Common.{◌≡◌, ◌++◌, take}
use Rattle.std.specs.List.{join_with_byte}
use Rattle.hv_history.specs.Answers.{tab}
use Rattle.hv_history.proofs.answers.put_names.Given as goal

abbrev pub invariant-loop-i : goal.invariant-loop-i
invariant-loop-i l = l.out.items ≡ l.initial.out.items ++ join_with_byte tab (take l.i l.names)
