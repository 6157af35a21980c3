use Rattle.std.proofs.Common.{◌≡◌, ◌++◌, take}
use Rattle.std.specs.List.{flat_map, join_with_byte}
use Rattle.hv_history.specs.Answers.{tab, line, row_line}
use Rattle.hv_history.proofs.answers.listing.Given as goal

abbrev pub invariant-loop-row : goal.invariant-loop-row
invariant-loop-row l = l.out.items ≡ line (join_with_byte tab l.names) ++ flat_map row_line (take l.row-index l.rows)
