use Rattle.std.proofs.Common.{◌≡◌, take}
use Rattle.hv_law_dues.specs.hv_counts.specs.Counts.{dues_wanted}
use Rattle.hv_table_reader.proofs.wanting.dues_wanted.Given as goal

abbrev pub invariant-loop-due : goal.invariant-loop-due
invariant-loop-due g l = l.kept.items ≡ dues_wanted (g.P.Wants.picks l.wants) (take l.due-index l.dues)
