use Rattle.std.proofs.Common.{◌≡◌, ◌++◌, drop, map}
use Rattle.hv_counts.specs.Miscounts.{due_tally}
use Rattle.hv_counts.proofs.beside.push_dues.Given as goal

abbrev pub invariant-loop-due : goal.invariant-loop-due
invariant-loop-due l =
    l.tallies.items ++ map (due_tally l.deletes) (drop l.due-index l.dues) ≡ l.fn.tallies.items ++ map (due_tally l.deletes) l.dues
