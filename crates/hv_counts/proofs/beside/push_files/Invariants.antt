use Rattle.std.proofs.Common.{◌≡◌, ◌+◌, ◌++◌, drop}
use Rattle.hv_counts.specs.Miscounts.{file_tallies}
use Rattle.hv_counts.proofs.beside.push_files.Given as goal

abbrev pub invariant-loop-i : goal.invariant-loop-i
invariant-loop-i l =
    l.tallies.items ++ file_tallies (l.i + 1) (drop l.i l.files) (drop l.i l.counts) ≡ l.fn.tallies.items ++ file_tallies 1 l.files l.counts
