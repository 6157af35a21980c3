use Rattle.std.proofs.Common.{◌≡◌, ◌++◌, length, reverse}
use Rattle.std.specs.List.{zip}
use Rattle.hv_keyed.proofs.merging.entries_of.Given as goal

-- what is left, with the entries from the last one on, is all
abbrev pub invariant-loop-key : goal.invariant-loop-key
invariant-loop-key g l =
    (length l.rest.items ≡ length l.left.keys) × (zip l.left.keys l.rest.items ++ reverse l.entries.items ≡ zip l.fn.groups.keys.keys l.fn.groups.kept.items)

abbrev pub decreases-loop-key : goal.decreases-loop-key
decreases-loop-key g l = length l.left.keys
