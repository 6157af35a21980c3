use Rattle.std.proofs.Common.{◌≡◌, take}
use Rattle.tests_low.proofs.trees.+trees.Given as goal

abbrev pub invariant-duplicates-loop-tree : goal.invariant-duplicates-loop-tree
invariant-duplicates-loop-tree l = l.copy.items ≡ take l.tree-index l.trees
