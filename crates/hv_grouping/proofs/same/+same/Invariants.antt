use Rattle.std.proofs.Common.{◌≡◌, drop}
use Rattle.hv_typing.specs.Same.{all_same, links_same, branches_same, same_tree}
use Rattle.hv_grouping.proofs.same.+same.Given as goal

abbrev pub invariant-all_same-loop-u : goal.invariant-all_same-loop-u
invariant-all_same-loop-u l = all_same same_tree l.rest (drop l.u-index l.right) ≡ all_same same_tree l.left l.right

abbrev pub invariant-links_same-loop-other : goal.invariant-links_same-loop-other
invariant-links_same-loop-other l = links_same same_tree l.rest (drop l.other-index l.right) ≡ links_same same_tree l.left l.right

abbrev pub invariant-branches_same-loop-other : goal.invariant-branches_same-loop-other
invariant-branches_same-loop-other l = branches_same same_tree l.rest (drop l.other-index l.right) ≡ branches_same same_tree l.left l.right
