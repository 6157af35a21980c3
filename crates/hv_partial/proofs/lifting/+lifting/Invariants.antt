use Rattle.std.proofs.Common.{take}
use Rattle.hv_partial.specs.Lifts.{AllLift, BranchesLift, LinksLift}
use Rattle.hv_partial.proofs.lifting.+lifting.Given as goal

abbrev pub invariant-all_lifted-loop-expr : goal.invariant-all_lifted-loop-expr
invariant-all_lifted-loop-expr l = AllLift l.initial.sums.items l.sums.items l.count (take l.expr-index l.exprs) l.made.items

abbrev pub invariant-links_lifted-loop-link : goal.invariant-links_lifted-loop-link
invariant-links_lifted-loop-link l = LinksLift l.initial.sums.items l.sums.items l.count (take l.link-index l.links) l.made.items

abbrev pub invariant-branches_lifted-loop-branch : goal.invariant-branches_lifted-loop-branch
invariant-branches_lifted-loop-branch l =
    BranchesLift l.initial.sums.items l.sums.items l.count (take l.branch-index l.branches) l.made.items
