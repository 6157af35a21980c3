use Rattle.std.proofs.Common.{◌≡◌, drop}
use Rattle.hv_typing.specs.Standing.{all_stand, links_stand, branches_stand, stands_grouped}
use Rattle.hv_grouping.proofs.standing.+standing.Given as goal

abbrev pub invariant-all_stand-loop-expr : goal.invariant-all_stand-loop-expr
invariant-all_stand-loop-expr l = all_stand (stands_grouped l.keys) (drop l.expr-index l.exprs) ≡ all_stand (stands_grouped l.keys) l.exprs

abbrev pub invariant-links_stand-loop-link : goal.invariant-links_stand-loop-link
invariant-links_stand-loop-link l = links_stand (stands_grouped l.keys) (drop l.link-index l.links) ≡ links_stand (stands_grouped l.keys) l.links

abbrev pub invariant-branches_stand-loop-branch : goal.invariant-branches_stand-loop-branch
invariant-branches_stand-loop-branch l =
    branches_stand (stands_grouped l.keys) (drop l.branch-index l.branches) ≡ branches_stand (stands_grouped l.keys) l.branches
