use Rattle.std.proofs.Common.{◌≡◌, drop}
use Rattle.hv_law_expr.specs.Places.{looks_only, only_all, only_links}
use Rattle.hv_rewrite.specs.Conditions.{within}
use Rattle.hv_rewrite.proofs.places.+reach.Given as goal

abbrev pub invariant-only_all-loop-expr : goal.invariant-only_all-loop-expr
invariant-only_all-loop-expr l =
    only_all (looks_only (within l.places.from l.places.to)) (drop l.expr-index l.exprs)
    ≡ only_all (looks_only (within l.places.from l.places.to)) l.exprs

abbrev pub invariant-only_links-loop-link : goal.invariant-only_links-loop-link
invariant-only_links-loop-link l =
    only_links (looks_only (within l.places.from l.places.to)) (drop l.link-index l.links)
    ≡ only_links (looks_only (within l.places.from l.places.to)) l.links
