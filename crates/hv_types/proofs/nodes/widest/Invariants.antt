use Rattle.std.proofs.Common.{◌≡◌, drop}
use Rattle.hv_typing.specs.Nodes.{widest}
use Rattle.hv_types.proofs.nodes.widest.Given as goal

abbrev pub invariant-loop-link : goal.invariant-loop-link
invariant-loop-link l = widest l.kind (drop l.link-index l.links) ≡ widest l.initial.kind l.links
