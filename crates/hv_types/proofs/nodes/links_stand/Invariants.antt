use Rattle.std.proofs.Common.{◌≡◌, drop}
use Rattle.std.specs.List.{list_all}
use Rattle.hv_typing.specs.Nodes.{link_stands}
use Rattle.hv_types.proofs.nodes.links_stand.Given as goal

abbrev pub invariant-loop-link : goal.invariant-loop-link
invariant-loop-link l = list_all link_stands (drop l.link-index l.links) ≡ list_all link_stands l.links
