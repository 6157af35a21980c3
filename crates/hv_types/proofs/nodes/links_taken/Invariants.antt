use Rattle.std.proofs.Common.{◌≡◌, map}
use Rattle.hv_typing.specs.Nodes.{link_taken}
use Rattle.hv_types.proofs.nodes.links_taken.Given as goal

abbrev pub invariant-loop-link : goal.invariant-loop-link
invariant-loop-link l = l.made.items ≡ map link_taken l.yielded
