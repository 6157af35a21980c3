use Rattle.std.proofs.Common.{◌≡◌}
use Rattle.hv_files.specs.Acts.{Keeps}
use Rattle.hv_files.proofs.tree.Tree.list.Given as goal

abbrev pub invariant-loop : goal.invariant-loop
invariant-loop g l =
    Keeps (g.S.System.did l.initial.system) (g.S.System.did l.system)
    × (l.self.root ≡ l.initial.self.root)
