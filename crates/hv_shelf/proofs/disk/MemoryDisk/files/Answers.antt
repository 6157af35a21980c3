use Rattle.std.proofs.Common.{ap, sym, ◌∙◌}
use Rattle.std.specs.FinMap as tree
use Rattle.hv_shelf.proofs.TreeLemmas.{entries-files}
use Rattle.hv_shelf.proofs.disk.MemoryDisk.files.Goals as goal

pub returns : goal.returns
returns c = sym (entries-files c.self.inside.files.entries c.self.invariant) ∙ ap (λ s. tree.entries s.tree) c.self.view_is
