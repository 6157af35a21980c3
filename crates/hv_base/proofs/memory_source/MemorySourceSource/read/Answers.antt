use Rattle.std.proofs.Common.{ap}
use Rattle.hv_base.proofs.SourceLemmas.{GivesNext-slice}
use Rattle.hv_base.proofs.memory_source.MemorySourceSource.read.Goals as goal

pub returns-clause-done : goal.returns-clause-done
returns-clause-done c =
    GivesNext-slice _ _ _ _ _ _ _
    c.deref-2.ensures.value (ap (λ s. s.left) c.self.view_is) c.copy_from_slice.ensures.after c.min-count.ensures
