use Rattle.std.proofs.Common.{refl, ap, ◌∙◌}
use Rattle.hv_base.proofs.SourceLemmas.{GivesNext-slice}
use Rattle.hv_shelf.proofs.disk.MemoryDisk.read.Goals as goal

pub returns-clause-read : goal.returns-clause-read
returns-clause-read c =
    GivesNext-slice _ _ _ c.args.self.now.journal _ _ _
    (c.deref.ensures.value ∙ ap (λ s. s.journal) c.self.view_is) refl c.copy_from_slice.ensures.after c.min-count.ensures
