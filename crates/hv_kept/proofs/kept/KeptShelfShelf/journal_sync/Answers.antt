use Rattle.hv_kept.proofs.KnownLemmas.{tree_known}
use Rattle.hv_kept.proofs.kept.KeptShelfShelf.journal_sync.Goals as goal

pub invariant_of-self : goal.invariant_of-self
invariant_of-self g c =
    tree_known c.self.inside.kept (g.D.Shelf.told c.self.inside.inner) (g.D.Shelf.told c.journal_sync.new.self) c.journal_sync.ensures.tree c.self.invariant
