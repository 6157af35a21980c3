use Rattle.hv_kept.proofs.KnownLemmas.{told_known}
use Rattle.hv_kept.proofs.kept.KeptShelfShelf.journal_len.Goals as goal

pub invariant_of-self : goal.invariant_of-self
invariant_of-self g c =
    told_known c.self.inside.kept (g.D.Shelf.told c.self.inside.inner) (g.D.Shelf.told c.journal_len.new.self) c.journal_len.ensures.same c.self.invariant
