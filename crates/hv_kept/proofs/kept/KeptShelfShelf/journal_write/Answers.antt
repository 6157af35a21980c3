use Rattle.hv_kept.proofs.KnownLemmas.{journal_known}
use Rattle.hv_kept.proofs.kept.KeptShelfShelf.journal_write.Goals as goal

pub invariant_of-self : goal.invariant_of-self
invariant_of-self g c =
    journal_known c.self.inside.kept c.args.at c.args.bytes.now (g.D.Shelf.told c.self.inside.inner) (g.D.Shelf.told c.journal_write.new.self)
    c.journal_write.result c.journal_write.ensures.done c.journal_write.ensures.torn c.journal_write.ensures.no_memory c.self.invariant
