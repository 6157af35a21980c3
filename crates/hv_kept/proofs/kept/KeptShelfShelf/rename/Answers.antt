use Rattle.std.proofs.Common.{sym, ◌∙◌}
use Rattle.hv_kept.proofs.KnownLemmas.{on_ok, rename_undone}
use Rattle.hv_kept.proofs.kept.KeptShelfShelf.rename.Goals as goal

pub invariant_of-self : goal.invariant_of-self
invariant_of-self g c =
    c.settle_rename.ensures.known (g.D.Shelf.told c.self.inside.inner) (g.D.Shelf.told c.rename-done.new.self)
    (λ is. on_ok c.rename-done.result _ (sym c.is_ok.ensures.value ∙ is) c.rename-done.ensures.done)
    (λ isnt. rename_undone c.args.from.now c.args.to.now _ _ c.rename-done.result (sym c.is_ok.ensures.value ∙ isnt) c.rename-done.ensures.torn
    c.rename-done.ensures.no_memory)
    c.self.invariant
