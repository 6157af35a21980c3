use Rattle.std.proofs.Common.{sym, ◌∙◌}
use Rattle.hv_kept.proofs.KnownLemmas.{on_ok, remove_undone}
use Rattle.hv_kept.proofs.kept.KeptShelfShelf.remove.Goals as goal

pub invariant_of-self : goal.invariant_of-self
invariant_of-self g c =
    c.settle_remove.ensures.known (g.D.Shelf.told c.self.inside.inner) (g.D.Shelf.told c.remove-done.new.self)
    (λ is. on_ok c.remove-done.result _ (sym c.is_ok.ensures.value ∙ is) c.remove-done.ensures.done)
    (λ isnt. remove_undone c.args.dir.now _ _ c.remove-done.result (sym c.is_ok.ensures.value ∙ isnt) c.remove-done.ensures.torn)
    c.self.invariant
