use Rattle.std.proofs.Common.{sym, ◌∙◌}
use Rattle.hv_kept.proofs.KnownLemmas.{on_ok, put_undone}
use Rattle.hv_kept.proofs.kept.KeptShelfShelf.put.Goals as goal

pub invariant_of-self : goal.invariant_of-self
invariant_of-self g c =
    c.settle_put.ensures.known c.args.bytes.now (g.D.Shelf.told c.self.inside.inner) (g.D.Shelf.told c.put-done.new.self)
    (λ is. on_ok c.put-done.result _ (sym c.is_ok.ensures.value ∙ is) c.put-done.ensures.done)
    (λ isnt. put_undone c.args.place.now _ _ c.put-done.result (sym c.is_ok.ensures.value ∙ isnt) c.put-done.ensures.torn c.put-done.ensures.no_memory)
    c.self.invariant
