use Rattle.std.proofs.Common.{sym, ◌∙◌}
use Rattle.hv_kept.proofs.KnownLemmas.{on_ok}
use Rattle.hv_kept.proofs.MovedLemmas.{has_moved, free_from}
use Rattle.hv_kept.proofs.names.rename.Goals as goal

pub returns : goal.returns
returns c =
    λ is. has_moved c.args.from.now c.args.to.now c.args.names.now c.remove.new.self c.put_all.new.names.tree c.deref.result.now
    (free_from _ _ c.is_free.ensures c.if-not-is_free.false) (c.deref.ensures.value ∙ c.in-Ok.ensures) c.remove.ensures
    (on_ok c.put_all.result _ (sym c.is_ok.ensures.value ∙ is) c.put_all.ensures.names)
