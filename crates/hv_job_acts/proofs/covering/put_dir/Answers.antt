use Rattle.std.proofs.Common.{inl, inr, true≢false, refl, sym, ◌∙◌}
use Rattle.hv_tallies.proofs.CoveredLemmas.{then-ok}
use Rattle.hv_job_acts.proofs.covering.put_dir.Goals as goal

pub put_left-requires : goal.put_left-requires
put_left-requires c = record { named = c.is_left.ensures.named c.if-is_left.true }

pub returns-then-is_left : goal.returns-then-is_left
returns-then-is_left c =
    then-ok c.put_left.result c.put_left.ensures (λ put j at. inl (put, (c.is_left.ensures.left j at).0 c.if-is_left.true))

pub returns-else-is_left : goal.returns-else-is_left
returns-else-is_left c = λ j at. inr (refl, λ left. true≢false (sym ((c.is_left.ensures.left j at).1 left) ∙ c.if-is_left.false))
