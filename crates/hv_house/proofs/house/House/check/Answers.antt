use Rattle.std.proofs.Common.{sym, subst}
use Rattle.hv_history.specs.State.{state_of}
use Rattle.hv_recovery.specs.hv_fits.specs.Texts.{TextsRun}
use Rattle.hv_recovery.specs.hv_fits.proofs.LockLemmas.{texts-run}
use Rattle.hv_house.specs.House.{entries_of}
use Rattle.hv_house.proofs.house.House.check.Goals as goal

pub first_holder-requires : goal.first_holder-requires
first_holder-requires g c = record {
  texts = subst (λ book. TextsRun (state_of book)) (sym c.book.ensures.entries) (texts-run g.limits (entries_of c.args.self.now) c.requires.1.fit);
}
