use Rattle.std.proofs.Common.{inl, sym, ◌∙◌, subst}
use Rattle.hv_history.specs.declared.entry.Entry.TheVariants as entry
use Rattle.hv_session.specs.hv_beginning.specs.hv_steps.specs.hv_table_reader.specs.hv_acts.specs.hv_telling.specs.hv_house.specs.House.{IsSmall}
use Rattle.tests_house.proofs.Facts.{short_idle}
use Rattle.tests_house.proofs.ending.commit_idle.Goals as goal

pub commit-requires-clause-small : goal.commit-requires-clause-small
commit-requires-clause-small g c = subst (λ w. IsSmall (entry.Commit c.args.txn w)) (sym c.empty.ensures) (short_idle c.args.txn)

pub commit-requires-clause-can : goal.commit-requires-clause-can
commit-requires-clause-can g c = record { unbroken = sym c.broken.ensures.broken ∙ c.in-None.is; put = inl c.empty.ensures }
