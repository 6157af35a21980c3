use Rattle.hv_fits.proofs.Growing.{fit-more}
use Rattle.hv_fits.proofs.LockLemmas.{texts-run}
use Rattle.hv_fits.proofs.fitting.fits.Goals as goal

pub is_fitting-requires-clause-texts : goal.is_fitting-requires-clause-texts
is_fitting-requires-clause-texts c = texts-run c.args.limits.now c.args.book.now.entries c.requires.fit

pub returns : goal.returns
returns c = record {
  fits = c.is_fitting.ensures.fits;
  grows = λ yes. fit-more c.args.limits.now c.args.book.now.entries c.args.entry.now c.requires.fit (c.is_fitting.ensures.fits.0 yes);
}
