use Rattle.std.proofs.Common.{sym, ◌∙◌}
use Rattle.hv_rewrite.specs.Fits.{fits}
use Rattle.hv_rewrite.proofs.Fitting.{query-wide}
use Rattle.hv_rewrite.proofs.fits.widths_fit.Goals as goal

pub returns-clause-fits : goal.returns-clause-fits
unfolding fits
returns-clause-fits c = c.query_fits.ensures

pub returns-clause-wide : goal.returns-clause-wide
unfolding fits
returns-clause-wide c h tables have = query-wide c.args.counts.now tables have c.args.query.now (sym c.query_fits.ensures ∙ h)
