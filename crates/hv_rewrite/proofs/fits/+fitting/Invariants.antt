use Rattle.std.proofs.Common.{◌≡◌, drop}
use Rattle.hv_law_query.proofs.Weights.{source_weight, joins_weight, from_weight, select_weight, unions_weight, query_weight}
use Rattle.hv_rewrite.specs.Wide.{joins_wide, unions_wide}
use Rattle.hv_rewrite.specs.Fits.{source_fits}
use Rattle.hv_rewrite.proofs.fits.+fitting.Given as goal

abbrev pub invariant-joins_fit-loop-join : goal.invariant-joins_fit-loop-join
invariant-joins_fit-loop-join l =
    joins_wide (source_fits l.counts) (drop l.join-index l.joins) ≡ joins_wide (source_fits l.counts) l.joins

abbrev pub invariant-unions_fit-loop-next : goal.invariant-unions_fit-loop-next
invariant-unions_fit-loop-next l =
    unions_wide (source_fits l.counts) (drop l.next-index l.unions) ≡ unions_wide (source_fits l.counts) l.unions

abbrev pub decreases-source_fits : goal.decreases-source_fits
decreases-source_fits a = source_weight a.source.now

abbrev pub decreases-joins_fit : goal.decreases-joins_fit
decreases-joins_fit a = joins_weight a.joins.now

abbrev pub decreases-from_fits : goal.decreases-from_fits
decreases-from_fits a = from_weight a.from.now

abbrev pub decreases-select_fits : goal.decreases-select_fits
decreases-select_fits a = select_weight a.select.now

abbrev pub decreases-unions_fit : goal.decreases-unions_fit
decreases-unions_fit a = unions_weight a.unions.now

abbrev pub decreases-query_fits : goal.decreases-query_fits
decreases-query_fits a = query_weight a.query.now
