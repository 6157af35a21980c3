use Rattle.std.proofs.Common.{rules, sym, subst}
use Rattle.hv_rewrite.specs.Pruned.{keeps, MatchingRowsAreKept}
use Rattle.hv_rewrite.proofs.Pruning.{matching-rows-are-kept}
use Rattle.hv_rewrite.proofs.uses.prune_rows.Goals as goal

pub returns-clause-rows : goal.returns-clause-rows
returns-clause-rows c =
    subst (λ uses. MatchingRowsAreKept c.args.condition.now c.args.width (keeps uses)) (sym (search rules))
    (matching-rows-are-kept c.args.condition.now c.args.width)
